use Rattle.std.proofs.Common.{rules, ◌≡◌, Some, None}
use Rattle.std.specs.Prelude.{find}
use Rattle.stream_watch.specs.Visiting.{has_stayed_on, lingers}
use Rattle.stream_watch.proofs.Shown.{first_is, none_is, lingers_agree}
use Rattle.stream_watch.proofs.visitors.Visitors.lingering.Goals as goal

pub returns-in-Some : goal.returns-in-Some
returns-in-Some c = λ lines shows.
    let is : find (has_stayed_on c.args.now c.args.wait) c.args.self.now ≡ Some c.in-Some.row.now = search rules in
    first_is (has_stayed_on c.args.now c.args.wait) (lingers c.args.now c.args.wait) (lingers_agree c.args.now c.args.wait) c.args.self.now lines c.in-Some.row.now shows is

pub returns-in-None : goal.returns-in-None
returns-in-None c = λ lines shows.
    let is : find (has_stayed_on c.args.now c.args.wait) c.args.self.now ≡ None = search rules in
    none_is (has_stayed_on c.args.now c.args.wait) (lingers c.args.now c.args.wait) (lingers_agree c.args.now c.args.wait) c.args.self.now lines shows is
