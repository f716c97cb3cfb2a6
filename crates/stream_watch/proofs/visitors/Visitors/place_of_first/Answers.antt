use Rattle.std.proofs.Common.{rules, ◌≡◌, ◌-◌, Some, None, true, false}
use Rattle.std.specs.Prelude.{find, nat_lt}
use Rattle.stream_watch.specs.Visiting.{is_strange}
use Rattle.stream_watch.proofs.Shown.{just_came, had_its_time, nobody}
use Rattle.stream_watch.proofs.visitors.Visitors.place_of_first.Goals as goal

pub returns-in-Some : goal.returns-in-Some
returns-in-Some c = λ lines shows.
    let is : find is_strange c.args.self.now ≡ Some c.in-Some.row.now = search rules in
    let test : nat_lt (c.args.now - c.in-Some.row.now.since) 250 ≡ true = search rules in
    just_came c.args.now c.args.self.now lines shows c.in-Some.row.now is test

pub returns-in-Some-2 : goal.returns-in-Some-2
returns-in-Some-2 c = λ lines shows.
    let is : find is_strange c.args.self.now ≡ Some c.in-Some.row.now = search rules in
    let test : nat_lt (c.args.now - c.in-Some.row.now.since) 250 ≡ false = search rules in
    had_its_time c.args.now c.args.self.now lines shows c.in-Some.row.now is test

pub returns-in-None : goal.returns-in-None
returns-in-None c = λ lines shows.
    let is : find is_strange c.args.self.now ≡ None = search rules in
    nobody c.args.now c.args.self.now lines shows is
