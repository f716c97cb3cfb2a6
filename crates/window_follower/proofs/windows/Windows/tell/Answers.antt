use Rattle.std.proofs.Common.{rules, ◌≡◌, Some, None, position, ap, ◌∙◌, subst, List}
use Rattle.window_follower.specs.Facts.{learned}
use Rattle.window_follower.specs.Windows.{is_of, told}
use Rattle.window_follower.specs.declared.facts.WindowFacts.{WindowFacts}
use Rattle.window_follower.specs.declared.windows.Followed.{Followed}
use Rattle.window_follower.proofs.WindowLaws.{row_changed, unchanged}
use Rattle.window_follower.proofs.windows.Windows.tell.Goals as goal

pub returns-in-Some : goal.returns-in-Some
returns-in-Some c =
    let at : position (is_of c.args.window) c.self.inside.rows.items ≡ Some c.in-Some.place = search rules in
    row_changed c.args.window (λ (row : Followed). record row { facts = learned c.args.fact row.facts }) c.self.inside.rows.items c.in-Some.place c.index_mut.result.now _ at c.index_mut.ensures.value (ap (λ (facts : WindowFacts). record c.index_mut.result.now { facts = facts }) c.learn.ensures) ∙ ap (told c.args.window c.args.fact) c.self.view_is

pub returns-in-None : goal.returns-in-None
returns-in-None c =
    let none : position (is_of c.args.window) c.self.inside.rows.items ≡ None = search rules in
    subst (λ (rows : List Followed). rows ≡ told c.args.window c.args.fact rows) c.self.view_is (unchanged c.args.window (λ (row : Followed). record row { facts = learned c.args.fact row.facts }) c.self.inside.rows.items none)
