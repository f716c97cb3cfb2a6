use Rattle.std.proofs.Common.{rules, ◌≡◌, Some, None, true, position, refl, ap, ◌∙◌, subst, List}
use Rattle.window_follower.specs.Windows.{is_of, marked}
use Rattle.window_follower.specs.declared.windows.Followed.{Followed}
use Rattle.window_follower.proofs.WindowLaws.{row_changed, unchanged}
use Rattle.window_follower.proofs.windows.Windows.mark.Goals as goal

pub returns-in-Some : goal.returns-in-Some
returns-in-Some c =
    let at : position (is_of c.args.window) c.self.inside.rows.items ≡ Some c.in-Some.place = search rules in
    row_changed c.args.window (λ (row : Followed). record row { listed = true }) c.self.inside.rows.items c.in-Some.place c.index_mut.result.now _ at c.index_mut.ensures.value refl ∙ ap (marked c.args.window) c.self.view_is

pub returns-in_default : goal.returns-in_default
returns-in_default c =
    let none : position (is_of c.args.window) c.self.inside.rows.items ≡ None = search rules in
    subst (λ (rows : List Followed). rows ≡ marked c.args.window rows) c.self.view_is (unchanged c.args.window (λ (row : Followed). record row { listed = true }) c.self.inside.rows.items none)
