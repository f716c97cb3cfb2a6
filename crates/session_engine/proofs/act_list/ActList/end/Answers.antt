use Rattle.std.proofs.Common.{◌≡◌, true, false, sym, ◌∙◌, ap}
use Rattle.session_engine.specs.Acts.{acts_for_all, has_finish}
use Rattle.session_engine.proofs.Running.{finish_first, finish_second}
use Rattle.session_engine.proofs.act_list.ActList.end.Goals as goal

pub returns-then-one_ends : goal.returns-then-one_ends
returns-then-one_ends c =
    let said : has_finish c.self.inside.said.items ≡ true = ap has_finish (sym c.as_slice.ensures.value) ∙ (sym c.one_ends.ensures ∙ c.if-one_ends.true) in
    c.if-one_ends.true ∙ (sym (finish_first c.self.inside.said.items (acts_for_all c.self.inside.did) said) ∙ ap has_finish c.self.view_is)

pub returns-else-one_ends : goal.returns-else-one_ends
returns-else-one_ends c =
    let said : has_finish c.self.inside.said.items ≡ false = ap has_finish (sym c.as_slice.ensures.value) ∙ (sym c.one_ends.ensures ∙ c.if-one_ends.false) in
    c.one_did_end.ensures ∙ (ap (λ acts. has_finish (acts_for_all acts)) c.as_slice-else-one_ends.ensures ∙ (sym (finish_second c.self.inside.said.items (acts_for_all c.self.inside.did) said) ∙ ap has_finish c.self.view_is))
