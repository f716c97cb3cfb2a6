use Rattle.std.proofs.Common.{not, ap, ◌∙◌}
use Rattle.round_agreement.specs.Agreement.{Agreement, all_done}
use Rattle.round_agreement.proofs.CountLaws.{all-can, else-is, then-is}
use Rattle.round_agreement.proofs.round.Round.are_done.Goals as goal

pub returns-then-self-eq0 : goal.returns-then-self-eq0
returns-then-self-eq0 c =
    let r = c.self.inside in
    then-is r.saving (not r.is_second_wanted) c.if-self-eq0.true ∙ all-can r.members.items r.saving r.is_second_wanted c.self.invariant.2 c.self.invariant.3 ∙ ap (λ (a : Agreement). all_done a.members) c.self.view_is

pub returns-else-self-eq0 : goal.returns-else-self-eq0
returns-else-self-eq0 c =
    let r = c.self.inside in
    else-is r.saving (not r.is_second_wanted) c.if-self-eq0.false ∙ all-can r.members.items r.saving r.is_second_wanted c.self.invariant.2 c.self.invariant.3 ∙ ap (λ (a : Agreement). all_done a.members) c.self.view_is
