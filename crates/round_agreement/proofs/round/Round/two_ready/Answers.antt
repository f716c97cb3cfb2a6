use Rattle.std.proofs.Common.{ap, ◌∙◌}
use Rattle.round_agreement.specs.Agreement.{Agreement, two_ready}
use Rattle.round_agreement.proofs.CountLaws.{else-is, second-can, then-is}
use Rattle.round_agreement.proofs.round.Round.two_ready.Goals as goal

pub returns-then-self-eq0 : goal.returns-then-self-eq0
returns-then-self-eq0 c =
    let r = c.self.inside in
    then-is r.saving r.is_second_wanted c.if-self-eq0.true ∙ second-can r.members.items r.saving r.is_second_wanted c.self.invariant.2 c.self.invariant.3 ∙ ap (λ (a : Agreement). two_ready a.members) c.self.view_is

pub returns-else-self-eq0 : goal.returns-else-self-eq0
returns-else-self-eq0 c =
    let r = c.self.inside in
    else-is r.saving r.is_second_wanted c.if-self-eq0.false ∙ second-can r.members.items r.saving r.is_second_wanted c.self.invariant.2 c.self.invariant.3 ∙ ap (λ (a : Agreement). two_ready a.members) c.self.view_is
