use Rattle.std.proofs.Common.{◌≡◌, ◌∙◌, ap}
use Rattle.xsmp_messages.specs.declared.message.XsmpMessage.TheVariants.{SaveYourselfPhase2}
use Rattle.round_agreement.specs.Agreement.{with_second}
use Rattle.session_model.specs.Rules.{wanting_two}
use Rattle.session_state.specs.Session.{Session, in_round}
use Rattle.manager_machine.specs.Given.{told_each}
use Rattle.manager_machine.proofs.SecondPhase.{begun-second}
use Rattle.manager_machine.proofs.session_core.Core.begin_second.Goals as goal

pub returns : goal.returns
returns c = λ round is ready.
    let s = c.args.self.now in
    let began : c.start_second.new.self.round ≡ in_round with_second s.round = c.if-not-start_second.ensures.round ∙ ap (λ (t : Session). in_round with_second t.round) c.self.view_is in
    let kept : c.start_second.new.self.marks ≡ s.marks = c.if-not-start_second.ensures.marks ∙ ap (λ (t : Session). t.marks) c.self.view_is in
    let wanting : c.in_ok-wanting.wanting ≡ wanting_two round.members = c.in_ok-wanting.ensures round is ∙ c.requires.wanting round is in
    begun-second s c.tell_second.new.self c.in_ok-wanting.wanting round is wanting
    (c.in_ok-tell_second.ensures ∙ (λ i. told_each SaveYourselfPhase2 (c.as_slice.ensures i) (record (c.self.view_is i) { round = began i; marks = kept i })))
