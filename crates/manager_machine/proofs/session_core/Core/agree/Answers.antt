use Rattle.session_clients.specs.Clients.{phase_in}
use Rattle.std.proofs.Common.{◌≡◌, ◌∙◌, ◌||◌, ap, cond, []}
use Rattle.session_model.specs.Moves.{Agreed}
use Rattle.session_model.specs.Phases.{is_shutdown}
use Rattle.session_model.specs.Reading.{wanted_in}
use Rattle.session_state.specs.Session.{Session, moved}
use Rattle.manager_machine.specs.contracts.session_core.Core.{the_view}
use Rattle.manager_machine.proofs.RoundMoves.{agreed-by}
use Rattle.manager_machine.proofs.session_core.Core.agree.Goals as goal

pub returns : goal.returns
returns c =
    let s = the_view c.self.inside in
    let waits : c.end.new.self ≡ cond (is_shutdown (wanted_in s.round)) [] s.waits = rw (← c.wanted-wanted.ensures, ← c.is_shutdown.ensures) c.end.ensures in
    let ending : c.ends_with-self-inside.result ≡ (s.is_ending || is_shutdown (wanted_in s.round)) = rw (← c.wanted-wanted.ensures) c.ends_with-self-inside.ensures in
    agreed-by s c.end.new.self c.ends_with-self-inside.result c.agree.new.self waits ending (c.agree.ensures (λ d. phase_in d s.clients.rows)) ∙ ap (λ (s : Session). moved Agreed s) c.self.view_is
