use Rattle.std.proofs.Common.{◌∙◌, rules}
use Rattle.session_model.specs.Phases.{is_owing, is_shutdown}
use Rattle.session_model.specs.Reading.{wanted_in}
use Rattle.session_clients.specs.Clients.{phase_in}
use Rattle.session_state.specs.Session.{reading_in}
use Rattle.manager_machine.proofs.Replying.{no-cancel}
use Rattle.session_answers.specs.Arrivals.{arrival_of}
use Rattle.manager_machine.proofs.session_core.Core.reply_to_cancelling.Goals as goal

pub returns : goal.returns
returns c =
    λ s. c.refusal.ensures s
    ∙ no-cancel (reading_in c.args.self.now) (arrival_of c.args.arrival.now) (is_owing (phase_in c.args.arrival.now.conn c.args.self.now.clients.rows)) (is_shutdown (wanted_in c.args.self.now.round)) (search rules) (search rules)
