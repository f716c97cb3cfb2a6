use Rattle.std.proofs.Common.{◌∙◌, sym}
use Rattle.session_clients.specs.Clients.{phase_in}
use Rattle.session_state.specs.Session.{reading_in}
use Rattle.manager_machine.proofs.Replying.{in-place, out_of-place}
use Rattle.session_answers.specs.Arrivals.{arrival_of}
use Rattle.manager_machine.proofs.session_core.Core.reply_by_phase.Goals as goal

pub returns-then-not-belongs : goal.returns-then-not-belongs
returns-then-not-belongs c =
    λ s. c.refusal.ensures s
    ∙ out_of-place (reading_in c.args.self.now) (arrival_of c.args.arrival.now) c.args.arrival.now.message.now (phase_in c.args.arrival.now.conn c.args.self.now.clients.rows) (sym c.belongs.ensures ∙ c.if-not-belongs.true)

pub returns : goal.returns
returns c =
    λ s. c.in_ok-reply.ensures s
    ∙ in-place (reading_in c.args.self.now) (arrival_of c.args.arrival.now) c.args.arrival.now.message.now (phase_in c.args.arrival.now.conn c.args.self.now.clients.rows) (sym c.belongs.ensures ∙ c.if-not-belongs.false)
