use Rattle.std.proofs.Common.{◌∙◌, sym, [], ◌∷◌}
use Rattle.xsmp_messages.specs.declared.message.XsmpMessage.TheVariants.{RegisterClientReply}
use Rattle.session_model.specs.Errors.{bad_id}
use Rattle.session_model.specs.Moves.{Gave}
use Rattle.session_model.specs.Replies.{may_rejoin}
use Rattle.session_state.specs.Session.{reading_in}
use Rattle.manager_machine.proofs.Replying.{blamed-else}
use Rattle.session_answers.specs.Arrivals.{arrival_of}
use Rattle.manager_machine.proofs.session_core.Core.reply_to_returner.Goals as goal

pub returns : goal.returns
returns c =
    λ s. blamed-else (may_rejoin (reading_in c.args.self.now) c.args.id.now) c.args.arrival.now.conn c.in_ok-error.error (bad_id (arrival_of c.args.arrival.now)) (Gave c.args.arrival.now.conn (RegisterClientReply c.args.id.now) ∷ [])
    (sym c.may_rejoin.ensures ∙ c.if-may_rejoin.false) c.in_ok-error.ensures
