use Rattle.std.proofs.Common.{◌∙◌, sym, [], ◌∷◌, ◌+◌}
use Rattle.xsmp_messages.specs.declared.message.XsmpMessage.TheVariants.{RegisterClientReply}
use Rattle.checkpoint_records.specs.Rules.{client_id}
use Rattle.session_model.specs.Errors.{no_room}
use Rattle.session_model.specs.Moves.{Gave}
use Rattle.session_model.specs.Replies.{has_no_room}
use Rattle.session_state.specs.Session.{reading_in}
use Rattle.manager_machine.proofs.Replying.{turned-away}
use Rattle.session_answers.specs.Arrivals.{arrival_of}
use Rattle.manager_machine.proofs.session_core.Core.reply_to_newcomer.Goals as goal

pub returns-then-has_no_room : goal.returns-then-has_no_room
returns-then-has_no_room c =
    λ s. turned-away (has_no_room (reading_in c.args.self.now)) c.args.arrival.now.conn c.in_ok-error.error (no_room (arrival_of c.args.arrival.now))
    (Gave c.args.arrival.now.conn (RegisterClientReply (client_id (reading_in c.args.self.now).store.book.epoch ((reading_in c.args.self.now).run.given + 1))) ∷ []) (sym c.has_no_room.ensures ∙ c.if-has_no_room.true) c.in_ok-error.ensures
