use Rattle.std.proofs.Common.{[]}
use Rattle.session_model.specs.Errors.{lone_shutdown}
use Rattle.manager_machine.proofs.Replying.{blamed-then}
use Rattle.session_answers.specs.Arrivals.{arrival_of}
use Rattle.manager_machine.proofs.session_core.Core.reply_to_save_request.Goals as goal

pub returns-then-is_lone : goal.returns-then-is_lone
returns-then-is_lone c = λ s. blamed-then c.args.is_lone c.args.arrival.now.conn c.in_ok-error.error (lone_shutdown (arrival_of c.args.arrival.now)) [] c.if-is_lone.true c.in_ok-error.ensures
