use Rattle.manager_machine.specs.Heard.{event_of}
use Rattle.manager_machine.proofs.Keeping.{run-order, run-settles}
use Rattle.manager_machine.proofs.session_core.Core.take_said.Goals as goal

pub answer_message-requires : goal.answer_message-requires
answer_message-requires c = run-order c.args.self.now c.requires.of_run

pub end_turn-requires : goal.end_turn-requires
end_turn-requires c = run-settles (event_of c.args.arrival.now) c.args.self.now c.answer_message.new.self c.requires.of_run c.requires.takes c.in_ok-answer_message.ensures
