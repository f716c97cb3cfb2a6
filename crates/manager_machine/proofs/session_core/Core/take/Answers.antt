use Rattle.manager_machine.proofs.Keeping.{run-order, run-settles}
use Rattle.manager_machine.proofs.session_core.Core.take.Goals as goal

pub answer-requires : goal.answer-requires
answer-requires c = run-order c.args.self.now c.requires.of_run

pub end_turn-requires : goal.end_turn-requires
end_turn-requires c = run-settles c.args.event c.args.self.now c.answer.new.self c.requires.of_run c.requires.takes c.in_ok-answer.ensures
