use Rattle.manager_machine.specs.Settings.{setting_event}
use Rattle.manager_machine.proofs.Keeping.{run-settles}
use Rattle.manager_machine.proofs.session_core.Core.take_set.Goals as goal

pub end_turn-requires : goal.end_turn-requires
end_turn-requires c = run-settles (setting_event c.args.setting.now) c.args.self.now c.answer_set.new.self c.requires.of_run c.requires.takes c.in_ok-answer_set.ensures
