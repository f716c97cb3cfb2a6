use Rattle.std.proofs.Common.{◌≡◌, drop}
use Rattle.std.specs.Prelude.{option_copied}
use Rattle.state_saver.specs.Files.{after_all, file_now}
use Rattle.state_saver.proofs.memory.MemFiles.standing.Given as goal

abbrev pub invariant-loop-effect : goal.invariant-loop-effect
invariant-loop-effect l = file_now l.fn.path l.fn.self.files l.fn.self.effects ≡ after_all l.fn.path (option_copied l.found) (drop l.effect-index l.fn.self.effects)
