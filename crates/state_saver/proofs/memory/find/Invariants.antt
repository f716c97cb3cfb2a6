use Rattle.std.proofs.Common.{◌≡◌, drop}
use Rattle.state_saver.specs.Files.{file_at}
use Rattle.state_saver.proofs.memory.find.Given as goal

abbrev pub invariant-loop-file : goal.invariant-loop-file
invariant-loop-file l = file_at l.path l.files ≡ file_at l.path (drop l.file-index l.files)
