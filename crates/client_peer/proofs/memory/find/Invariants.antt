use Rattle.std.proofs.Common.{◌≡◌, drop}
use Rattle.client_peer.specs.Peers.{file_at}
use Rattle.client_peer.proofs.memory.find.Given as goal

abbrev pub invariant-loop-file : goal.invariant-loop-file
invariant-loop-file l = file_at l.path l.files ≡ file_at l.path (drop l.file-index l.files)
