use Rattle.std.proofs.Common.{◌≡◌, take}
use Rattle.std.specs.Prelude.{flat_map}
use Rattle.client_engine.specs.Messages.{spelled}
use Rattle.session_client.proofs.hearing.bytes_of.Given as goal

abbrev pub invariant-loop-message : goal.invariant-loop-message
invariant-loop-message l = l.bytes ≡ flat_map spelled (take l.message-index l.said)
