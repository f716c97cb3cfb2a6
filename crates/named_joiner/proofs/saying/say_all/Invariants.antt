use Rattle.std.proofs.Common.{◌≡◌, ◌++◌, take}
use Rattle.std.specs.Prelude.{flat_map}
use Rattle.client_engine.specs.Messages.{spelled}
use Rattle.named_joiner.proofs.saying.say_all.Given as goal

abbrev pub invariant-loop-message : goal.invariant-loop-message
invariant-loop-message l = l.bytes ≡ l.fn.bytes ++ flat_map spelled (take l.message-index l.said)
