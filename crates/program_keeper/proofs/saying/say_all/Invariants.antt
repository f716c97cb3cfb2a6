use Rattle.std.proofs.Common.{◌≡◌, ◌++◌, map, take}
use Rattle.program_keeper.specs.Script.{sends}
use Rattle.program_keeper.proofs.saying.say_all.Given as goal

abbrev pub invariant-loop-message : goal.invariant-loop-message
invariant-loop-message l = l.acts ≡ l.fn.acts ++ map sends (take l.message-index l.said)
