use Rattle.std.proofs.Common.{◌≡◌, ◌++◌, take, map}
use Rattle.client_quirks.specs.Meanings.{meant}
use Rattle.client_quirks.proofs.meanings.add_meant.Given as goal

abbrev pub invariant-loop-value : goal.invariant-loop-value
invariant-loop-value l = l.list ≡ l.fn.list ++ map (meant l.name) (take l.value-index l.values)
