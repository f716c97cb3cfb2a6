use Rattle.std.proofs.Common.{◌≡◌, drop}
use Rattle.std.specs.Str.{bytes_eq}
use Rattle.xsmp_properties.proofs.texts.same_each.Given as goal

abbrev pub invariant-loop-index : goal.invariant-loop-index
invariant-loop-index l = bytes_eq (drop l.index l.first) (drop l.index l.second) ≡ bytes_eq l.first l.second
