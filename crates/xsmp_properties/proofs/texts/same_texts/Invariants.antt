use Rattle.std.proofs.Common.{◌≡◌, drop}
use Rattle.std.specs.Str.{bytes_eq}
use Rattle.std.specs.Cmp.Lexicographic.{pointwise}
use Rattle.xsmp_properties.proofs.texts.same_texts.Given as goal

abbrev pub invariant-loop-text : goal.invariant-loop-text
invariant-loop-text l = pointwise bytes_eq (drop l.text-index l.first) l.left ≡ pointwise bytes_eq l.first l.second
