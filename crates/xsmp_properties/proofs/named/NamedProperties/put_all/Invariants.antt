use Rattle.std.proofs.Common.{◌≡◌, drop}
use Rattle.xsmp_properties.specs.Tables.{set_all}
use Rattle.xsmp_properties.proofs.named.NamedProperties.put_all.Given as goal

abbrev pub invariant-loop-property : goal.invariant-loop-property
invariant-loop-property l = set_all l.self (drop l.property-index l.list) ≡ set_all l.initial.self l.list
