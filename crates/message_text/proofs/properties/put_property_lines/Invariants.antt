use Rattle.std.proofs.Common.{◌≡◌, ◌++◌, drop}
use Rattle.std.specs.List.{flat_map}
use Rattle.message_text.specs.Properties.{property_line}
use Rattle.message_text.proofs.properties.put_property_lines.Given as goal

abbrev pub invariant-loop-property : goal.invariant-loop-property
invariant-loop-property l = l.out ++ flat_map property_line (drop l.property-index l.properties) ≡ l.fn.out ++ flat_map property_line l.properties
