use Rattle.std.proofs.Common.{◌≡◌, drop}
use Rattle.trace_reading.specs.Programs.{after_properties}
use Rattle.trace_reading.proofs.programs.after_properties.Given as goal

abbrev pub invariant-loop-property : goal.invariant-loop-property
invariant-loop-property l = after_properties l.program (drop l.property-index l.properties) ≡ after_properties l.fn.known l.properties
