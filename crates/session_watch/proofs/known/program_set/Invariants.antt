use Rattle.std.proofs.Common.{◌≡◌, take}
use Rattle.std.specs.Prelude.{unwrap_or}
use Rattle.session_watch.specs.Knowing.{latest, set_by}
use Rattle.session_watch.proofs.known.program_set.Given as goal

abbrev pub invariant-loop-property : goal.invariant-loop-property
invariant-loop-property l = l.program ≡ unwrap_or (latest set_by (take l.property-index l.properties)) l.fn.before
