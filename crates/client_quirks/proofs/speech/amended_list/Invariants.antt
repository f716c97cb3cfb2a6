use Rattle.std.proofs.Common.{◌≡◌, take, map}
use Rattle.client_quirks.specs.Meanings.{amended}
use Rattle.client_quirks.proofs.speech.amended_list.Given as goal

abbrev pub invariant-loop-property : goal.invariant-loop-property
invariant-loop-property l = l.list ≡ map amended (take l.property-index l.properties)
