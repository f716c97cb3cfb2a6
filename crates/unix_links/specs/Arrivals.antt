-- What comes from the sockets: somebody who comes, speaks, asks or goes, and never the time.
use Rattle.std.specs.Prelude.{◌≡◌}
use Rattle.sm_world.specs.Events.{HasPieceSize}
use Rattle.sm_world.specs.declared.events.Event.{Event}
use Rattle.world_time.specs.Timely.{passed_in}

abbrev pub IsArrival : Event → Type 0
IsArrival event = HasPieceSize event × (passed_in event ≡ 0)
