-- What is done about one event.
use Rattle.std.specs.Prelude.{List, Result, OnOk}
use Rattle.sm_world.specs.Outside.{Outside}
use Rattle.sm_world.specs.declared.events.Event.{Event}
use Rattle.ice_values.specs.declared.numbers.Endian.{Endian}
use Rattle.byte_relay.specs.Relaying.{Line, step}
use Rattle.byte_relay.specs.Rows.{ShowAll}
use Rattle.byte_relay.specs.Serving.{Does}
use Rattle.byte_relay.specs.declared.fault.RelayFault.{RelayFault}
use Rattle.byte_relay.specs.declared.row.Row.{Row}

-- Whatever lines the rows showed, what their step says was done, and the rows show those behind it.
abbrev pub StepsTo : Endian → Event → List Row → List Row → Outside → Outside → Result (Unit {0}) RelayFault → Type 0
StepsTo to event rows after old new result = (lines : List Line) → ShowAll rows lines → Does old new (step to lines event).line result × OnOk result (ShowAll after (step to lines event).next)
