-- A SetProperties that is heard where it lies.
use Rattle.std.specs.Prelude.{List, None, Option, Some, option_map, ◌≡◌}
use Rattle.ice_values.specs.Walks.{walk_left}
use Rattle.ice_values.specs.declared.property.Property.{Property}
use Rattle.ice_values.specs.declared.walk.PropertyWalk.{PropertyWalk}
use Rattle.xsmp_messages.specs.declared.message.XsmpMessage.{XsmpMessage}
use Rattle.xsmp_messages.specs.declared.message.XsmpMessage.TheVariants.{SetProperties}
use Rattle.session_model.specs.declared.events.Arrival.{Arrival}
use Rattle.session_model.specs.declared.events.SessionEvent.{SessionEvent}
use Rattle.session_model.specs.declared.events.SessionEvent.TheVariants.{Said}
use Rattle.manager_machine.specs.declared.settings.Setting.{Setting}

-- the message
abbrev pub set_by : Setting → XsmpMessage
set_by setting = SetProperties (walk_left setting.walk)

-- what arrived
abbrev pub arrived : Setting → Arrival
arrived setting = record { conn = setting.conn; message = set_by setting; sequence = setting.sequence; frame = setting.frame.now }

-- the event that it is
abbrev pub setting_event : Setting → SessionEvent
setting_event setting = Said setting.conn (set_by setting) setting.sequence setting.frame.now

-- the properties that a message sets
abbrev pub set_in : XsmpMessage → Option (List Property)
set_in (SetProperties list) = Some list
set_in m = None

-- A walk over the properties that a message sets; none where it sets none.
abbrev pub WalksSet : XsmpMessage → Option PropertyWalk → Type 0
WalksSet m walk = set_in m ≡ option_map walk_left walk
