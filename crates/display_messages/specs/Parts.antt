-- What a part of a display's stream behind the set-up says (X protocol, appendix B).
use Rattle.std.specs.Prelude.{ℕ, ◌%◌, ◌==◌, nat_lt, nat_le, if◌then◌else◌, List, length, slice_index}
use Rattle.display_messages.specs.Places.{short_at, long_at}
use Rattle.display_messages.specs.declared.request.ClientMessage.{ClientMessage}
use Rattle.display_messages.specs.declared.part.WindowNotice.{WindowNotice}
use Rattle.display_messages.specs.declared.part.ErrorKind.{ErrorKind}
use Rattle.display_messages.specs.declared.part.ErrorKind.TheVariants.{BadWindow, Other as OtherError}
use Rattle.display_messages.specs.declared.part.Event.{Event}
use Rattle.display_messages.specs.declared.part.Event.TheVariants.{CreateNotify, DestroyNotify, UnmapNotify, MapNotify, ReparentNotify, PropertyNotify, Message, Other}
use Rattle.display_messages.specs.declared.part.Part.{Part}
use Rattle.display_messages.specs.declared.part.Part.TheVariants.{Error, Reply, Event as IsEvent, Short}

-- a window, and where the event was heard
abbrev pub notice : List ℕ → WindowNotice
notice bytes = record { heard = long_at 4 bytes; window = long_at 8 bytes }

abbrev pub message_in : List ℕ → ClientMessage
message_in bytes = record { window = long_at 4 bytes; kind = long_at 8 bytes; first = long_at 12 bytes; second = long_at 16 bytes; third = long_at 20 bytes }

-- The event of a code. Of ClientMessages those of format 32 count.
abbrev pub event_of : ℕ → List ℕ → Event
event_of code bytes =
    if code == 16 then CreateNotify (notice bytes)
    else if code == 17 then DestroyNotify (notice bytes)
    else if code == 18 then UnmapNotify (notice bytes)
    else if code == 19 then MapNotify (notice bytes)
    else if code == 21 then ReparentNotify (notice bytes)
    else if code == 28 then PropertyNotify (long_at 4 bytes) (long_at 8 bytes)
    else if code == 33 then (if slice_index bytes 1 == 32 then Message (message_in bytes) else Other)
    else Other

-- which Error a code is
abbrev pub error_kind_of : ℕ → ErrorKind
error_kind_of code = if code == 3 then BadWindow else OtherError code

abbrev pub error_in : List ℕ → Part
error_in bytes = Error (short_at 2 bytes) (record { kind = error_kind_of (slice_index bytes 1); resource = long_at 4 bytes; opcode = slice_index bytes 10 })

-- The first byte is 0 for an Error and 1 for a reply; else it is an event's code, with 128 more where a program sent it.
abbrev pub part_of : List ℕ → Part
part_of bytes =
    if nat_lt (length bytes) 32 then Short
    else if slice_index bytes 0 == 0 then error_in bytes
    else if slice_index bytes 0 == 1 then Reply (short_at 2 bytes)
    else IsEvent (nat_le 128 (slice_index bytes 0)) (event_of (slice_index bytes 0 % 128) bytes)
