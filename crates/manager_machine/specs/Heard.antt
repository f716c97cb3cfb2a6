-- A message that is heard where it lies.
use Rattle.std.specs.Prelude.{Err, Ok, Result, is_some, length, true, ℕ, ◌≡◌, ◌≤◌}
use Rattle.ice_values.specs.declared.refusals.DecodeRefusal.{DecodeRefusal}
use Rattle.interact_queue.specs.Queue.{is_in}
use Rattle.xsmp_messages.specs.Reading.{decode_at}
use Rattle.xsmp_messages.specs.declared.message.XsmpMessage.{XsmpMessage}
use Rattle.xsmp_messages.specs.declared.message.XsmpMessage.TheVariants.{GetProperties}
use Rattle.xsmp_messages.specs.declared.view.XsmpView.{XsmpView}
use Rattle.session_model.specs.Reading.{Reading}
use Rattle.session_model.specs.declared.events.SessionEvent.{SessionEvent}
use Rattle.session_model.specs.declared.events.SessionEvent.TheVariants.{Said}
use Rattle.session_answers.specs.declared.arrivals.ArrivalView.{ArrivalView}

-- the event that a message of a client is
abbrev pub event_of : ArrivalView → SessionEvent
event_of view = Said view.conn view.message.now view.sequence view.frame.now

-- the message that was read; where none was, any
abbrev pub read_as : Result XsmpMessage DecodeRefusal → XsmpMessage
read_as (Ok message) = message
read_as (Err refusal) = GetProperties

-- the message of a view, which spells one
abbrev pub message_of : XsmpView → XsmpMessage
message_of view = read_as (decode_at view.endian view.frame.now)

-- its message came on a connection, with this number among all that came there
abbrev pub heard_on : ℕ → XsmpView → ℕ → SessionEvent
heard_on c view sequence = Said c (message_of view) sequence view.frame.now

-- What that asks of the history: XSMP has begun on the connection, which is live, and the frame is no longer than frames may be.
abbrev pub Hears : ℕ → XsmpView → Reading → Type 0
Hears c view r = (is_in c r.clients.live ≡ true) × (is_some (r.clients.phase c) ≡ true) × (length view.frame.now ≤ 65544)
