-- What is heard in the place of a client that has left, and how it is started again.
use Rattle.std.specs.Prelude.{◌≡◌, ℕ, ◌==◌, ◌&&◌, Bool, true, false, if◌then◌else◌, List, [], ◌∷◌, ◌++◌, codes, flat_map, slice_index, Option, Some, None, is_some}
use Rattle.std.specs.List.{concat}
use Rattle.std.specs.Result.{result_ok}
use Rattle.owned_lists.specs.declared.commands.Command.{Command}
use Rattle.ice_values.specs.declared.property.Property.{Property}
use Rattle.ice_values.specs.declared.numbers.Endian.{Endian}
use Rattle.ice_framing.specs.declared.cutting.WholeFrame.{WholeFrame}
use Rattle.xsmp_messages.specs.Reading.{decode_at}
use Rattle.xsmp_messages.specs.declared.message.XsmpMessage.{XsmpMessage}
use Rattle.xsmp_messages.specs.declared.message.XsmpMessage.TheVariants.{GetPropertiesReply, RegisterClient, RegisterClientReply}
use Rattle.xsmp_properties.specs.Readers.{command_of, hint_of}
use Rattle.xsmp_properties.specs.Tables.{set_all}
use Rattle.xsmp_properties.specs.declared.hints.Hint.{Hint}
use Rattle.xsmp_properties.specs.declared.hints.Hint.TheVariants.{IfRunning, Anyway, Immediately, Never}
use Rattle.session_model.specs.Tables.{is_full}
use Rattle.frame_speech.specs.Passing.{as_frame}
use Rattle.frame_speech.specs.Speech.{is_whole, says}
use Rattle.frame_speech.specs.declared.speech.Speech.{Speech}
use Rattle.frame_speech.specs.declared.speech.Speech.TheVariants.{Silent, Greeted, Speaks, Lost}
use Rattle.late_answers.specs.Leavers.{messages_of, leaver_told, leaver_known, is_asking}
use Rattle.late_answers.specs.declared.leaver.Leaver.{Leaver}
use Rattle.late_answers.specs.declared.leaver.Line.{Line}
use Rattle.client_quirks.specs.Sides.{new_frames, alone_of, CutsOn}
use Rattle.client_quirks.specs.Exchange.{spelled}
use Rattle.client_quirks.specs.declared.side.Side.{Side}
use Rattle.client_quirks.specs.declared.tongue.Tongue.{Tongue}
use Rattle.client_quirks.specs.declared.stand_in.StandIn.{StandIn}

-- ---- what a frame says

abbrev pub is_xsmp : Speech → List ℕ → Bool
is_xsmp Silent bytes = false
is_xsmp Greeted bytes = false
is_xsmp (Speaks opcode) bytes = slice_index bytes 0 == opcode
is_xsmp Lost bytes = false

-- the message of XSMP that a frame is
abbrev pub xsmp_in : Speech → WholeFrame → Option XsmpMessage
xsmp_in speech f = if is_whole f && is_xsmp speech f.bytes then result_ok (decode_at f.endian f.bytes) else None

-- ---- who it is

abbrev pub named_by : XsmpMessage → Option (List ℕ)
named_by (RegisterClient previous) = Some previous
named_by (RegisterClientReply id) = Some id
named_by m = None

abbrev pub named_in : Option XsmpMessage → Option (List ℕ)
named_in (Some m) = named_by m
named_in None = None

-- the ID in a frame of this order
abbrev pub named_under : Speech → List ℕ → Option Endian → Option (List ℕ)
named_under speech piece None = None
named_under speech piece (Some order) = named_in (xsmp_in speech (as_frame order piece))

-- The ID with which a client registers, or is registered, by a party's piece that is one frame of this minor opcode: 1 is RegisterClient, and 2 RegisterClientReply (XSMP, chapter 10).
abbrev pub named_alone : ℕ → Side → List ℕ → Option (List ℕ)
named_alone minor side piece = if says side.speech minor piece then named_under side.speech piece (alone_of side.cutter piece) else None

-- A party's piece is one frame, in which a client registers with this ID, or is registered with it.
pub record Names (side : Side) (piece : List ℕ) (id : List ℕ) : Type 0 where
  pub order : Endian
  pub frame : new_frames side.cutter piece ≡ as_frame order piece ∷ []
  pub id_is : named_in (xsmp_in side.speech (as_frame order piece)) ≡ Some id

-- ---- how it is started again

-- Where the hint is Immediately the manager starts it as it departs.
abbrev pub is_restarted : Hint → Bool
is_restarted IfRunning = true
is_restarted Anyway = true
is_restarted Immediately = false
is_restarted Never = false

abbrev pub restart_among : List Property → Option Command
restart_among table = if is_restarted (hint_of table) then command_of (codes "RestartCommand") table else None

-- A table that is full starts nothing.
abbrev pub restart_in : List Property → Option Command
restart_in properties = if is_full (set_all [] properties) then None else restart_among (set_all [] properties)

-- ---- what is heard in its place

-- these messages as the client would have spelled them
abbrev pub line_bytes : Tongue → Line → List ℕ
line_bytes client line = flat_map (spelled client) (messages_of line)

-- what the manager hears, what is started, and what is known then
pub record Stood : Type 0 where
  pub handed : List ℕ
  pub started : List Command
  pub leaver : Leaver

abbrev pub stood : List ℕ → List Command → Leaver → Stood
stood handed started g = record { handed = handed; started = started; leaver = g }

abbrev pub commands_of : Option Command → List Command
commands_of None = []
commands_of (Some command) = command ∷ []

abbrev pub known_of : Option Command → Leaver → Stood
known_of command g = stood [] (commands_of command) (leaver_known (is_some command) g)

abbrev pub told_of : Tongue → XsmpMessage → Leaver → Stood
told_of client m g = stood (line_bytes client (leaver_told m g).line) [] (leaver_told m g).leaver

-- Its properties start it again, where it asked for them.
abbrev pub asked_of : Tongue → XsmpMessage → Leaver → Stood
asked_of client (GetPropertiesReply properties) g = known_of (restart_in properties) g
asked_of client m g = told_of client m g

abbrev pub answered_to : Tongue → XsmpMessage → Leaver → Stood
answered_to client m g = if is_asking g.stay then asked_of client m g else told_of client m g

abbrev pub stood_by : Tongue → Option XsmpMessage → Leaver → Stood
stood_by client None g = stood [] [] g
stood_by client (Some m) g = answered_to client m g

abbrev pub stood_in : Tongue → Speech → WholeFrame → Leaver → Stood
stood_in client speech f g = stood_by client (xsmp_in speech f) g

abbrev pub stood_then : Stood → Stood → Stood
stood_then x y = stood (x.handed ++ y.handed) (x.started ++ y.started) y.leaver

abbrev pub stood_all : Tongue → Speech → Leaver → List WholeFrame → Stood
stood_all client speech g [] = stood [] [] g
stood_all client speech g (f ∷ fs) = stood_then (stood_in client speech f g) (stood_all client speech (stood_in client speech f g).leaver fs)

abbrev pub stood_of : StandIn → List ℕ → Stood
stood_of s bytes = stood_all s.client s.sent.speech s.leaver (new_frames s.sent.cutter bytes)

-- these bytes of the manager's were heard in its place
pub record StandsIn (old : StandIn) (bytes : List ℕ) (list : List (List ℕ)) (started : List Command) (new : StandIn) : Type 0 where
  pub handed : concat list ≡ (stood_of old bytes).handed
  pub commands : started ≡ (stood_of old bytes).started
  pub leaver : new.leaver ≡ (stood_of old bytes).leaver
  pub client : new.client ≡ old.client
  pub speech : new.sent.speech ≡ old.sent.speech
  pub cutter : CutsOn old.sent.cutter bytes new.sent.cutter
