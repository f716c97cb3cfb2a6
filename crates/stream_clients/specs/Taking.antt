-- What a client that has joined does about a frame of its manager, told by the message that the frame spells.
use Rattle.std.specs.Prelude.{Bool, cond, false, map, true, ◌≡◌, ◌≢◌}
use Rattle.ice_setup.specs.declared.opener.Joined.{Joined}
use Rattle.xsmp_messages.specs.Messages.{IsMessage}
use Rattle.xsmp_messages.specs.declared.message.XsmpMessage.{XsmpMessage}
use Rattle.client_machine.specs.Phases.{ClientState}
use Rattle.client_machine.specs.Taking.{act_taken, taken}
use Rattle.client_machine.specs.declared.acts.ClientAct.{ClientAct}
use Rattle.client_machine.specs.declared.acts.ClientAct.TheVariants.{Die, Refused, Unexpected}
use Rattle.client_machine.specs.declared.phase.ClientPhase.TheVariants.{Dead}
use Rattle.client_engine.specs.Hearing.{frame_heard}
use Rattle.client_engine.specs.declared.hearing.Heard.{Heard}
use Rattle.client_engine.specs.declared.place.Counts.{Counts}
use Rattle.client_engine.specs.declared.place.Place.{Place}
use Rattle.client_engine.specs.declared.place.Place.TheVariants.{Speaking, Stopped}
use Rattle.protocol_messages.specs.declared.message.Message.TheVariants.{Xsmp}
use Rattle.message_streams.specs.Streams.{HasBytes, frame_of}
use Rattle.end_schedules.specs.Pairs.{said_at_once}

-- what the frame of this message brings, under the manager's opcode
abbrev pub heard_of : Joined → Counts → XsmpMessage → ClientState → Heard
heard_of joined counts m s = frame_heard counts (frame_of joined.opcode (Xsmp m)) (Speaking joined s)

-- it is told to die, or refused
abbrev pub ends : ClientAct → Bool
ends Die = true
ends (Refused class) = true
ends act = false

-- it goes on, or takes nothing more
abbrev pub place_after : Joined → ClientState → ClientAct → Place
place_after joined s act = cond (ends act) Stopped (Speaking joined s)

-- It says what the message asks at once, and is what the message makes of it. Where it takes nothing more it is dead.
pub record TakesMessage (joined : Joined) (counts : Counts) (m : XsmpMessage) (s : ClientState) : Type 0 where
  pub said : (heard_of joined counts m s).said ≡ map Xsmp (said_at_once (act_taken m s))
  pub place : (heard_of joined counts m s).next.place ≡ place_after joined (taken m s) (act_taken m s)
  pub dead : ends (act_taken m s) ≡ true → (taken m s).phase ≡ Dead

-- where the message has its place
abbrev pub ClientsTakeMessages : Type 0
ClientsTakeMessages =
    (joined : Joined) (counts : Counts) (m : XsmpMessage) (s : ClientState) → joined.opcode ≢ 0 → IsMessage m → HasBytes joined.opcode (Xsmp m) → act_taken m s ≢ Unexpected
    → TakesMessage joined counts m s
