-- A client of which only this is known: it takes each part of its manager's stream as its tables say, and says by itself what it may.
use Rattle.std.specs.Prelude.{Bool, List, [], cond, false, not, true, ℕ, ◌&&◌, ◌||◌, ◌∷◌}
use Rattle.xsmp_messages.specs.declared.message.XsmpMessage.{XsmpMessage}
use Rattle.xsmp_messages.specs.declared.message.XsmpMessage.TheVariants.{ConnectionClosed}
use Rattle.client_machine.specs.Asking.{after_asked, requested}
use Rattle.client_machine.specs.declared.requests.Request.{Request}
use Rattle.client_engine.specs.Answering.{changed, is_closing, may_ask_at, stopped}
use Rattle.client_engine.specs.Driving.{Step, behind, reacting, stays}
use Rattle.client_engine.specs.Places.{is_listening}
use Rattle.client_engine.specs.declared.hearing.Cue.{Cue}
use Rattle.client_engine.specs.declared.hearing.Cue.TheVariants.{Die}
use Rattle.client_engine.specs.declared.hearing.Heard.{Heard}
use Rattle.client_engine.specs.declared.place.Place.{Place}
use Rattle.client_engine.specs.declared.place.Place.TheVariants.{Speaking}
use Rattle.client_engine.specs.declared.place.Talk.{Talk}
use Rattle.protocol_messages.specs.declared.message.Message.{Message}
use Rattle.protocol_messages.specs.declared.message.Message.TheVariants.{Xsmp}

-- what a client wants to say by itself
pub data Wish : Type 0 where
  Asks : Request → Wish
  Closes : List (List ℕ) → Wish

pub record Client : Type 0 where
  pub talk : Talk
  -- it was told to die, and hasn't closed yet
  pub dying : Bool

abbrev pub is_speaking : Place → Bool
is_speaking (Speaking joined s) = true
is_speaking place = false

-- it asks what it may, and closes where it speaks or was told to die
abbrev pub may_wish : Wish → Client → Bool
may_wish (Asks request) client = may_ask_at request client.talk.place && not (is_closing request)
may_wish (Closes reasons) client = is_speaking client.talk.place || client.dying

abbrev pub said_in : Wish → XsmpMessage
said_in (Asks request) = requested request
said_in (Closes reasons) = ConnectionClosed reasons

abbrev pub after_wish : Wish → Client → Client
after_wish (Asks request) client = record client { talk = changed (after_asked request) client.talk }
after_wish (Closes reasons) client = record { talk = stopped client.talk; dying = false }

-- what may not be isn't done
abbrev pub wished : Wish → Client → Step Client Message
wished wish client = cond (may_wish wish client) (record { line = Xsmp (said_in wish) ∷ []; next = after_wish wish client }) (stays client)

abbrev pub does : List Wish → Client → Step Client Message
does [] client = stays client
does (wish ∷ wishes) client = behind (wished wish client).line (does wishes (wished wish client).next)

-- at a part it says what its tables say, and then what it wishes

abbrev pub stand_at : Talk → Client → Client
stand_at talk client = record client { talk = talk }

abbrev pub cued : Client → List Wish → Cue → Step Client Message
cued client wishes Die = does wishes (record client { dying = true })
cued client wishes cue = does wishes client

abbrev pub reacts : Client → Heard → List Wish → Step Client Message
reacts client heard wishes = cond (is_listening client.talk.place) (reacting stand_at (λ message. message) cued client heard wishes) (stays client)

abbrev pub talk_of : Client → Talk
talk_of client = client.talk
