-- A client with callbacks as a free client.
use Rattle.std.specs.Prelude.{◌≡◌, List, [], ◌∷◌, None, Option, Result, map, ℕ}
use Rattle.std.specs.List.{AllByRecursion, flat_map}
use Rattle.ice_cookie.specs.declared.cookies.Cookie.{Cookie}
use Rattle.ice_messages.specs.declared.message.IceMessage.TheVariants.{ByteOrder}
use Rattle.ice_values.specs.declared.numbers.Endian.TheVariants.{Lsb}
use Rattle.sm_world.specs.Outside.{adds}
use Rattle.sm_world.specs.declared.effects.Effect.{Effect}
use Rattle.sm_world.specs.declared.effects.Effect.TheVariants.{Heard, Sent}
use Rattle.client_peer.specs.Peers.{received}
use Rattle.client_machine.specs.declared.saves.SaveAnswer.{SaveAnswer}
use Rattle.client_machine.specs.declared.saves.SaveAsk.{SaveAsk}
use Rattle.client_machine.specs.Saves.{IsLawful}
use Rattle.client_engine.specs.Driving.{Run}
use Rattle.protocol_messages.specs.declared.message.Message.{Message}
use Rattle.protocol_messages.specs.declared.message.Message.TheVariants.{Ice}
use Rattle.client_callbacks.specs.Answers.{unasked}
use Rattle.client_callbacks.specs.Doing.{Desk, heard_in, sent}
use Rattle.client_callbacks.specs.Running.{Joins, failure_of}
use Rattle.client_callbacks.specs.declared.ends.ClientEnd.{ClientEnd}
use Rattle.client_callbacks.specs.declared.ends.JoinFault.{JoinFault}
use Rattle.client_callbacks.specs.Script.{AsksReasons, AsksSave, Came, Entry, Hears, Keeper, Notes, Says, TellsCancelled, reacts, run_after, script_from, start, talk_of}
use Rattle.stream_clients.specs.Clients.{Client}
use Rattle.keeper_clients.specs.Freedom.{FreeCame, IsFree, Meets, RunsFreely, freely_begun, freely_run}

-- its answer is lawful
abbrev pub IsAnswered : Entry → Type 0
IsAnswered (Hears bytes) = Unit {0}
IsAnswered (Says message) = Unit {0}
IsAnswered (AsksSave ask answer) = IsLawful ask answer
IsAnswered (AsksReasons reasons) = Unit {0}
IsAnswered TellsCancelled = Unit {0}
IsAnswered (Notes line) = Unit {0}

-- the effect by which it is sent, if it is
abbrev pub sent_by : Entry → List Effect
sent_by (Hears bytes) = []
sent_by (Says message) = sent message ∷ []
sent_by (AsksSave ask answer) = []
sent_by (AsksReasons reasons) = []
sent_by TellsCancelled = []
sent_by (Notes line) = []

abbrev pub sending : Message → List Effect
sending message = sent message ∷ []

-- the stream's end is no piece
abbrev pub a_piece : List ℕ → List (List ℕ)
a_piece [] = []
a_piece (b ∷ bytes) = (b ∷ bytes) ∷ []

-- A whole run: what it sends of all that it receives, until it is at its end.
abbrev pub RunIsFree : Type 0
RunIsFree =
    (run : Run Keeper) (free : Run Client) (cames : List Came) → Meets talk_of run free → AllByRecursion IsAnswered (script_from run cames)
    → RunsFreely talk_of sent_by sending free (flat_map a_piece (heard_in (script_from run cames))) (script_from run cames) (run_after run cames)

-- where each answer to a save is lawful
pub record AreFree : Type 0 where
  pub begins : (cookie : Cookie) (previous : List ℕ) (saves : ℕ) → Meets talk_of (start cookie previous saves) (freely_begun cookie previous)
  pub hears : IsFree unasked talk_of reacts sent_by sending IsAnswered
  pub runs : RunIsFree

-- ---- what a run does

-- of these effects those by which something was sent
abbrev pub sent_of : Effect → List Effect
sent_of (Sent c bytes) = Sent c bytes ∷ []
sent_of effect = []

-- and those by which something was received
abbrev pub received_of : Effect → List Effect
received_of (Heard event) = Heard event ∷ []
received_of effect = []

-- What was sent is ByteOrder, and then what a free client says to which the pieces come that were received.
pub record SendsFreely (cookie : Cookie) (previous : List ℕ) (before after : Option (List Effect)) : Type 0 where
  pub effects : List Effect
  pub told : after ≡ adds before effects
  pub pieces : List (List ℕ)
  pub heard : flat_map received_of effects ≡ map (λ (bytes : List ℕ). Heard (received bytes)) pieces
  pub cames : List FreeCame
  pub come : map (λ (came : FreeCame). came.bytes) cames ≡ flat_map a_piece pieces
  pub says : flat_map sent_of effects ≡ sent (Ice (ByteOrder Lsb)) ∷ flat_map sending (freely_run (freely_begun cookie previous) cames).line

-- All that follows is said of callbacks that answer so.
module _ {S D C : Type 0} (answers : S → SaveAsk → SaveAnswer → S → Type 0) (gives : D → List (List ℕ) → D → Type 0) (hears : C → C → Type 0) where
  -- each answer to a save is lawful
  abbrev pub AnswersLawfully : Type 0
  AnswersLawfully = (old : S) (ask : SaveAsk) (answer : SaveAnswer) (new : S) → answers old ask answer new → IsLawful ask answer

  -- where nothing cut the run short
  abbrev pub JoinsAreFree : Type 0
  JoinsAreFree =
      (cookie : Cookie) (previous : List ℕ) (saves turns : ℕ) (old new : Desk S D C) (result : Result ClientEnd JoinFault) → AnswersLawfully → failure_of result ≡ None → Joins answers gives hears cookie previous saves turns old new result
      → SendsFreely cookie previous old.told new.told
