-- What an agent does about a part of its outer manager's stream.
use Rattle.std.proofs.Common.{◌≡◌, ℕ, Bool, true, false, List, [], ◌∷◌, ◌++◌, Option, None, Some, Result, Ok, Err, refl, sym, ◌∙◌, ap, append_assoc, append-nil}
use Rattle.std.specs.Prelude.{MatchOption, OnOk, is_some, unwrap_or}
use Rattle.std.proofs.lemmas.Bool.{false≢true}
use Rattle.client_machine.specs.declared.requests.Request.TheVariants.{Close}
use Rattle.owned_lists.specs.declared.failures.NoMemory.{NoMemory}
use Rattle.client_machine.specs.Phases.{is_owing}
use Rattle.client_machine.specs.declared.saves.Stage.{Stage}
use Rattle.client_machine.specs.declared.saves.Stage.TheVariants.{First, Second, Talking, TalkingTwo}
use Rattle.client_engine.specs.Answering.{after_owed, closes, may_ask_at, stopped}
use Rattle.client_engine.specs.Driving.{StaysStopped}
use Rattle.client_engine.specs.Keeping.{Composes}
use Rattle.client_engine.specs.Messages.{spelled}
use Rattle.client_engine.specs.Places.{id_at, is_listening, phase_at}
use Rattle.client_engine.specs.declared.hearing.Cue.{Cue}
use Rattle.client_engine.specs.declared.hearing.Cue.TheVariants.{Nothing, Registered, Save, Cancelled, Complete, Die, Properties, Refused, Malformed}
use Rattle.client_engine.specs.declared.place.Place.TheVariants.{Stopped}
use Rattle.client_engine.specs.declared.place.Talk.{Talk}
use Rattle.client_engine.proofs.Acting.{is_stopped, named_closes}
use Rattle.client_engine.proofs.Driven.{still_at}
use Rattle.protocol_messages.specs.declared.message.Message.{Message}
use Rattle.protocol_messages.specs.declared.message.Message.TheVariants.{Xsmp}
use Rattle.xsmp_messages.specs.declared.message.XsmpMessage.TheVariants.{SetProperties}
use Rattle.ice_values.specs.declared.property.Property.{Property}
use Rattle.outer_agent.specs.Doing.{Carries}
use Rattle.outer_agent.specs.Script.{Keeper, cancelled, closing, closing_with, died, doing, heeded, own_set, reacts, saved, sends, talk_of}
use Rattle.outer_agent.specs.Words.{own_properties}
use Rattle.outer_agent.specs.declared.acts.AgentAct.{AgentAct}

-- ---- acts one after another

carries_more : (a b c xs ys : List AgentAct) (fault : Option NoMemory) → Carries a b xs None → Carries b c ys fault → Carries a c (xs ++ ys) fault
carries_more a b c xs ys None one two = two ∙ (ap (λ (acts : List AgentAct). acts ++ ys) one ∙ append_assoc a xs ys)
carries_more a b c xs ys (Some e) one two = tt

pub composes : Composes Carries
composes = record { none = λ acts. sym (append-nil acts); more = carries_more; cut = λ a b xs ys e one. tt }

-- ---- what a call adds

-- a message is sent, and something more is done
pub sent_and : (result : Result (Unit {0}) NoMemory) (old mid new : List AgentAct) (message said : Message) (act : AgentAct) → message ≡ said → mid ≡ old ++ sends message ∷ [] → OnOk result (new ≡ mid ++ act ∷ []) → OnOk result (new ≡ old ++ sends said ∷ act ∷ [])
sent_and (Ok x) old mid new message said act is first second =
    second ∙ (ap (λ (acts : List AgentAct). acts ++ act ∷ []) first ∙ (append_assoc old (sends message ∷ []) (act ∷ []) ∙ ap (λ (m : Message). old ++ sends m ∷ act ∷ []) is))
sent_and (Err e) old mid new message said act is first second = tt

-- one that takes nothing more is as one that closed as it was told to die
pub died_keeper : (result : Result (Unit {0}) NoMemory) (keeper next : Keeper) → keeper.talk.place ≡ Stopped → next ≡ keeper → OnOk result (next ≡ (died keeper).next)
died_keeper (Ok x) keeper next place same = same ∙ ap (λ (t : Talk). let k : Keeper = record { talk = t; words = keeper.words } in k) (is_stopped keeper.talk place)
died_keeper (Err e) keeper next place same = tt

-- one that has an ID may close, and that is what it does
module _ {I : Type 0} (bytes_of : I → List ℕ) (keeper : Keeper) where
  pub may_close : (id : Option I) → MatchOption id (id_at keeper.talk.place ≡ None) (λ i. id_at keeper.talk.place ≡ Some (bytes_of i)) → is_some id ≡ true → may_ask_at (Close []) keeper.talk.place ≡ true
  may_close None named known = absurd (false≢true known)
  may_close (Some i) named known = named_closes keeper.talk.place (bytes_of i) named

  pub closes_named : (id : Option I) → MatchOption id (id_at keeper.talk.place ≡ None) (λ i. id_at keeper.talk.place ≡ Some (bytes_of i)) → is_some id ≡ true → closing keeper ≡ doing (spelled (closes [])) (record keeper { talk = stopped keeper.talk })
  closes_named None named known = absurd (false≢true known)
  closes_named (Some i) named known = ap (closing_with keeper) named

pub own_set_of : (keeper : Keeper) (set : List Property) (words : List (List ℕ)) (id : List ℕ) → set ≡ own_properties words id → words ≡ keeper.words → id ≡ unwrap_or (id_at keeper.talk.place) [] → Xsmp (SetProperties set) ≡ own_set keeper
own_set_of keeper set words id is same named =
    ap (λ (ps : List Property). Xsmp (SetProperties ps)) (is ∙ (ap (λ (ws : List (List ℕ)). own_properties ws id) same ∙ ap (λ (bytes : List ℕ). own_properties keeper.words bytes) named))

-- ---- one that has stopped stays so

abbrev IsStopped : Keeper → Type 0
IsStopped keeper = is_listening keeper.talk.place ≡ false

stopped_saved : (keeper : Keeper) (stage : Stage) → IsStopped keeper → IsStopped (saved keeper stage).next
stopped_saved keeper First deaf = deaf
stopped_saved keeper Second deaf = deaf
stopped_saved keeper Talking deaf = deaf
stopped_saved keeper TalkingTwo deaf = deaf

stopped_cancelled : (keeper : Keeper) (owing : Bool) → IsStopped keeper → IsStopped (cancelled keeper owing).next
stopped_cancelled keeper true deaf = still_at (after_owed true) keeper.talk.place deaf
stopped_cancelled keeper false deaf = deaf

stopped_heeded : (keeper : Keeper) (cue : Cue) → IsStopped keeper → IsStopped (heeded keeper cue).next
stopped_heeded keeper Nothing deaf = deaf
stopped_heeded keeper (Registered id) deaf = deaf
stopped_heeded keeper (Save ask) deaf = stopped_saved keeper ask.stage deaf
stopped_heeded keeper Cancelled deaf = stopped_cancelled keeper (is_owing (phase_at keeper.talk.place)) deaf
stopped_heeded keeper Complete deaf = deaf
stopped_heeded keeper Die deaf = refl
stopped_heeded keeper (Properties list) deaf = deaf
stopped_heeded keeper (Refused class) deaf = deaf
stopped_heeded keeper (Malformed at) deaf = deaf

pub stays_stopped : StaysStopped tt talk_of reacts
stays_stopped = record {
  still = λ keeper r deaf. refl;
  stops = λ keeper heard r deaf. stopped_heeded (record keeper { talk = heard.next }) heard.cue deaf;
}
