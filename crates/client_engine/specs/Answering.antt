-- What a client says at its keeper's wish, and where it stands then.
use Rattle.std.specs.Prelude.{ℕ, ◌≤◌, Bool, cond, false, true, ◌&&◌, length, List, [], ◌∷◌, ◌++◌, Option, None, Some, Result, Ok, Err}
use Rattle.std.specs.List.{AllByRecursion}
use Rattle.ice_values.specs.declared.property.Property.{Property}
use Rattle.xsmp_messages.specs.declared.message.XsmpMessage.{XsmpMessage}
use Rattle.xsmp_messages.specs.declared.message.XsmpMessage.TheVariants.{SetProperties, ConnectionClosed}
use Rattle.client_machine.specs.Asking.{after_asked, answered, may_ask, requested}
use Rattle.client_machine.specs.Phases.{ClientState}
use Rattle.client_machine.specs.Saves.{step_request}
use Rattle.client_machine.specs.declared.phase.ClientPhase.TheVariants.{Registering, Dead}
use Rattle.client_machine.specs.declared.requests.AskRefusal.{AskRefusal}
use Rattle.client_machine.specs.declared.requests.AskRefusal.TheVariants.{WrongPhase}
use Rattle.client_machine.specs.declared.requests.Request.{Request}
use Rattle.client_machine.specs.declared.requests.Request.TheVariants.{Close, Done as AskDone}
use Rattle.client_machine.specs.declared.saves.SaveAnswer.{SaveAnswer}
use Rattle.client_machine.specs.declared.saves.Stage.{Stage}
use Rattle.client_machine.specs.declared.saves.Stage.TheVariants.{First, Second, Talking, TalkingTwo}
use Rattle.client_engine.specs.Places.{on_client}
use Rattle.protocol_messages.specs.declared.message.Message.{Message}
use Rattle.protocol_messages.specs.declared.message.Message.TheVariants.{Xsmp}
use Rattle.client_engine.specs.declared.place.Place.{Place}
use Rattle.client_engine.specs.declared.place.Place.TheVariants.{Opening, Speaking, Stopped}
use Rattle.client_engine.specs.declared.place.Talk.{Talk}

-- ---- a request at any time

-- whether it has its place: only a client that has joined asks for anything
abbrev pub may_ask_at : Request → Place → Bool
may_ask_at request (Opening opener previous) = false
may_ask_at request (Speaking joined c) = may_ask request c
may_ask_at request Stopped = false

abbrev pub as_message : Result XsmpMessage AskRefusal → Result Message AskRefusal
as_message (Ok message) = Ok (Xsmp message)
as_message (Err refusal) = Err refusal

-- its message, where it has its place
abbrev pub answered_at : Request → Place → Result Message AskRefusal
answered_at request (Opening opener previous) = Err (WrongPhase Registering)
answered_at request (Speaking joined c) = as_message (answered request c)
answered_at request Stopped = Err (WrongPhase Dead)

-- what becomes of the client, and nothing else does
abbrev pub changed : (ClientState → ClientState) → Talk → Talk
changed change talk = record talk { place = on_client change talk.place }

-- it takes nothing more
abbrev pub stopped : Talk → Talk
stopped talk = record talk { place = Stopped }

-- by this request a client says that it closes
abbrev pub is_closing : Request → Bool
is_closing (Close reasons) = true
is_closing request = false

-- what becomes of it by a request; one that says that it closes takes nothing more
abbrev pub after_request : Request → Talk → Talk
after_request request talk = cond (is_closing request && may_ask_at request talk.place) (stopped talk) (changed (after_asked request) talk)

-- ---- an answer to a save

-- what the client sets, where that isn't nothing
abbrev pub sets : List Property → List Message
sets [] = []
sets (p ∷ list) = Xsmp (SetProperties (p ∷ list)) ∷ []

-- an answer to a save is said as what the client sets and then its step
abbrev pub answer_messages : SaveAnswer → List Message
answer_messages answer = sets answer.set ++ Xsmp (requested (step_request answer.step)) ∷ []

abbrev pub after_answer : SaveAnswer → ClientState → ClientState
after_answer answer c = after_asked (step_request answer.step) c

-- once the client has talked to the user it is asked again
abbrev pub stage_again : Stage → Option Stage
stage_again Talking = Some First
stage_again TalkingTwo = Some Second
stage_again First = None
stage_again Second = None

-- ---- a save that was cancelled

-- a client whose save was cancelled before it answered owes the answer
abbrev pub owed_messages : Bool → List Message
owed_messages true = Xsmp (requested (AskDone false)) ∷ []
owed_messages false = []

abbrev pub after_owed : Bool → ClientState → ClientState
after_owed true c = after_asked (AskDone false) c
after_owed false c = c

-- ---- the client's end

-- At most 16 reasons to close, of at most 1,024 bytes each.
pub record AreFew (reasons : List (List ℕ)) : Type 0 where
  pub count : length reasons ≤ 16
  pub short : AllByRecursion (λ reason. length reason ≤ 1024) reasons

abbrev pub closes : List (List ℕ) → Message
closes reasons = Xsmp (ConnectionClosed reasons)
