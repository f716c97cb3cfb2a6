-- What has its place where a client stands, and what it makes of the client.
use Rattle.std.proofs.Common.{◌≡◌, ℕ, Bool, true, false, not, ◌&&◌, cond, List, Option, Some, None, is_some, is_none, Result, Ok, Err, IfOk, refl, sym, ◌∙◌, ap, subst}
use Rattle.std.proofs.lemmas.Bool.{false≢true}
use Rattle.xsmp_messages.specs.declared.message.XsmpMessage.{XsmpMessage}
use Rattle.protocol_messages.specs.declared.message.Message.{Message}
use Rattle.protocol_messages.specs.declared.message.Message.TheVariants.{Xsmp}
use Rattle.client_machine.specs.Asking.{after_asked, may_ask, requested}
use Rattle.client_machine.specs.Phases.{ClientState, is_registered, phase_said}
use Rattle.client_machine.specs.declared.phase.ClientPhase.{ClientPhase}
use Rattle.client_machine.specs.declared.requests.AskRefusal.{AskRefusal}
use Rattle.client_machine.specs.declared.requests.AskRefusal.TheVariants.{WrongPhase}
use Rattle.client_machine.specs.declared.requests.Request.{Request}
use Rattle.client_machine.specs.declared.requests.Request.TheVariants.{Save}
use Rattle.client_engine.specs.Answering.{after_request, answered_at, as_message, changed, is_closing, may_ask_at, stopped}
use Rattle.client_engine.specs.Places.{on_client, phase_at}
use Rattle.client_engine.specs.declared.place.Place.{Place}
use Rattle.client_engine.specs.declared.place.Place.TheVariants.{Opening, Speaking, Stopped}
use Rattle.client_engine.specs.declared.place.Talk.{Talk}
use Rattle.client_engine.specs.Cutting.{Cuts}
use Rattle.client_engine.specs.declared.engine.Core.{Core}
use Rattle.client_engine.specs.declared.engine.Taken.{Taken}
use Rattle.owned_lists.specs.declared.failures.NoMemory.{NoMemory}
use Rattle.round_agreement.specs.declared.wanted.Wanted.{Wanted}
use Rattle.session_client.specs.Hearing.{Gives, Hears, StandsAs, tells_to_die}
use Rattle.client_engine.specs.Speaking.{HasPlace}
use Rattle.client_engine.specs.declared.hearing.Cue.{Cue}
use Rattle.session_client.specs.Turns.{MaySay}
use Rattle.session_client.specs.Wishes.{MayWish, is_global, is_shutdown, wished}
use Rattle.session_client.specs.declared.client.Heard.{Heard}
use Rattle.session_client.specs.declared.wishes.SaveWish.{SaveWish}
use Rattle.session_client.specs.declared.wishes.Scope.{Scope}
use Rattle.session_client.specs.declared.wishes.Scope.TheVariants.{Own, All, Shutdown}
use Rattle.xsmp_messages.specs.declared.message.XsmpMessage.TheVariants.{SaveYourselfRequest}

-- ---- a request that has its place whenever the client has an ID

pub may_say : (request : Request) (message : XsmpMessage) (place : Place) → requested request ≡ message → ((c : ClientState) → may_ask request c ≡ is_registered c.phase) → ((phase : ClientPhase) → phase_said request phase ≡ phase) → is_registered (phase_at place) ≡ true → MaySay request place (Xsmp message)
may_say request message (Opening opener previous) is asks keeps e = absurd (false≢true e)
may_say request message (Speaking joined c) is asks keeps e = record {
  answer = ap (λ (b : Bool). as_message (cond b (Ok (requested request)) (Err (WrongPhase c.phase)))) (asks c ∙ e) ∙ ap (λ (m : XsmpMessage). Ok (Xsmp m)) is;
  stays = ap (λ (b : Bool). Speaking joined (cond b (record c { phase = phase_said request c.phase }) c)) (asks c ∙ e) ∙ ap (λ (p : ClientPhase). Speaking joined (record c { phase = p })) (keeps c.phase);
}
may_say request message Stopped is asks keeps e = absurd (false≢true e)

-- ---- what was asked

from : Message → Result Message AskRefusal → Message
from other (Ok message) = message
from other (Err refusal) = other

ok_by : (b : Bool) (request : Request) (phase : ClientPhase) (message : Message) → as_message (cond b (Ok (requested request)) (Err (WrongPhase phase))) ≡ Ok message → message ≡ Xsmp (requested request)
unfolding from
ok_by true request phase message e = sym (ap (from message) e)
ok_by false request phase message e = absurd cc

pub asked_ok : (request : Request) (place : Place) (message : Message) → answered_at request place ≡ Ok message → message ≡ Xsmp (requested request)
asked_ok request (Opening opener previous) message e = absurd cc
asked_ok request (Speaking joined c) message e = ok_by (may_ask request c) request c.phase message e
asked_ok request Stopped message e = absurd cc

err_by : (b : Bool) (request : Request) (phase : ClientPhase) (refusal : AskRefusal) → as_message (cond b (Ok (requested request)) (Err (WrongPhase phase))) ≡ Err refusal → b ≡ false
err_by true request phase refusal e = absurd cc
err_by false request phase refusal e = refl

pub asked_err : (request : Request) (place : Place) (refusal : AskRefusal) → answered_at request place ≡ Err refusal → may_ask_at request place ≡ false
asked_err request (Opening opener previous) refusal e = refl
asked_err request (Speaking joined c) refusal e = err_by (may_ask request c) request c.phase refusal e
asked_err request Stopped refusal e = refl

-- a request that has no place changes nothing
pub not_changed : (request : Request) (place : Place) → may_ask_at request place ≡ false → on_client (after_asked request) place ≡ place
not_changed request (Opening opener previous) e = refl
not_changed request (Speaking joined c) e = ap (λ (b : Bool). Speaking joined (cond b (record c { phase = phase_said request c.phase }) c)) e
not_changed request Stopped e = refl

-- ---- one who doesn't say that it closes

pub goes_on : (request : Request) (talk : Talk) → is_closing request ≡ false → after_request request talk ≡ changed (after_asked request) talk
goes_on request talk stays = ap (λ (b : Bool). cond (b && may_ask_at request talk.place) (stopped talk) (changed (after_asked request) talk)) stays

-- ---- a save that is asked for

only_of : Scope → Option ℕ
only_of Own = Some 0
only_of All = None
only_of Shutdown = None

wanted_of : SaveWish → Wanted
wanted_of wish = record { only = only_of wish.scope; from = None; kind = wish.kind; shutdown = is_shutdown wish.scope; style = wish.style; fast = wish.fast }

global_is : (scope : Scope) → is_none (only_of scope) ≡ is_global scope
unfolding only_of
global_is Own = refl
global_is All = refl
global_is Shutdown = refl

own_ends_none : (scope : Scope) → (is_some (only_of scope) && is_shutdown scope) ≡ false
unfolding only_of
own_ends_none Own = refl
own_ends_none All = refl
own_ends_none Shutdown = refl

and_true : (b : Bool) → (b && true) ≡ b
and_true true = refl
and_true false = refl

pub may_wish : (wish : SaveWish) (place : Place) → is_registered (phase_at place) ≡ true → MayWish wish place
unfolding wanted_of
may_wish wish place e = record {
  wanted = wanted_of wish;
  says = may_say (Save (wanted_of wish)) (wished wish) place
      (ap (λ (g : Bool). SaveYourselfRequest wish.kind (is_shutdown wish.scope) wish.style wish.fast g) (global_is wish.scope))
      (λ c. ap (λ (b : Bool). is_registered c.phase && not b) (own_ends_none wish.scope) ∙ and_true (is_registered c.phase))
      (λ phase. refl)
      e;
}

-- ---- a part of the stream

pub hears_some : (before after : Core) (left : List ℕ) (taken : Taken) (r : Result Heard NoMemory) → Cuts before left (Some taken) after → HasPlace taken.cue after.talk.place → IfOk r (Gives taken) → IfOk r (λ heard. StandsAs after (tells_to_die heard.cue) heard.client) → IfOk r (Hears before left)
hears_some before after left taken (Ok heard) cuts asked gives client = record {
  taken = Some taken;
  after = after;
  cuts = cuts;
  gives = gives;
  asked = subst (λ (cue : Cue). HasPlace cue after.talk.place) (sym gives.cue) asked;
  client = client;
}
hears_some before after left taken (Err e) cuts asked gives client = tt
