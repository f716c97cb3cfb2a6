-- What a free client does for a wish that it may have.
use Rattle.std.proofs.Common.{◌≡◌, ℕ, Bool, true, false, cond, not, ◌&&◌, ◌||◌, List, [], ◌∷◌, ◌++◌, Ok, Err, refl, sym, ◌∙◌, ap, append_assoc}
use Rattle.std.proofs.lemmas.Bool.{false≢true}
use Rattle.ice_values.specs.declared.property.Property.{Property}
use Rattle.xsmp_messages.specs.declared.message.XsmpMessage.TheVariants.{SetProperties}
use Rattle.client_machine.specs.Asking.{after_asked, may_ask, requested}
use Rattle.client_machine.specs.Laws.{stage_phase}
use Rattle.client_machine.specs.Phases.{ClientState, is_owing, is_registered, is_saving, phase_said}
use Rattle.client_machine.specs.Saves.{IsLawful, step_request}
use Rattle.client_machine.specs.declared.requests.AskRefusal.TheVariants.{WrongPhase}
use Rattle.client_machine.specs.declared.requests.Request.{Request}
use Rattle.client_machine.specs.declared.requests.Request.TheVariants.{Close, Done as AskDone, Set}
use Rattle.client_machine.specs.declared.saves.SaveAnswer.{SaveAnswer}
use Rattle.client_machine.specs.declared.saves.SaveAsk.{SaveAsk}
use Rattle.client_machine.specs.declared.saves.Stage.{Stage}
use Rattle.client_machine.specs.declared.saves.Stage.TheVariants.{First, Second, Talking, TalkingTwo}
use Rattle.client_machine.specs.declared.saves.Step.{Step as SaveStep}
use Rattle.client_machine.specs.declared.saves.Step.TheVariants.{Done, Interact, PhaseTwo, Talked}
use Rattle.client_engine.specs.Answering.{after_answer, after_owed, answer_messages, as_message, changed, closes, is_closing, may_ask_at, sets, stopped}
use Rattle.client_engine.specs.Driving.{Step, behind, stays}
use Rattle.client_engine.specs.Places.{on_client, phase_at}
use Rattle.client_engine.specs.Speaking.{MayAnswer}
use Rattle.client_engine.specs.declared.place.Place.{Place}
use Rattle.client_engine.specs.declared.place.Place.TheVariants.{Opening, Speaking, Stopped}
use Rattle.client_engine.specs.declared.place.Talk.{Talk}
use Rattle.client_engine.proofs.Acting.{lawful_said}
use Rattle.protocol_messages.specs.declared.message.Message.{Message}
use Rattle.protocol_messages.specs.declared.message.Message.TheVariants.{Xsmp}
use Rattle.stream_clients.specs.Clients.{Client, Wish, after_wish, does, is_speaking, may_wish, said_in, stand_at}
use Rattle.stream_clients.specs.Clients.Wish.{Asks, Closes}

or-true : (b : Bool) → (b || true) ≡ true
or-true true = refl
or-true false = refl

-- ---- what may be is done

pub does-more : (wish : Wish) (wishes : List Wish) (client : Client) → may_wish wish client ≡ true → does (wish ∷ wishes) client ≡ behind (Xsmp (said_in wish) ∷ []) (does wishes (after_wish wish client))
does-more wish wishes client may =
    ap (λ (b : Bool). let s : Step Client Message = cond b (record { line = Xsmp (said_in wish) ∷ []; next = after_wish wish client }) (stays client) in behind s.line (does wishes s.next)) may

pub may-ask : (request : Request) (client : Client) → may_ask_at request client.talk.place ≡ true → is_closing request ≡ false → may_wish (Asks request) client ≡ true
may-ask request client may opens = ap (λ (b : Bool). b && not (is_closing request)) may ∙ ap (λ (b : Bool). true && not b) opens

pub does-asked : (request : Request) (wishes : List Wish) (client : Client) → may_ask_at request client.talk.place ≡ true → is_closing request ≡ false
    → does (Asks request ∷ wishes) client ≡ behind (Xsmp (requested request) ∷ []) (does wishes (stand_at (changed (after_asked request) client.talk) client))
does-asked request wishes client may opens = does-more (Asks request) wishes client (may-ask request client may opens)

-- what may not be isn't
pub does-refused : (request : Request) (client : Client) → may_ask_at request client.talk.place ≡ false → does (Asks request ∷ []) client ≡ stays client
does-refused request client refused =
    ap (λ (b : Bool). let s : Step Client Message = cond (b && not (is_closing request)) (record { line = Xsmp (requested request) ∷ []; next = after_wish (Asks request) client }) (stays client) in behind s.line (stays s.next)) refused

-- ---- properties

set-state : (list : List Property) (c : ClientState) (b : Bool) → cond b (record c { phase = phase_said (Set list) c.phase }) c ≡ c
set-state list c true = refl
set-state list c false = refl

set-place : (list : List Property) (place : Place) → on_client (after_asked (Set list)) place ≡ place
set-place list (Opening opener previous) = refl
set-place list (Speaking joined c) = ap (λ (s : ClientState). Speaking joined s) (set-state list c (is_registered c.phase))
set-place list Stopped = refl

-- by what it sets a client stays as it is
pub set-stays : (list : List Property) (talk : Talk) → changed (after_asked (Set list)) talk ≡ talk
set-stays list talk = ap (λ (p : Place). let t : Talk = record { place = p; counts = talk.counts } in t) (set-place list talk.place)

registered-at : (stage : Stage) → is_registered (stage_phase stage) ≡ true
registered-at First = refl
registered-at Second = refl
registered-at Talking = refl
registered-at TalkingTwo = refl

-- one who is asked how it saves may set something
pub may-set : (ask : SaveAsk) (list : List Property) (place : Place) → MayAnswer ask place → may_ask_at (Set list) place ≡ true
may-set ask list (Opening opener previous) may = absurd may
may-set ask list (Speaking joined c) may = ap is_registered may.phase ∙ registered-at ask.stage
may-set ask list Stopped may = absurd may

unfoldable pub setting : List Property → List Wish
setting [] = []
setting (p ∷ list) = Asks (Set (p ∷ list)) ∷ []

does-set : (list : List Property) (wishes : List Wish) (client : Client) → may_ask_at (Set list) client.talk.place ≡ true → does (setting list ++ wishes) client ≡ behind (sets list) (does wishes client)
unfolding setting
does-set [] wishes client may = refl
does-set (p ∷ list) wishes client may =
    does-asked (Set (p ∷ list)) wishes client may refl ∙ ap (λ (t : Talk). behind (Xsmp (SetProperties (p ∷ list)) ∷ []) (does wishes (stand_at t client))) (set-stays (p ∷ list) client.talk)

-- ---- a step of a save

opens-step : (step : SaveStep) → is_closing (step_request step) ≡ false
opens-step (Done success) = refl
opens-step PhaseTwo = refl
opens-step (Interact dialog) = refl
opens-step (Talked cancel) = refl

granted : (request : Request) (c : ClientState) (b : Bool) → may_ask request c ≡ b → as_message (cond b (Ok (requested request)) (Err (WrongPhase c.phase))) ≡ Ok (Xsmp (requested request)) → b ≡ true
granted request c true is said = refl
granted request c false is said = absurd cc

may-step : (ask : SaveAsk) (answer : SaveAnswer) (place : Place) → MayAnswer ask place → IsLawful ask answer → may_ask_at (step_request answer.step) place ≡ true
may-step ask answer (Opening opener previous) may lawful = absurd may
may-step ask answer (Speaking joined c) may lawful = granted (step_request answer.step) c (may_ask (step_request answer.step) c) refl (lawful_said ask answer (Speaking joined c) may lawful)
may-step ask answer Stopped may lawful = absurd may

-- what a client wishes that answers so
unfoldable pub answering : SaveAnswer → List Wish → List Wish
answering answer wishes = setting answer.set ++ Asks (step_request answer.step) ∷ wishes

pub does-answer : (ask : SaveAsk) (answer : SaveAnswer) (wishes : List Wish) (client : Client) → MayAnswer ask client.talk.place → IsLawful ask answer
    → does (answering answer wishes) client ≡ behind (answer_messages answer) (does wishes (stand_at (changed (after_answer answer) client.talk) client))
unfolding answering
does-answer ask answer wishes client may lawful =
    let step : Request = step_request answer.step in
    let rest : Step Client Message = does wishes (stand_at (changed (after_answer answer) client.talk) client) in
    does-set answer.set (Asks step ∷ wishes) client (may-set ask answer.set client.talk.place may)
    ∙ ap (λ (s : Step Client Message). behind (sets answer.set) s) (does-asked step wishes client (may-step ask answer client.talk.place may lawful) (opens-step answer.step))
    ∙ ap (λ (ms : List Message). let s : Step Client Message = record { line = ms; next = rest.next } in s) (sym (append_assoc (sets answer.set) (Xsmp (requested step) ∷ []) rest.line))

-- ---- a save that was cancelled

pub may-owe : (place : Place) → is_owing (phase_at place) ≡ true → may_ask_at (AskDone false) place ≡ true
may-owe (Opening opener previous) owing = absurd (false≢true owing)
may-owe (Speaking joined c) owing = ap (λ (b : Bool). is_saving c.phase || b) owing ∙ or-true (is_saving c.phase)
may-owe Stopped owing = absurd (false≢true owing)

owed-place : (place : Place) → on_client (after_owed false) place ≡ place
owed-place (Opening opener previous) = refl
owed-place (Speaking joined c) = refl
owed-place Stopped = refl

pub owed-stays : (talk : Talk) → changed (after_owed false) talk ≡ talk
owed-stays talk = ap (λ (p : Place). let t : Talk = record { place = p; counts = talk.counts } in t) (owed-place talk.place)

-- ---- the end

pub speaks : (place : Place) → may_ask_at (Close []) place ≡ true → is_speaking place ≡ true
speaks (Opening opener previous) may = absurd (false≢true may)
speaks (Speaking joined c) may = refl
speaks Stopped may = absurd (false≢true may)

pub does-close : (reasons : List (List ℕ)) (client : Client) → is_speaking client.talk.place ≡ true → does (Closes reasons ∷ []) client ≡ record { line = closes reasons ∷ []; next = record { talk = stopped client.talk; dying = false } }
does-close reasons client speaking = does-more (Closes reasons) [] client (ap (λ (b : Bool). b || client.dying) speaking)

-- one that was told to die
pub does-die : (reasons : List (List ℕ)) (client : Client) → does (Closes reasons ∷ []) (record client { dying = true }) ≡ record { line = closes reasons ∷ []; next = record { talk = stopped client.talk; dying = false } }
does-die reasons client = does-more (Closes reasons) [] (record client { dying = true }) (or-true (is_speaking client.talk.place))
