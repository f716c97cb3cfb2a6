-- Each step of a pair keeps what holds of it, and so does every schedule.
use Rattle.std.proofs.Common.{◌≡◌, ◌≢◌, inl, inr, refl, sym, ap, subst, ℕ, zero, suc, ◌+◌, ◌≤◌, Bool, true, false, cond, List, [], ◌∷◌, ◌++◌, length, drop, eqb, arith}
use Rattle.std.specs.Prelude.{Option, Some, None, is_some}
use Rattle.std.specs.List.{list_any}
use Rattle.ice_values.specs.Fields.{ErrorFields}
use Rattle.ice_values.specs.declared.severity.Severity.{Severity}
use Rattle.ice_values.specs.declared.severity.Severity.TheVariants.{CanContinue}
use Rattle.interact_queue.specs.Queue.{is_in, without}
use Rattle.xsmp_messages.specs.declared.message.XsmpMessage.{XsmpMessage}
use Rattle.xsmp_messages.specs.declared.message.XsmpMessage.TheVariants.{ConnectionClosed, Die, Error, GetPropertiesReply, Interact, RegisterClient, RegisterClientReply, SaveComplete, SaveYourself, SaveYourselfPhase2, ShutdownCancelled}
use Rattle.session_model.specs.declared.events.SessionEvent.{SessionEvent}
use Rattle.session_model.specs.declared.events.SessionEvent.TheVariants.{Left, Ready, Said}
use Rattle.session_model.specs.declared.phase.Phase.{Phase}
use Rattle.session_model.specs.Moves.{History, Move, Outside, ◌▷◌}
use Rattle.session_model.specs.Phases.{ready_phase}
use Rattle.session_model.specs.Reading.{reading}
use Rattle.session_model.specs.Readings as of
use Rattle.session_model.specs.Replies.{reply}
use Rattle.session_model.specs.Rules as session
use Rattle.session_model.proofs.Ruled.{differ}
use Rattle.session_model.proofs.Replied.{good-reply}
use Rattle.client_machine.specs.Asking.{after_asked, may_ask, requested}
use Rattle.client_machine.specs.Phases.{ClientState, is_dead, is_done, is_member, is_registered, is_registering, is_resting}
use Rattle.client_machine.specs.Taking.{act_taken, blamed_act, registers_again, taken}
use Rattle.client_machine.specs.declared.acts.ClientAct.{ClientAct}
use Rattle.client_machine.specs.declared.acts.ClientAct.TheVariants.{Again, Cancelled, Complete, Die as ToDie, Nothing, Properties, Registered, Unexpected}
use Rattle.client_machine.specs.declared.phase.ClientPhase.{ClientPhase}
use Rattle.client_machine.specs.declared.phase.ClientPhase.TheVariants.{Asked, AskedTwo, Registering, WantsTwo}
use Rattle.client_machine.specs.declared.requests.Request.{Request}
use Rattle.client_machine.specs.declared.saves.SaveAsk.{SaveAsk}
use Rattle.end_agreement.specs.Sides.{Agrees, Side}
use Rattle.end_agreement.specs.Hearing.{Fits, again_by, is_again}
use Rattle.end_agreement.specs.Laws.{after_closed, owes, taken_all}
use Rattle.end_agreement.specs.Meeting.{Meets}
use Rattle.end_agreement.proofs.Asking.{asking-meets, closing-meets}
use Rattle.end_agreement.proofs.Calm.{tail-nil}
use Rattle.end_agreement.proofs.Entering.{again-meets, begins-meets}
use Rattle.end_agreement.proofs.Owed.{answers-owed, saves-asked}
use Rattle.end_agreement.proofs.Taken.{agree-in-the-end, client_in, not-unexpected, suited-expected, taking-meets}
use Rattle.end_agreement.proofs.Waiting.{AreSuited, asked-suited, dead-suited}
use Rattle.end_schedules.specs.Laws.{AnswersAreFew, BothEndsAgree, ClientSendsNoBadState, KeepsAll, ManagerSendsNoBadState, answered_to, heard_all, is_bad_state, unless_ended_at}
use Rattle.end_schedules.specs.Pairs.{AllMay, May, Pair, Step, after, begun, down_of, hand, hear, heard, is_of, said_at_once, step, unless_ended}
use Rattle.end_schedules.specs.Pairs.Step.{Asks, Breaks, Closes, Happens, Hears, Takes}
use Rattle.end_schedules.specs.UnderWay.{Save, save_of, sent_to, side_of, side_with}
use Rattle.end_schedules.proofs.Own.{at-heard, own-conn}
use Rattle.end_schedules.proofs.Runs.{Stood, left-passes, others-passed, steady-reply, stood-run, stood-taken, went-passed, went-taken}
use Rattle.end_schedules.proofs.Standing.{At, Stands, Stays, gone-from, shut-out, stays-moves, stays-passed}

pub record Keeps (c : ℕ) (p : Pair) : Type 0 where
  pub stood : Stood p.history
  pub stays : Stays c p.history p.state p.up p.took
  pub few : p.answers + owes p.state.phase ≤ p.saves

-- The client asks

asked-stays : (c : ℕ) (r : Request) (h : History) (s : ClientState) (up : List XsmpMessage) (n : ℕ) → may_ask r s ≡ true → Stays c h s up n → Stays c h (after_asked r s) (up ++ requested r ∷ []) n
asked-stays c r h s up n e (inl a) = inl (record { few = a.few; meets = asking-meets r (side_of c h) s up (drop n (sent_to c h)) e a.meets; clean = a.clean })
asked-stays c r h s up n e (inr a) = inr (record { phase = a.phase; shut = a.shut; few = a.few; suited = asked-suited r s (drop n (sent_to c h)) e a.suited; clean = a.clean })

keeps-asked : (c : ℕ) (r : Request) (p : Pair) → may_ask r p.state ≡ true → Keeps c p → Keeps c (step c (Asks r) p)
keeps-asked c r p e k = record {
  stood = k.stood;
  stays = asked-stays c r p.history p.state p.up p.took e k.stays;
  few = omega (arith, k.few, answers-owed r p.state e);
}

-- The client closes

closed-stays : (c : ℕ) (reasons : List (List ℕ)) (h : History) (s : ClientState) (up : List XsmpMessage) (n : ℕ) → Stays c h s up n → Stays c h (after_closed s) (up ++ ConnectionClosed reasons ∷ []) n
closed-stays c reasons h s up n (inl a) = inl (record { few = a.few; meets = closing-meets reasons (side_of c h) s up (drop n (sent_to c h)) a.meets; clean = a.clean })
closed-stays c reasons h s up n (inr a) = inr (record { phase = a.phase; shut = a.shut; few = a.few; suited = dead-suited (after_closed s) (drop n (sent_to c h)) refl; clean = a.clean })

keeps-closed : (c : ℕ) (reasons : List (List ℕ)) (p : Pair) → Keeps c p → Keeps c (step c (Closes reasons) p)
keeps-closed c reasons p k = record { stood = k.stood; stays = closed-stays c reasons p.history p.state p.up p.took k.stays; few = omega (arith, k.few) }

-- The manager hears the client

ended-meets : (p : Option Phase) (save : Save) (s : ClientState) (up down : List XsmpMessage) → Meets (side_with p save) s up down → Meets (side_with p save) s (unless_ended p up) down
ended-meets None save s [] down f = f
ended-meets None save s (u ∷ up) down f = f
ended-meets (Some p) save s up down f = f

-- as XSMP hasn't ended there, the connection isn't gone
at-some : (c : ℕ) (h : History) (s : ClientState) (up : List XsmpMessage) (n : ℕ) → is_some (of.phase_of c h) ≡ true → Stays c h s up n → At c h s up n
at-some c h s up n i (inl a) = a
at-some c h s up n i (inr a) = absurd (differ i (ap (λ (q : Option Phase). is_some q) a.phase))

ended-stays : (c : ℕ) (h : History) (s : ClientState) (up : List XsmpMessage) (n : ℕ) → Stays c h s up n → Stays c h s (unless_ended (of.phase_of c h) up) n
ended-stays c h s up n (inl a) = inl (record { few = a.few; meets = ended-meets (of.phase_of c h) (save_of c h) s up (drop n (sent_to c h)) a.meets; clean = a.clean })
ended-stays c h s up n (inr a) = inr a

keeps-heard : (c sequence : ℕ) (frame : List ℕ) (m : XsmpMessage) (up : List XsmpMessage) (p : Pair) → p.up ≡ m ∷ up → is_some (of.phase_of c p.history) ≡ true → Keeps c p → Keeps c (heard c (Said c m sequence frame) up p)
keeps-heard c sequence frame m up p e i k =
    let event : SessionEvent = Said c m sequence frame in
    let g : History = session.taken event p.history in
    let own : Stays c (answered_to event p.history) p.state up p.took =
    inl (at-heard m c sequence frame p.history p.state up p.took i k.stood
    (subst (λ (xs : List XsmpMessage). At c p.history p.state xs p.took) e (at-some c p.history p.state p.up p.took i k.stays))) in
    record {
      stood = stood-taken event p.history k.stood;
      stays = ended-stays c g p.state up p.took
          (stays-passed c (answered_to event p.history) g p.state up p.took (went-passed c (answered_to event p.history) g (went-taken event p.history k.stood.good k.stood.steady)) own);
      few = k.few;
    }

keeps-hear : (c sequence : ℕ) (frame : List ℕ) (up : List XsmpMessage) (p : Pair) → p.up ≡ up → is_some (of.phase_of c p.history) ≡ true → Keeps c p → Keeps c (hear c sequence frame up p)
keeps-hear c sequence frame [] p e i k = k
keeps-hear c sequence frame (m ∷ up) p e i k = keeps-heard c sequence frame m up p e i k

-- The client takes something

again-said : (b : Bool) (m : XsmpMessage) → said_at_once (cond b (Again m) Nothing) ≡ cond b (m ∷ []) []
again-said true m = refl
again-said false m = refl

blame-said : (severity : Severity) (error : ErrorFields) (s : ClientState) → said_at_once (blamed_act severity error s) ≡ cond (again_by severity error s) (RegisterClient [] ∷ []) []
blame-said CanContinue error s = again-said (registers_again error s) (RegisterClient [])
blame-said severity error s = refl

quiet-said : (b : Bool) (x y : ClientAct) → said_at_once x ≡ [] → said_at_once y ≡ [] → said_at_once (cond b x y) ≡ []
quiet-said true x y e f = e
quiet-said false x y e f = f

talk-said : (ph : ClientPhase) (id : List ℕ) (ask : SaveAsk) → said_at_once (act_taken Interact (client_in ph id ask)) ≡ []
talk-said Asked id ask = refl
talk-said AskedTwo id ask = refl
talk-said ph id ask = refl

second-said : (ph : ClientPhase) (id : List ℕ) (ask : SaveAsk) → said_at_once (act_taken SaveYourselfPhase2 (client_in ph id ask)) ≡ []
second-said WantsTwo id ask = refl
second-said ph id ask = refl

at-once : (m : XsmpMessage) (s : ClientState) → said_at_once (act_taken m s) ≡ cond (is_again m s) (RegisterClient [] ∷ []) []
at-once (Error error) s = blame-said error.severity error s
at-once (RegisterClientReply id) s = quiet-said (is_registering s.phase) (Registered id) Unexpected refl refl
at-once (SaveYourself kind shutdown style fast) s = quiet-said (is_resting s.phase) _ Unexpected refl refl
at-once Interact s = talk-said s.phase s.id s.asked
at-once SaveYourselfPhase2 s = second-said s.phase s.id s.asked
at-once SaveComplete s = quiet-said (is_done s.phase) Complete Nothing refl refl
at-once ShutdownCancelled s = quiet-said (is_member s.phase) Cancelled Nothing refl refl
at-once Die s = quiet-said (is_resting s.phase) ToDie Unexpected refl refl
at-once (GetPropertiesReply list) s = quiet-said (is_registered s.phase) (Properties list) Unexpected refl refl
at-once m s = refl

handed-at : (b : Bool) (m : XsmpMessage) (side : Side) (s : ClientState) (up down : List XsmpMessage) → is_again m s ≡ b → Meets side s up (m ∷ down) → Meets side (taken m s) (up ++ cond b (RegisterClient [] ∷ []) []) down
handed-at true m side s up down e f = again-meets m side s up down e f
handed-at false m side s up down e f = subst (λ (xs : List XsmpMessage). Meets side (taken m s) xs down) (sym (tail-nil up)) (taking-meets m side s up down f)

handed-meets : (m : XsmpMessage) (side : Side) (s : ClientState) (up down : List XsmpMessage) → Meets side s up (m ∷ down) → Meets side (taken m s) (up ++ said_at_once (act_taken m s)) down
handed-meets m side s up down f = subst (λ (xs : List XsmpMessage). Meets side (taken m s) (up ++ xs) down) (sym (at-once m s)) (handed-at (is_again m s) m side s up down refl f)

drop-suc : (n : ℕ) (xs : List XsmpMessage) (m : XsmpMessage) (down : List XsmpMessage) → drop n xs ≡ m ∷ down → (suc n ≤ length xs) × (drop (suc n) xs ≡ down)
drop-suc zero [] m down e = absurd cc
drop-suc zero (x ∷ xs) m down e = (omega arith, ap (λ (ys : List XsmpMessage). drop 1 ys) e)
drop-suc (suc n) [] m down e = absurd cc
drop-suc (suc n) (x ∷ xs) m down e = let k : (suc n ≤ length xs) × (drop (suc n) xs ≡ down) = drop-suc n xs m down e in (omega (arith, k.0), k.1)

drop-next : (n : ℕ) (xs : List XsmpMessage) (m : XsmpMessage) (down : List XsmpMessage) → drop n xs ≡ m ∷ down → (n + 1 ≤ length xs) × (drop (n + 1) xs ≡ down)
drop-next n xs m down e =
    let one : suc n ≡ n + 1 = omega arith in
    subst (λ (k : ℕ). (k ≤ length xs) × (drop k xs ≡ down)) one (drop-suc n xs m down e)

hand-stays : (c : ℕ) (m : XsmpMessage) (down : List XsmpMessage) (h : History) (s : ClientState) (up : List XsmpMessage) (n : ℕ) → drop n (sent_to c h) ≡ m ∷ down → Stays c h s up n
    → Stays c h (taken m s) (up ++ said_at_once (act_taken m s)) (n + 1)
hand-stays c m down h s up n e (inl a) =
    let d : (n + 1 ≤ length (sent_to c h)) × (drop (n + 1) (sent_to c h) ≡ down) = drop-next n (sent_to c h) m down e in
    inl (record {
      few = d.0;
      meets = subst (λ (xs : List XsmpMessage). Meets (side_of c h) (taken m s) (up ++ said_at_once (act_taken m s)) xs) (sym d.1)
          (handed-meets m (side_of c h) s up down (subst (λ (xs : List XsmpMessage). Meets (side_of c h) s up xs) e a.meets));
      clean = a.clean;
    })
hand-stays c m down h s up n e (inr a) =
    let d : (n + 1 ≤ length (sent_to c h)) × (drop (n + 1) (sent_to c h) ≡ down) = drop-next n (sent_to c h) m down e in
    let f : AreSuited s (m ∷ down) = subst (λ (xs : List XsmpMessage). AreSuited s xs) e a.suited in
    inr (record { phase = a.phase; shut = a.shut; few = d.0; suited = subst (λ (xs : List XsmpMessage). AreSuited (taken m s) xs) (sym d.1) f.1; clean = a.clean })

keeps-hand : (c : ℕ) (down : List XsmpMessage) (p : Pair) → down_of c p ≡ down → Keeps c p → Keeps c (hand down p)
keeps-hand c [] p e k = k
keeps-hand c (m ∷ down) p e k = record { stood = k.stood; stays = hand-stays c m down p.history p.state p.up p.took e k.stays; few = omega (arith, k.few, saves-asked m p.state) }

-- Something else happens

pub keeps-other : (c : ℕ) (event : SessionEvent) (p : Pair) → is_of c event ≡ false → Keeps c p → Keeps c (step c (Happens event) p)
keeps-other c event p e k = record {
  stood = stood-taken event p.history k.stood;
  stays = stays-passed c p.history (session.taken event p.history) p.state p.up p.took (others-passed c event p.history e k.stood) k.stays;
  few = k.few;
}

-- The connection breaks

left-stays : (c : ℕ) (h : History) (s : ClientState) (up : List XsmpMessage) (n : ℕ) → Stays c h s up n → Stays c (Outside (Left c) ▷ h) s up n
left-stays c h s up n k =
    inr (gone-from c h (cond (eqb c c) None (of.phase_of c h)) (is_in c (without c (of.live h))) s up n (ap (λ (b : Bool). cond b None (of.phase_of c h)) (own-conn c)) (shut-out c c (of.live h) (own-conn c)) k)

pub keeps-left : (c : ℕ) (p : Pair) → Keeps c p → Keeps c (step c Breaks p)
keeps-left c p k =
    let h : History = Outside (Left c) ▷ p.history in
    let moves : List Move = reply (reading p.history) (Left c) in
    record {
      stood = stood-taken (Left c) p.history k.stood;
      stays = stays-passed c (answered_to (Left c) p.history) (session.taken (Left c) p.history) p.state p.up p.took
          (went-passed c (answered_to (Left c) p.history) (session.taken (Left c) p.history) (went-taken (Left c) p.history k.stood.good k.stood.steady))
          (stays-moves c moves h p.state p.up p.took (left-passes c p.history k.stood) (left-stays c p.history p.state p.up p.took k.stays));
      few = k.few;
    }

-- Schedules

pub keeps-step : (c : ℕ) (s : Step) (p : Pair) → May c s p → Keeps c p → Keeps c (step c s p)
keeps-step c (Asks r) p e k = keeps-asked c r p e k
keeps-step c (Hears sequence frame) p e k = keeps-hear c sequence frame p.up p refl e k
keeps-step c Takes p e k = keeps-hand c (down_of c p) p refl k
keeps-step c (Closes reasons) p e k = keeps-closed c reasons p k
keeps-step c (Happens event) p e k = keeps-other c event p e k
keeps-step c Breaks p e k = keeps-left c p k

keeps-after : (c : ℕ) (steps : List Step) (p : Pair) → AllMay c steps p → Keeps c p → Keeps c (after c steps p)
keeps-after c [] p e k = k
keeps-after c (s ∷ steps) p e k = keeps-after c steps (step c s p) e.1 (keeps-step c s p e.0 k)

at-ready : (c : ℕ) (previous : List ℕ) (asked : SaveAsk) (h : History) → of.phase_of c h ≡ None → At c (Outside (Ready c) ▷ h) (client_in Registering previous asked) (RegisterClient previous ∷ []) 0
at-ready c previous asked h e =
    subst (λ (b : Bool). Stands (side_with (cond b (ready_phase (of.phase_of c h)) (of.phase_of c h)) (save_of c h)) (client_in Registering previous asked) (RegisterClient previous ∷ []) 0 (cond b [] (sent_to c h))) (sym (own-conn c))
    (subst (λ (q : Option Phase). Stands (side_with (ready_phase q) (save_of c h)) (client_in Registering previous asked) (RegisterClient previous ∷ []) 0 []) (sym e)
    (record { few = omega arith; meets = begins-meets previous asked (save_of c h).shutdown (save_of c h).style; clean = refl }))

pub keeps-begun : (c : ℕ) (previous : List ℕ) (asked : SaveAsk) (h : History) → of.phase_of c h ≡ None → Stood h → Keeps c (begun c previous asked h)
keeps-begun c previous asked h e s = record {
  stood = stood-taken (Ready c) h s;
  stays = stays-passed c (answered_to (Ready c) h) (session.taken (Ready c) h) (client_in Registering previous asked) (RegisterClient previous ∷ []) 0
      (went-passed c (answered_to (Ready c) h) (session.taken (Ready c) h) (went-taken (Ready c) h s.good s.steady)) (inl (at-ready c previous asked h e));
  few = omega arith;
}

every : (h : History) (c : ℕ) (previous : List ℕ) (asked : SaveAsk) (steps : List Step) → Stood h → session.Takes (Ready c) (reading h) → AllMay c steps (begun c previous asked h) → Keeps c (after c steps (begun c previous asked h))
every h c previous asked steps s t e = keeps-after c steps (begun c previous asked h) e (keeps-begun c previous asked h t.1 s)

-- The laws

pub few-of : (a o s : ℕ) → a + o ≤ s → a ≤ s
few-of a o s e = omega (arith, e)

gone-agree : (p : Option Phase) (save : Save) (s : ClientState) (m : XsmpMessage) (up down : List XsmpMessage) → p ≡ None → Meets (side_with p save) s (m ∷ up) down → Fits (side_with p save) s down
gone-agree None save s m up down e f = f
gone-agree (Some p) save s m up down e f = absurd cc

agree-at : (p : Option Phase) (c : ℕ) (h g : History) (s : ClientState) (m : XsmpMessage) (up : List XsmpMessage) (n : ℕ) → of.phase_of c h ≡ p → At c h s (m ∷ up) n
    → (is_some (of.phase_of c h) ≡ true → Agrees (side_of c g) (taken_all (drop n (sent_to c g)) s)) → Agrees (side_of c (unless_ended_at p h g)) (taken_all (drop n (sent_to c (unless_ended_at p h g))) s)
agree-at None c h g s m up n e k f = agree-in-the-end (side_of c h) s (drop n (sent_to c h)) (gone-agree (of.phase_of c h) (save_of c h) s m up (drop n (sent_to c h)) e k.meets)
agree-at (Some p) c h g s m up n e k f = f (ap (λ (q : Option Phase). is_some q) e)

stood-answered : (event : SessionEvent) (h : History) → Stood h → Stood (answered_to event h)
stood-answered event h s = record { good = good-reply event h s.good; steady = steady-reply event h s.good s.steady }

pub agree-all : (c : ℕ) (numbers : ℕ → ℕ) (frames : ℕ → List ℕ) (k : ℕ) (up : List XsmpMessage) (h : History) (s : ClientState) (n : ℕ) → Stood h → At c h s up n
    → Agrees (side_of c (heard_all c numbers frames k up h)) (taken_all (drop n (sent_to c (heard_all c numbers frames k up h))) s)
agree-all c numbers frames k [] h s n w a = agree-in-the-end (side_of c h) s (drop n (sent_to c h)) a.meets
agree-all c numbers frames k (m ∷ up) h s n w a =
    let event : SessionEvent = Said c m (numbers k) (frames k) in
    agree-at (of.phase_of c h) c h (heard_all c numbers frames (k + 1) up (answered_to event h)) s m up n refl a
    (λ i. agree-all c numbers frames (k + 1) up (answered_to event h) s n (stood-answered event h w) (at-heard m c (numbers k) (frames k) h s up n i w a))

clean-of : (c : ℕ) (h : History) (s : ClientState) (up : List XsmpMessage) (n : ℕ) → Stays c h s up n → list_any is_bad_state (sent_to c h) ≡ false
clean-of c h s up n (inl a) = a.clean
clean-of c h s up n (inr a) = a.clean

expected-of : (c : ℕ) (h : History) (s : ClientState) (up : List XsmpMessage) (n : ℕ) (m : XsmpMessage) (down : List XsmpMessage) → drop n (sent_to c h) ≡ m ∷ down → is_dead s.phase ≡ false → Stays c h s up n → act_taken m s ≢ Unexpected
expected-of c h s up n m down e alive (inl a) = not-unexpected m (side_of c h) s up down alive (subst (λ (xs : List XsmpMessage). Meets (side_of c h) s up xs) e a.meets)
expected-of c h s up n m down e alive (inr a) =
    let f : AreSuited s (m ∷ down) = subst (λ (xs : List XsmpMessage). AreSuited s xs) e a.suited in
    suited-expected m s alive f.0

live-at : (c : ℕ) (h : History) (s : ClientState) (up : List XsmpMessage) (n : ℕ) → is_in c (of.live h) ≡ true → Stays c h s up n → At c h s up n
live-at c h s up n l (inl a) = a
live-at c h s up n l (inr a) = absurd (differ l a.shut)

pub keeps-all : (c : ℕ) (p : Pair) → Keeps c p → KeepsAll c p
keeps-all c p k = record {
  no_bad_state = clean-of c p.history p.state p.up p.took k.stays;
  expected = λ m down e alive. expected-of c p.history p.state p.up p.took m down e alive k.stays;
  agree = λ l numbers frames. agree-all c numbers frames 0 p.up p.history p.state p.took k.stood (live-at c p.history p.state p.up p.took l k.stays);
  few = few-of p.answers (owes p.state.phase) p.saves k.few;
}

few-by : (c : ℕ) (p : Pair) → Keeps c p → p.answers ≤ p.saves
few-by c p k = few-of p.answers (owes p.state.phase) p.saves k.few

pub no-bad-state : ManagerSendsNoBadState
no-bad-state book events c previous asked steps t e = (keeps-all c _ (every _ c previous asked steps (stood-run book events) t e)).no_bad_state

pub no-unexpected : ClientSendsNoBadState
no-unexpected book events c previous asked steps t e = (keeps-all c _ (every _ c previous asked steps (stood-run book events) t e)).expected

pub both-agree : BothEndsAgree
both-agree book events c previous asked steps t e = (keeps-all c _ (every _ c previous asked steps (stood-run book events) t e)).agree

pub answers-few : AnswersAreFew
answers-few book events c previous asked steps t e = few-by c _ (every _ c previous asked steps (stood-run book events) t e)
