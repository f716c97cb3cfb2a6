-- Each thing that a client does is a step of a schedule.
use Rattle.std.proofs.Common.{◌≡◌, ◌≢◌, refl, sym, ap, ◌∙◌, subst, ℕ, ◌+◌, Bool, true, false, cond, not, ◌&&◌, List, [], ◌∷◌, ◌++◌, map, drop, append-nil, append_assoc, arith}
use Rattle.std.proofs.lemmas.List.{drop-drop, map-append}
use Rattle.ice_values.specs.declared.severity.Severity.{Severity}
use Rattle.ice_values.specs.declared.severity.Severity.TheVariants.{CanContinue}
use Rattle.ice_values.specs.Fields.{ErrorFields}
use Rattle.ice_framing.specs.Parts.{Part}
use Rattle.ice_setup.specs.declared.opener.Joined.{Joined}
use Rattle.xsmp_messages.specs.declared.message.XsmpMessage.{XsmpMessage}
use Rattle.xsmp_messages.specs.declared.message.XsmpMessage.TheVariants.{ConnectionClosed, Die, Error, Interact, RegisterClientReply, SaveComplete, SaveYourself, SaveYourselfPhase2, ShutdownCancelled}
use Rattle.client_machine.specs.Asking.{after_asked, may_ask, requested}
use Rattle.client_machine.specs.Phases.{ClientState, asked_phase, begun_phase, blamed_phase, cancelled_phase, completed_phase, dying_phase, held_phase, is_dead, is_resting, phase_given, phase_said, registered_phase, saved_phase, second_begun_phase, second_phase, talked_phase}
use Rattle.client_machine.specs.Taking.{act_taken, blamed_act, taken}
use Rattle.client_machine.specs.declared.acts.ClientAct.TheVariants.{Die as ToldToDie, Unexpected}
use Rattle.client_machine.specs.declared.phase.ClientPhase.{ClientPhase}
use Rattle.client_machine.specs.declared.phase.ClientPhase.TheVariants.{Asked, AskedTwo, Dead, Done, Idle, Interacting, Owing, Registering, Saving, SavingTwo, WantsTwo}
use Rattle.client_machine.specs.declared.requests.Request.{Request}
use Rattle.client_machine.specs.declared.requests.Request.TheVariants.{Close, Done as SayDone, Interact as AskDialog, InteractDone as SayTalked, PhaseTwo}
use Rattle.client_engine.specs.Answering.{changed, is_closing, may_ask_at, stopped}
use Rattle.client_engine.specs.Driving.{Step as Did, behind, parts_taken, reacting, reply, stays}
use Rattle.client_engine.specs.Hearing.{frame_heard, part_heard}
use Rattle.client_engine.specs.Places.{is_listening, on_client}
use Rattle.client_engine.specs.declared.hearing.Cue.{Cue}
use Rattle.client_engine.specs.declared.hearing.Cue.TheVariants.{Die as ToDie}
use Rattle.client_engine.specs.declared.hearing.Heard.{Heard}
use Rattle.client_engine.specs.declared.place.Place.{Place}
use Rattle.client_engine.specs.declared.place.Place.TheVariants.{Opening, Speaking, Stopped}
use Rattle.protocol_messages.specs.declared.message.Message.{Message}
use Rattle.protocol_messages.specs.declared.message.Message.TheVariants.{Xsmp}
use Rattle.message_streams.specs.Streams.{frame_of, part_of}
use Rattle.session_model.specs.Moves.{History}
use Rattle.end_agreement.proofs.Calm.{differ}
use Rattle.end_schedules.specs.Laws.{ExpectsWhatWaits}
use Rattle.end_schedules.specs.Pairs.{AllMay, Pair, Step, after, down_of, hand, said_at_once, step}
use Rattle.end_schedules.specs.Pairs.Step.{Asks as ItAsks, Closes as ItCloses, Takes as ItTakes}
use Rattle.end_schedules.specs.UnderWay.{sent_to}
use Rattle.stream_clients.specs.Clients.{Client, Wish, after_wish, cued, does, may_wish, reacts, said_in, stand_at, talk_of, wished}
use Rattle.stream_clients.specs.Clients.Wish.{Asks, Closes}
use Rattle.stream_clients.specs.Following.{Follows, FollowsParts, IsSpelled, PartsAreSteps, StandsAs, WishesAreSteps}
use Rattle.stream_clients.specs.Taking.{TakesMessage, ends, heard_of, place_after}
use Rattle.stream_clients.proofs.Receiving.{takes-message}

-- Steps in a row

pub after-both : (c : ℕ) (xs ys : List Step) (p : Pair) → after c (xs ++ ys) p ≡ after c ys (after c xs p)
after-both c [] ys p = refl
after-both c (x ∷ xs) ys p = after-both c xs ys (step c x p)

pub may-both : (c : ℕ) (xs ys : List Step) (p : Pair) → AllMay c xs p → AllMay c ys (after c xs p) → AllMay c (xs ++ ys) p
may-both c [] ys p a b = b
may-both c (x ∷ xs) ys p a b = (a.0, may-both c xs ys (step c x p) a.1 b)

follows-none : (c : ℕ) (joined : Joined) (p : Pair) (client : Client) → StandsAs joined client.talk.place p.state → Follows c joined p 0 (stays client)
follows-none c joined p client s = record { steps = []; may = tt; history = refl; took = omega arith; up = sym (append-nil (map Xsmp p.up)); stands = s }

pub follows-both : (c : ℕ) (joined : Joined) (p : Pair) (n m : ℕ) (first : Did Client Message) (done : Did Client Message) (f : Follows c joined p n first) → Follows c joined (after c f.steps p) m done → Follows c joined p (n + m) (behind first.line done)
follows-both c joined p n m first done f g =
    let e : after c (f.steps ++ g.steps) p ≡ after c g.steps (after c f.steps p) = after-both c f.steps g.steps p in
    record {
      steps = f.steps ++ g.steps;
      may = may-both c f.steps g.steps p f.may g.may;
      history = ap (λ (x : Pair). x.history) e ∙ g.history ∙ f.history;
      took = ap (λ (x : Pair). x.took) e ∙ g.took ∙ ap (λ (k : ℕ). k + m) f.took ∙ omega arith;
      up = ap (λ (x : Pair). map Xsmp x.up) e ∙ g.up ∙ ap (λ (xs : List Message). xs ++ done.line) f.up ∙ append_assoc (map Xsmp p.up) first.line done.line;
      stands = subst (λ (x : Pair). StandsAs joined done.next.talk.place x.state) (sym e) g.stands;
    }

-- One wish

and-first : (a b : Bool) → (a && b) ≡ true → a ≡ true
and-first true b e = refl
and-first false b e = e

and-second : (a b : Bool) → (a && not b) ≡ true → b ≡ false
and-second true true e = sym e
and-second true false e = refl
and-second false b e = absurd (grind arith)

saved-alive : (ph : ClientPhase) → is_dead ph ≡ false → is_dead (saved_phase ph) ≡ false
saved-alive Saving e = refl
saved-alive SavingTwo e = refl
saved-alive Owing e = refl
saved-alive ph e = e

asked-alive : (ph : ClientPhase) → is_dead ph ≡ false → is_dead (asked_phase ph) ≡ false
asked-alive Saving e = refl
asked-alive ph e = e

talked-alive : (ph : ClientPhase) → is_dead ph ≡ false → is_dead (talked_phase ph) ≡ false
talked-alive Interacting e = refl
talked-alive ph e = e

second-alive : (ph : ClientPhase) → is_dead ph ≡ false → is_dead (second_phase ph) ≡ false
second-alive Saving e = refl
second-alive ph e = e

said-alive : (r : Request) (ph : ClientPhase) → is_closing r ≡ false → is_dead ph ≡ false → is_dead (phase_said r ph) ≡ false
said-alive (SayDone success) ph n e = saved-alive ph e
said-alive (AskDialog dialog) ph n e = asked-alive ph e
said-alive (SayTalked cancel) ph n e = talked-alive ph e
said-alive PhaseTwo ph n e = second-alive ph e
said-alive (Close reasons) ph n e = absurd (grind arith)
said-alive r ph n e = e

after-alive : (r : Request) (s : ClientState) → is_closing r ≡ false → is_dead s.phase ≡ false → is_dead (after_asked r s).phase ≡ false
after-alive r s n e = by (may_ask r s) where
  by : (b : Bool) → is_dead (cond b (record s { phase = phase_said r s.phase }) s).phase ≡ false
  by true = said-alive r s.phase n e
  by false = e

says-more : (ms : List XsmpMessage) (m : XsmpMessage) → map Xsmp (ms ++ m ∷ []) ≡ map Xsmp ms ++ Xsmp m ∷ []
says-more ms m = map-append Xsmp ms (m ∷ [])

asks-step : (c : ℕ) (joined : Joined) (p : Pair) (r : Request) (client : Client) (place : Place) → client.talk.place ≡ place → (may_ask_at r place && not (is_closing r)) ≡ true → StandsAs joined place p.state
    → Follows c joined p 0 (record { line = Xsmp (requested r) ∷ []; next = record client { talk = changed (after_asked r) client.talk } })
asks-step c joined p r client (Opening opener previous) is e s = absurd s
asks-step c joined p r client Stopped is e s = absurd (grind arith)
asks-step c joined p r client (Speaking it t) is e s =
    let may : may_ask r t ≡ true = and-first (may_ask r t) (not (is_closing r)) e in
    let open_still : is_closing r ≡ false = and-second (may_ask r t) (is_closing r) e in
    record {
      steps = ItAsks r ∷ [];
      may = (subst (λ (x : ClientState). may_ask r x ≡ true) s.1 may, tt);
      history = refl;
      took = omega arith;
      up = says-more p.up (requested r);
      stands = subst (λ (x : Place). StandsAs joined (on_client (after_asked r) x) (after_asked r p.state)) (sym is) (s.0, ap (λ (x : ClientState). after_asked r x) s.1, after-alive r p.state open_still s.2);
    }

closes-step : (c : ℕ) (joined : Joined) (p : Pair) (reasons : List (List ℕ)) (client : Client) → Follows c joined p 0 (record { line = Xsmp (ConnectionClosed reasons) ∷ []; next = record { talk = stopped client.talk; dying = false } })
closes-step c joined p reasons client =
    record { steps = ItCloses reasons ∷ []; may = (tt, tt); history = refl; took = omega arith; up = says-more p.up (ConnectionClosed reasons); stands = refl }

granted : (c : ℕ) (joined : Joined) (p : Pair) (wish : Wish) (client : Client) → may_wish wish client ≡ true → StandsAs joined client.talk.place p.state → Follows c joined p 0 (record { line = Xsmp (said_in wish) ∷ []; next = after_wish wish client })
granted c joined p (Asks r) client e s = asks-step c joined p r client client.talk.place refl e s
granted c joined p (Closes reasons) client e s = closes-step c joined p reasons client

pub wish-step : (c : ℕ) (joined : Joined) (p : Pair) (wish : Wish) (client : Client) → StandsAs joined client.talk.place p.state → Follows c joined p 0 (wished wish client)
wish-step c joined p wish client s = by (may_wish wish client) refl where
  by : (b : Bool) → may_wish wish client ≡ b → Follows c joined p 0 (cond b (record { line = Xsmp (said_in wish) ∷ []; next = after_wish wish client }) (stays client))
  by true e = granted c joined p wish client e s
  by false e = follows-none c joined p client s

pub wishes-steps : WishesAreSteps
wishes-steps c joined p client [] s = follows-none c joined p client s
wishes-steps c joined p client (wish ∷ wishes) s =
    let f : Follows c joined p 0 (wished wish client) = wish-step c joined p wish client s in
    follows-both c joined p 0 0 (wished wish client) (does wishes (wished wish client).next) f (wishes-steps c joined (after c f.steps p) (wished wish client).next wishes f.stands)

-- One message

registered-alive : (ph : ClientPhase) → is_dead ph ≡ false → is_dead (registered_phase ph) ≡ false
registered-alive Registering e = refl
registered-alive ph e = e

begun-alive : (ph : ClientPhase) → is_dead ph ≡ false → is_dead (begun_phase ph) ≡ false
begun-alive Idle e = refl
begun-alive Done e = refl
begun-alive ph e = e

held-alive : (ph : ClientPhase) → is_dead ph ≡ false → is_dead (held_phase ph) ≡ false
held-alive Asked e = refl
held-alive AskedTwo e = refl
held-alive ph e = e

two-alive : (ph : ClientPhase) → is_dead ph ≡ false → is_dead (second_begun_phase ph) ≡ false
two-alive WantsTwo e = refl
two-alive ph e = e

completed-alive : (ph : ClientPhase) → is_dead ph ≡ false → is_dead (completed_phase ph) ≡ false
completed-alive Done e = refl
completed-alive ph e = e

cancelled-alive : (ph : ClientPhase) → is_dead ph ≡ false → is_dead (cancelled_phase ph) ≡ false
cancelled-alive Dead e = e
cancelled-alive ph e = refl

blamed-alive : (severity : Severity) (error : ErrorFields) (s : ClientState) → ends (blamed_act severity error s) ≡ false → is_dead s.phase ≡ false → is_dead (blamed_phase severity s.phase) ≡ false
blamed-alive CanContinue error s n e = e
blamed-alive severity error s n e = absurd (grind arith)

die-alive : (s : ClientState) (ph : ClientPhase) → s.phase ≡ ph → ends (cond (is_resting ph) ToldToDie Unexpected) ≡ false → is_dead ph ≡ false → is_dead (dying_phase ph) ≡ false
die-alive s Idle is n e = absurd (grind arith)
die-alive s Done is n e = absurd (grind arith)
die-alive s ph is n e = e

taken-alive : (m : XsmpMessage) (s : ClientState) → ends (act_taken m s) ≡ false → is_dead s.phase ≡ false → is_dead (phase_given m s.phase) ≡ false
taken-alive (Error error) s n e = blamed-alive error.severity error s n e
taken-alive (RegisterClientReply id) s n e = registered-alive s.phase e
taken-alive (SaveYourself kind shutdown style fast) s n e = begun-alive s.phase e
taken-alive Interact s n e = held-alive s.phase e
taken-alive SaveYourselfPhase2 s n e = two-alive s.phase e
taken-alive SaveComplete s n e = completed-alive s.phase e
taken-alive ShutdownCancelled s n e = cancelled-alive s.phase e
taken-alive Die s n e = die-alive s s.phase refl n e
taken-alive m s n e = e

same-list : (ms : List Message) → map (λ (m : Message). m) ms ≡ ms
same-list [] = refl
same-list (m ∷ ms) = ap (λ (xs : List Message). m ∷ xs) (same-list ms)

-- where it stands then
stands-after : (joined : Joined) (m : XsmpMessage) (s : ClientState) (b : Bool) → ends (act_taken m s) ≡ b → is_dead s.phase ≡ false → (ends (act_taken m s) ≡ true → (taken m s).phase ≡ Dead) → StandsAs joined (cond b Stopped (Speaking joined (taken m s))) (taken m s)
stands-after joined m s true e alive dead = dead e
stands-after joined m s false e alive dead = (refl, refl, taken-alive m s e alive)

cued-steps : (c : ℕ) (joined : Joined) (p : Pair) (client : Client) (wishes : List Wish) (cue : Cue) → StandsAs joined client.talk.place p.state → Follows c joined p 0 (cued client wishes cue)
cued-steps c joined p client wishes ToDie s = wishes-steps c joined p (record client { dying = true }) wishes s
cued-steps c joined p client wishes cue s = wishes-steps c joined p client wishes s

handed : (c : ℕ) (m : XsmpMessage) (rest : List XsmpMessage) (p : Pair) → down_of c p ≡ m ∷ rest → step c ItTakes p ≡ hand (m ∷ rest) p
handed c m rest p d = ap (λ (xs : List XsmpMessage). hand xs p) d

-- it takes the message, says what that asks at once, and does what it wishes
took-one : (c : ℕ) (joined : Joined) (m : XsmpMessage) (rest : List XsmpMessage) (p : Pair) (client : Client) (wishes : List Wish) → down_of c p ≡ m ∷ rest → is_dead p.state.phase ≡ false → TakesMessage joined client.talk.counts m p.state
    → Follows c joined p 1 (reacting stand_at (λ (x : Message). x) cued client (heard_of joined client.talk.counts m p.state) wishes)
took-one c joined m rest p client wishes d alive t =
    let heard : Heard = heard_of joined client.talk.counts m p.state in
    let next : Client = stand_at heard.next client in
    let q : Pair = step c ItTakes p in
    let is : q ≡ hand (m ∷ rest) p = handed c m rest p d in
    let stands : StandsAs joined next.talk.place q.state =
    subst (λ (x : Place). StandsAs joined x q.state) (sym t.place) (subst (λ (x : Pair). StandsAs joined (place_after joined (taken m p.state) (act_taken m p.state)) x.state) (sym is) (stands-after joined m p.state (ends (act_taken m p.state)) refl alive t.dead)) in
    let first : Follows c joined p 1 (record { line = map (λ (x : Message). x) heard.said; next = next }) = record {
      steps = ItTakes ∷ [];
      may = (alive, tt);
      history = ap (λ (x : Pair). x.history) is;
      took = ap (λ (x : Pair). x.took) is;
      up = ap (λ (x : Pair). map Xsmp x.up) is ∙ map-append Xsmp p.up (said_at_once (act_taken m p.state)) ∙ ap (λ (xs : List Message). map Xsmp p.up ++ xs) (sym t.said ∙ sym (same-list heard.said));
      stands = stands;
    } in
    follows-both c joined p 1 0 (record { line = map (λ (x : Message). x) heard.said; next = next }) (cued next wishes heard.cue) first (cued-steps c joined q next wishes heard.cue stands)

-- All messages of a piece

pub parts-deaf : (parts : List Part) (rs : List (List Wish)) (client : Client) → is_listening client.talk.place ≡ false → parts_taken [] talk_of reacts client parts rs ≡ stays client
parts-deaf [] rs client e = refl
parts-deaf (part ∷ parts) rs client e =
    let r : List Wish = reply [] talk_of reacts rs in
    let still : reacts client (part_heard client.talk part) r ≡ stays client = ap (λ (b : Bool). cond b (reacting stand_at (λ (x : Message). x) cued client (part_heard client.talk part) r) (stays client)) e in
    ap (λ (s : Did Client Message). behind s.line (parts_taken [] talk_of reacts s.next parts (drop 1 rs))) still ∙ parts-deaf parts (drop 1 rs) client e

waits-next : (c : ℕ) (p q : Pair) (m : XsmpMessage) (rest : List XsmpMessage) → down_of c p ≡ m ∷ rest → q.history ≡ p.history → q.took ≡ p.took + 1 → down_of c q ≡ rest
waits-next c p q m rest d h t =
    ap (λ (k : ℕ). drop k (sent_to c q.history)) t ∙ ap (λ (x : History). drop (p.took + 1) (sent_to c x)) h ∙ sym (drop-drop 1 p.took (sent_to c p.history)) ∙ ap (λ (xs : List XsmpMessage). drop 1 xs) d

spoken : (joined it : Joined) (t s : ClientState) (place : Place) → place ≡ Speaking it t → it ≡ joined → t ≡ s → place ≡ Speaking joined s
spoken joined it t s place is e f = is ∙ ap (λ (x : Joined). Speaking x t) e ∙ ap (λ (x : ClientState). Speaking joined x) f

abbrev pub Expects : ℕ → Pair → Type 0
Expects c p = (steps : List Step) → AllMay c steps p → ExpectsWhatWaits c (after c steps p)

expects-on : (c : ℕ) (p : Pair) (xs : List Step) → AllMay c xs p → Expects c p → Expects c (after c xs p)
expects-on c p xs a e = λ ys b. subst (λ (x : Pair). ExpectsWhatWaits c x) (after-both c xs ys p) (e (xs ++ ys) (may-both c xs ys p a b))

abbrev Rest : ℕ → Joined → List XsmpMessage → List XsmpMessage → Type 0
Rest c joined ms rest =
    (q : Pair) (client : Client) (wishes : List (List Wish)) → StandsAs joined client.talk.place q.state → down_of c q ≡ ms ++ rest → Expects c q
    → FollowsParts c joined q ms (parts_taken [] talk_of reacts client (map (λ (m : XsmpMessage). part_of joined.opcode (Xsmp m)) ms) wishes)

parts-first : (c : ℕ) (joined : Joined) (m : XsmpMessage) (ms rest : List XsmpMessage) (p : Pair) (client : Client) (wishes : List (List Wish)) (place : Place) → client.talk.place ≡ place → joined.opcode ≢ 0 → StandsAs joined place p.state
    → down_of c p ≡ m ∷ ms ++ rest → IsSpelled joined.opcode m → Expects c p → Rest c joined ms rest → FollowsParts c joined p (m ∷ ms) (parts_taken [] talk_of reacts client (map (λ (x : XsmpMessage). part_of joined.opcode (Xsmp x)) (m ∷ ms)) wishes)
parts-first c joined m ms rest p client wishes (Opening opener previous) is n s d h e on = absurd s
parts-first c joined m ms rest p client wishes Stopped is n s d h e on =
    let deaf : is_listening client.talk.place ≡ false = ap (λ (x : Place). is_listening x) is in
    let still : parts_taken [] talk_of reacts client (map (λ (x : XsmpMessage). part_of joined.opcode (Xsmp x)) (m ∷ ms)) wishes ≡ stays client = parts-deaf (map (λ (x : XsmpMessage). part_of joined.opcode (Xsmp x)) (m ∷ ms)) wishes client deaf in
    subst (λ (done : Did Client Message). FollowsParts c joined p (m ∷ ms) done) (sym still)
    (record { taken = 0; follows = follows-none c joined p client (subst (λ (x : Place). StandsAs joined x p.state) (sym is) s); all = λ l. absurd (differ l deaf) })
parts-first c joined m ms rest p client wishes (Speaking it t) is n s d h e on =
    let r : List Wish = reply [] talk_of reacts wishes in
    let at : client.talk.place ≡ Speaking joined p.state = spoken joined it t p.state client.talk.place is s.0 s.1 in
    let done : Did Client Message = reacts client (part_heard client.talk (part_of joined.opcode (Xsmp m))) r in
    let so : done ≡ reacting stand_at (λ (x : Message). x) cued client (heard_of joined client.talk.counts m p.state) r =
    ap (λ (x : Place). cond (is_listening x) (reacting stand_at (λ (y : Message). y) cued client (frame_heard client.talk.counts (frame_of joined.opcode (Xsmp m)) x) r) (stays client)) at in
    let k : TakesMessage joined client.talk.counts m p.state = takes-message joined client.talk.counts m p.state n h.fits h.bytes (e [] tt m (ms ++ rest) d s.2) in
    let f : Follows c joined p 1 done = subst (λ (x : Did Client Message). Follows c joined p 1 x) (sym so) (took-one c joined m (ms ++ rest) p client r d s.2 k) in
    let q : Pair = after c f.steps p in
    let g : FollowsParts c joined q ms (parts_taken [] talk_of reacts done.next (map (λ (x : XsmpMessage). part_of joined.opcode (Xsmp x)) ms) (drop 1 wishes)) =
    on q done.next (drop 1 wishes) f.stands (waits-next c p q m (ms ++ rest) d f.history f.took) (expects-on c p f.steps f.may e) in
    record {
      taken = 1 + g.taken;
      follows = follows-both c joined p 1 g.taken done (parts_taken [] talk_of reacts done.next (map (λ (x : XsmpMessage). part_of joined.opcode (Xsmp x)) ms) (drop 1 wishes)) f g.follows;
      all = λ l. omega (arith, g.all l);
    }

pub parts-steps : PartsAreSteps
parts-steps c joined [] rest p client wishes n s d each e = record { taken = 0; follows = follows-none c joined p client s; all = λ l. refl }
parts-steps c joined (m ∷ ms) rest p client wishes n s d each e =
    parts-first c joined m ms rest p client wishes client.talk.place refl n s d each.0 e (λ q next more t w x. parts-steps c joined ms rest q next more n t w each.1 x)
