-- Settling comes to rest: each rule that holds makes less of what is left to do.
use Rattle.std.proofs.Common.{◌≡◌, refl, ℕ, ◌+◌, ◌*◌, ◌<◌, ◌≤◌, Bool, true, false, cond, ◌&&◌, ◌||◌, List, [], ◌∷◌, filter, length, eqb, sym, ap, ◌∙◌, arith}
use Rattle.std.specs.Prelude.{Option, Some, None, is_some}
use Rattle.std.specs.List.{list_any, list_all}
use Rattle.std.proofs.lemmas.Bool.Decides.{nat_tests}
use Rattle.ice_values.specs.declared.property.Property.{Property}
use Rattle.round_agreement.specs.declared.round.Member.{Member}
use Rattle.round_agreement.specs.Agreement.{Agreement, is_done, wants_two, two_ready, conns_of}
use Rattle.xsmp_messages.specs.declared.message.XsmpMessage.{XsmpMessage}
use Rattle.xsmp_messages.specs.declared.message.XsmpMessage.TheVariants.{RegisterClientReply, Interact, SaveYourselfPhase2}
use Rattle.interact_queue.specs.Queue.{is_in, next_holder}
use Rattle.session_model.specs.declared.phase.Phase.{Phase}
use Rattle.session_model.specs.declared.phase.Phase.TheVariants.{Asked, WantsTwo, AskedTwo, Done}
use Rattle.session_model.specs.declared.waits.Wait.{Wait}
use Rattle.session_model.specs.Phases.{is_registered, is_asked, is_interacting, step_of, held_phase, second_begun_phase, phase_given}
use Rattle.session_model.specs.Moves.{Gave, History, ◌▷◌, onto, gave_each}
use Rattle.session_model.specs.Readings as of
use Rattle.session_model.specs.Rules.{wanting_two}
use Rattle.session_model.proofs.PhaseSteps.{is_reply}
use Rattle.session_model.proofs.Sound.{at-one, or-true}
use Rattle.session_model.proofs.Level.{Good, IsOnce, phase-each, members-each}
use Rattle.session_model.proofs.Ruled.{any-in, differ, denied, rows_now}
use Rattle.session_model.proofs.Asked.{phases-tell, in-filter}

-- What is left to do: four for each round that waits, one for a round that runs and one more where its second phase is due, two
-- where the token is due to somebody.

abbrev pub round_part : Option Agreement → ℕ
round_part None = 0
round_part (Some round) = cond (two_ready round.members) 2 1

abbrev pub token_part : Option ℕ → ℕ
token_part None = 0
token_part (Some c) = 2

abbrev pub left_to_do : History → ℕ
left_to_do h = 4 * length (of.waits h) + round_part (of.round h) + token_part (next_holder (of.is_held h) (of.waiting h))

-- The token

any-same : (p q : ℕ → Bool) (cs : List ℕ) → ((c : ℕ) → p c ≡ q c) → list_any p cs ≡ list_any q cs
any-same p q [] k = refl
any-same p q (c ∷ cs) k = ap (λ (x : Bool). x || list_any p cs) (k c) ∙ ap (λ (x : Bool). q c || x) (any-same p q cs k)

filter-same : (p q : ℕ → Bool) (cs : List ℕ) → ((c : ℕ) → p c ≡ q c) → filter p cs ≡ filter q cs
filter-same p q [] k = refl
filter-same p q (c ∷ cs) k = ap (λ (x : Bool). cond x (c ∷ filter p cs) (filter p cs)) (k c) ∙ ap (λ (xs : List ℕ). cond (q c) (c ∷ xs) xs) (filter-same p q cs k)

-- nothing of the token changed between two histories
pub record SameToken (h g : History) : Type 0 where
  pub asked : (c : ℕ) → is_asked (of.phase_of c g) ≡ is_asked (of.phase_of c h)
  pub interacting : (c : ℕ) → is_interacting (of.phase_of c g) ≡ is_interacting (of.phase_of c h)
  pub registered : of.registered g ≡ of.registered h
  pub askers : of.askers g ≡ of.askers h

same-waiting : (h g : History) → SameToken h g → of.waiting g ≡ of.waiting h
same-waiting h g s = filter-same (λ c. is_asked (of.phase_of c g)) (λ c. is_asked (of.phase_of c h)) (of.askers g) s.asked ∙ ap (λ (cs : List ℕ). filter (λ c. is_asked (of.phase_of c h)) cs) s.askers

same-held : (h g : History) → SameToken h g → of.is_held g ≡ of.is_held h
same-held h g s = any-same (λ c. is_interacting (of.phase_of c g)) (λ c. is_interacting (of.phase_of c h)) (of.registered g) s.interacting ∙ ap (λ (cs : List ℕ). list_any (λ c. is_interacting (of.phase_of c h)) cs) s.registered

pub same-next : (h g : History) → SameToken h g → next_holder (of.is_held g) (of.waiting g) ≡ next_holder (of.is_held h) (of.waiting h)
same-next h g s = ap (λ (b : Bool). next_holder b (of.waiting g)) (same-held h g s) ∙ ap (λ (cs : List ℕ). next_holder (of.is_held h) cs) (same-waiting h g s)

-- Messages to each

waits-gave : (m : XsmpMessage) → is_reply m ≡ false → (c : ℕ) (h : History) → of.waits (Gave c m ▷ h) ≡ of.waits h
waits-gave (RegisterClientReply id) e c h = absurd (grind arith)
waits-gave m e c h = refl

registered-gave : (m : XsmpMessage) → is_reply m ≡ false → (c : ℕ) (h : History) → of.registered (Gave c m ▷ h) ≡ of.registered h
registered-gave (RegisterClientReply id) e c h = absurd (grind arith)
registered-gave m e c h = refl

pub waits-each : (m : XsmpMessage) → is_reply m ≡ false → (conns : List ℕ) (h : History) → of.waits (onto h (gave_each m conns)) ≡ of.waits h
waits-each m e [] h = refl
waits-each m e (c ∷ conns) h = waits-each m e conns (Gave c m ▷ h) ∙ waits-gave m e c h

pub registered-each : (m : XsmpMessage) → is_reply m ≡ false → (conns : List ℕ) (h : History) → of.registered (onto h (gave_each m conns)) ≡ of.registered h
registered-each m e [] h = refl
registered-each m e (c ∷ conns) h = registered-each m e conns (Gave c m ▷ h) ∙ registered-gave m e c h

pub askers-each : (m : XsmpMessage) (conns : List ℕ) (h : History) → of.askers (onto h (gave_each m conns)) ≡ of.askers h
askers-each m [] h = refl
askers-each m (c ∷ conns) h = askers-each m conns (Gave c m ▷ h)

pub running-each : (m : XsmpMessage) (conns : List ℕ) (h : History) → of.running (onto h (gave_each m conns)) ≡ of.running h
running-each m [] h = refl
running-each m (c ∷ conns) h = running-each m conns (Gave c m ▷ h)

pub same-each : (m : XsmpMessage) → IsOnce m → is_reply m ≡ false → ((p : Option Phase) → is_asked (phase_given m p) ≡ is_asked p) → ((p : Option Phase) → is_interacting (phase_given m p) ≡ is_interacting p) → (conns : List ℕ) (h : History)
    → SameToken h (onto h (gave_each m conns))
same-each m o e a i conns h = record {
  asked = λ c. ap (λ (p : Option Phase). is_asked p) (phase-each m o conns h c) ∙ at-one (λ p. is_asked p) (is_in c conns) (of.phase_of c h) (phase_given m (of.phase_of c h)) (a (of.phase_of c h));
  interacting = λ c. ap (λ (p : Option Phase). is_interacting p) (phase-each m o conns h c) ∙ at-one (λ p. is_interacting p) (is_in c conns) (of.phase_of c h) (phase_given m (of.phase_of c h)) (i (of.phase_of c h));
  registered = registered-each m e conns h;
  askers = askers-each m conns h;
}

-- The parts

pub two_most : (b : Bool) → cond b 2 1 ≤ 2
two_most true = omega arith
two_most false = omega arith

pub one_least : (b : Bool) → 1 ≤ cond b 2 1
one_least true = omega arith
one_least false = omega arith

pub round-most : (o : Option Agreement) → round_part o ≤ 2
round-most None = omega arith
round-most (Some round) = two_most (two_ready round.members)

pub token-most : (o : Option ℕ) → token_part o ≤ 2
token-most None = omega arith
token-most (Some c) = omega arith

pub at-most : (h : History) → left_to_do h ≤ 4 * length (of.waits h) + 4
at-most h = omega (arith, round-most (of.round h), token-most (next_holder (of.is_held h) (of.waiting h)))

-- The token is given

step-at : (b : Bool) (p q : Option Phase) (s : Option (List Property)) → ((t : Bool) → step_of q t ≡ step_of p t) → step_of (cond b q p) (is_some (cond b s s)) ≡ step_of p (is_some s)
step-at true p q s k = k (is_some s)
step-at false p q s k = refl

held-step : (p : Option Phase) (t : Bool) → step_of (held_phase p) t ≡ step_of p t
held-step None t = refl
held-step (Some Asked) t = refl
held-step (Some AskedTwo) t = refl
held-step (Some p) t = refl

rows-same : (f g : ℕ → Option Phase) (s t : ℕ → Option (List Property)) (cs : List ℕ) → ((c : ℕ) → step_of (g c) (is_some (t c)) ≡ step_of (f c) (is_some (s c))) → of.rows g t cs ≡ of.rows f s cs
rows-same f g s t [] k = refl
rows-same f g s t (c ∷ cs) k = ap (λ (x : _). record { conn = c; step = x } ∷ of.rows g t cs) (k c) ∙ ap (λ (xs : List Member). record { conn = c; step = step_of (f c) (is_some (s c)) } ∷ xs) (rows-same f g s t cs k)

round-token : (c : ℕ) (h : History) → of.round (Gave c Interact ▷ h) ≡ of.round h
round-token c h = ap (λ (xs : List Member). of.course (of.running h) xs)
    (rows-same (λ d. of.phase_of d h) (λ d. of.phase_of d (Gave c Interact ▷ h)) (λ d. of.saved_of d h) (λ d. of.saved_of d (Gave c Interact ▷ h)) (of.members h)
    (λ d. step-at (eqb c d) (of.phase_of d h) (held_phase (of.phase_of d h)) (of.saved_of d h) (held-step (of.phase_of d h))))

pub asked-held : (p : Option Phase) → is_asked p ≡ true → is_interacting (held_phase p) ≡ true
asked-held (Some Asked) e = refl
asked-held (Some AskedTwo) e = refl
asked-held p e = absurd (grind arith)

asked-registered : (p : Option Phase) → is_asked p ≡ true → is_registered p ≡ true
asked-registered (Some Asked) e = refl
asked-registered (Some AskedTwo) e = refl
asked-registered p e = absurd (grind arith)

held-own : (c : ℕ) (p : Option Phase) → is_interacting (held_phase p) ≡ true → is_interacting (cond (eqb c c) (held_phase p) p) ≡ true
held-own c p e = let k : eqb c c ≡ true = grind (arith, nat_tests) in ap (λ (b : Bool). is_interacting (cond b (held_phase p) p)) k ∙ e

first-asked : (c : ℕ) (cs : List ℕ) (h : History) → of.waiting h ≡ c ∷ cs → is_asked (of.phase_of c h) ≡ true
first-asked c cs h e =
    let k : (eqb c c || is_in c cs) ≡ true = grind (arith, nat_tests) in
    sym (phases-tell h c) ∙ ap (λ (xs : List ℕ). is_in c xs) e ∙ k

now-held : (c : ℕ) (cs : List ℕ) (h : History) → of.waiting h ≡ c ∷ cs → Good h → of.is_held (Gave c Interact ▷ h) ≡ true
now-held c cs h e g =
    any-in (λ d. is_interacting (of.phase_of d (Gave c Interact ▷ h))) c (of.registered h)
    (g.sound.registered_are c ∙ asked-registered (of.phase_of c h) (first-asked c cs h e))
    (held-own c (of.phase_of c h) (asked-held (of.phase_of c h) (first-asked c cs h e)))

pub falls-token : (c : ℕ) (cs : List ℕ) (h : History) → of.is_held h ≡ false → of.waiting h ≡ c ∷ cs → Good h → left_to_do (Gave c Interact ▷ h) < left_to_do h
falls-token c cs h n e g =
    let r : round_part (of.round (Gave c Interact ▷ h)) ≡ round_part (of.round h) = ap (λ (o : Option Agreement). round_part o) (round-token c h) in
    let a : token_part (next_holder (of.is_held (Gave c Interact ▷ h)) (of.waiting (Gave c Interact ▷ h))) ≡ 0 = ap (λ (b : Bool). token_part (next_holder b (of.waiting (Gave c Interact ▷ h)))) (now-held c cs h e g) in
    let b : token_part (next_holder (of.is_held h) (of.waiting h)) ≡ 2 = ap (λ (b : Bool). token_part (next_holder b (of.waiting h))) n ∙ ap (λ (xs : List ℕ). token_part (next_holder false xs)) e in
    omega (arith, r, a, b)

-- The second phase begins

pub round-part-some : (r : of.Begun) (h : History) → of.running h ≡ Some r → round_part (of.round h) ≡ cond (two_ready (rows_now h)) 2 1
round-part-some r h e = ap (λ (o : Option of.Begun). round_part (of.course o (rows_now h))) e

cond-conns : (b : Bool) (m : Member) (ms : List Member) → conns_of (cond b (m ∷ ms) ms) ≡ cond b (m.conn ∷ conns_of ms) (conns_of ms)
cond-conns true m ms = refl
cond-conns false m ms = refl

wanting-is : (f : ℕ → Option Phase) (s : ℕ → Option (List Property)) (cs : List ℕ) → wanting_two (of.rows f s cs) ≡ filter (λ c. wants_two (step_of (f c) (is_some (s c)))) cs
wanting-is f s [] = refl
wanting-is f s (c ∷ cs) =
    cond-conns (wants_two (step_of (f c) (is_some (s c)))) (record { conn = c; step = step_of (f c) (is_some (s c)) }) (filter (λ m. wants_two m.step) (of.rows f s cs))
    ∙ ap (λ (xs : List ℕ). cond (wants_two (step_of (f c) (is_some (s c)))) (c ∷ xs) xs) (wanting-is f s cs)

in-wanting : (f : ℕ → Option Phase) (s : ℕ → Option (List Property)) (c : ℕ) (cs : List ℕ) → is_in c cs ≡ true → wants_two (step_of (f c) (is_some (s c))) ≡ true → is_in c (wanting_two (of.rows f s cs)) ≡ true
in-wanting f s c cs i w =
    ap (λ (xs : List ℕ). is_in c xs) (wanting-is f s cs) ∙ in-filter (λ d. wants_two (step_of (f d) (is_some (s d)))) c cs ∙ ap (λ (x : Bool). x && is_in c cs) w ∙ i

none-wants : (f : ℕ → Option Phase) (s : ℕ → Option (List Property)) (cs : List ℕ) → ((c : ℕ) → is_in c cs ≡ true → wants_two (step_of (f c) (is_some (s c))) ≡ false) → list_any (λ (m : Member). wants_two m.step) (of.rows f s cs) ≡ false
none-wants f s [] k = refl
none-wants f s (c ∷ cs) k =
    let own : (eqb c c || is_in c cs) ≡ true = grind (arith, nat_tests) in
    ap (λ (x : Bool). x || list_any (λ (m : Member). wants_two m.step) (of.rows f s cs)) (k c own)
    ∙ none-wants f s cs (λ d i. k d (ap (λ (x : Bool). eqb c d || x) i ∙ or-true (eqb c d)))

wants-any : (p : Option Phase) (s t : Bool) → wants_two (step_of p s) ≡ wants_two (step_of p t)
wants-any None s t = refl
wants-any (Some Done) s t = refl
wants-any (Some p) s t = refl

second-wants : (p : Option Phase) (s : Bool) → wants_two (step_of (second_begun_phase p) s) ≡ false
second-wants None s = refl
second-wants (Some WantsTwo) s = refl
second-wants (Some p) s = refl

once-second : (p : Option Phase) → second_begun_phase (second_begun_phase p) ≡ second_begun_phase p
once-second None = refl
once-second (Some WantsTwo) = refl
once-second (Some p) = refl

second-asked : (p : Option Phase) → is_asked (second_begun_phase p) ≡ is_asked p
second-asked None = refl
second-asked (Some WantsTwo) = refl
second-asked (Some p) = refl

second-interacting : (p : Option Phase) → is_interacting (second_begun_phase p) ≡ is_interacting p
second-interacting None = refl
second-interacting (Some WantsTwo) = refl
second-interacting (Some p) = refl

-- whether c was given it or not, it wants the second phase no more
wants-by : (b : Bool) (p : Option Phase) (s t : Bool) → (b ≡ false → wants_two (step_of p s) ≡ false) → wants_two (step_of (cond b (second_begun_phase p) p) t) ≡ false
wants-by true p s t k = second-wants p t
wants-by false p s t k = wants-any p t s ∙ k refl

-- the history in which those that want the second phase have begun with it
abbrev pub seconded : History → History
seconded h = onto h (gave_each SaveYourselfPhase2 (wanting_two (rows_now h)))

not-given : (c : ℕ) (h : History) → is_in c (of.members h) ≡ true → is_in c (wanting_two (rows_now h)) ≡ false → wants_two (step_of (of.phase_of c h) (is_some (of.saved_of c h))) ≡ false
not-given c h i n = denied (wants_two (step_of (of.phase_of c h) (is_some (of.saved_of c h)))) (λ w. differ (in-wanting (λ d. of.phase_of d h) (λ d. of.saved_of d h) c (of.members h) i w) n)

seconded-wants : (c : ℕ) (h : History) → is_in c (of.members (seconded h)) ≡ true → wants_two (step_of (of.phase_of c (seconded h)) (is_some (of.saved_of c (seconded h)))) ≡ false
seconded-wants c h i =
    ap (λ (p : Option Phase). wants_two (step_of p (is_some (of.saved_of c (seconded h))))) (phase-each SaveYourselfPhase2 once-second (wanting_two (rows_now h)) h c)
    ∙ wants-by (is_in c (wanting_two (rows_now h))) (of.phase_of c h) (is_some (of.saved_of c h)) (is_some (of.saved_of c (seconded h)))
    (not-given c h (sym (ap (λ (xs : List ℕ). is_in c xs) (members-each SaveYourselfPhase2 (wanting_two (rows_now h)) h)) ∙ i))

and-second : (x y : Bool) → y ≡ false → (x && y) ≡ false
and-second true y e = e
and-second false y e = refl

not-ready : (h : History) → two_ready (rows_now (seconded h)) ≡ false
not-ready h =
    and-second (list_all (λ (m : Member). is_done m.step || wants_two m.step) (rows_now (seconded h))) (list_any (λ (m : Member). wants_two m.step) (rows_now (seconded h)))
    (none-wants (λ c. of.phase_of c (seconded h)) (λ c. of.saved_of c (seconded h)) (of.members (seconded h)) (λ c i. seconded-wants c h i))

pub falls-second : (r : of.Begun) (h : History) → of.running h ≡ Some r → two_ready (rows_now h) ≡ true → left_to_do (seconded h) < left_to_do h
falls-second r h e t =
    let w : length (of.waits (seconded h)) ≡ length (of.waits h) = ap (λ (ws : List Wait). length ws) (waits-each SaveYourselfPhase2 refl (wanting_two (rows_now h)) h) in
    let n : token_part (next_holder (of.is_held (seconded h)) (of.waiting (seconded h))) ≡ token_part (next_holder (of.is_held h) (of.waiting h)) =
    ap (λ (o : Option ℕ). token_part o) (same-next h (seconded h) (same-each SaveYourselfPhase2 once-second refl second-asked second-interacting (wanting_two (rows_now h)) h)) in
    let a : round_part (of.round (seconded h)) ≡ 1 =
    round-part-some r (seconded h) (running-each SaveYourselfPhase2 (wanting_two (rows_now h)) h ∙ e) ∙ ap (λ (b : Bool). cond b 2 1) (not-ready h) in
    let b : round_part (of.round h) ≡ 2 = round-part-some r h e ∙ ap (λ (b : Bool). cond b 2 1) t in
    omega (arith, w, n, a, b)
