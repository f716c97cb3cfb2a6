-- What is known of a session that is held, wherever it stands for a history that answers and rules reach: all that the queue
-- for the token and the round ask of their callers.
use Rattle.std.proofs.Common.{◌≡◌, refl, ℕ, Bool, true, false, cond, not, ◌&&◌, ◌||◌, List, [], ◌∷◌, sym, ap, subst, ◌∙◌, arith}
use Rattle.std.specs.Prelude.{Option, Some, None, is_some, ◌==◌}
use Rattle.std.proofs.lemmas.Bool.Decides.{nat_tests}
use Rattle.ice_values.specs.declared.property.Property.{Property}
use Rattle.round_agreement.specs.declared.round.Member.{Member}
use Rattle.round_agreement.specs.declared.round.Step.{Step}
use Rattle.round_agreement.specs.Agreement.{Agreement, are_distinct, is_at}
use Rattle.round_agreement.specs.Agreement as steps
use Rattle.interact_queue.specs.Queue.{is_holder, is_in, without}
use Rattle.session_model.specs.declared.phase.Phase.{Phase}
use Rattle.session_model.specs.declared.phase.Phase.TheVariants.{Saving, SavingTwo}
use Rattle.session_model.specs.declared.events.SessionEvent.{SessionEvent}
use Rattle.session_model.specs.Phases.{is_asked, is_first_saving, is_interacting, is_member, is_saving, step_of}
use Rattle.session_model.specs.Moves.{History, Outside, onto, ◌▷◌}
use Rattle.session_model.specs.Readings as of
use Rattle.session_model.specs.Reading.{Reading, reading}
use Rattle.session_model.specs.Replies.{reply}
use Rattle.session_model.specs.Rules.{Takes, members_for, rule}
use Rattle.session_model.proofs.Lists.{Once, distinct-from_once}
use Rattle.session_model.proofs.Level.{Good}
use Rattle.session_model.proofs.Ruled.{denied, differ, good-rule, nobody-level, rows_now}
use Rattle.session_model.proofs.Replied.{good-reply}
use Rattle.session_model.proofs.Asked.{once-waiting, phases-tell}
use Rattle.session_clients.specs.Clients.{phase_in}
use Rattle.session_model.proofs.Whole.{once-for}
use Rattle.session_state.proofs.Turns.{saving-idle}
use Rattle.session_state.specs.Session.{Session, moved_all, reading_in}
use Rattle.session_state.specs.Stands.{IsMade, Stands}
use Rattle.session_state.proofs.Known.{head-in, own}
use Rattle.session_state.proofs.Steps.{same-reading, stands-all}
use Rattle.session_state.proofs.Ruling.{suit-rule}
use Rattle.session_state.proofs.Replying.{suit-reply}
use Rattle.session_state.proofs.Made.{good-made}
use Rattle.session_state.proofs.Taking.{suits-event}

-- the history is one in which all holds that holds before events, after answers and between rules
pub record Reaches (s : Session) (h : History) : Type 0 where
  pub stands : Stands s h
  pub good : Good h

pub reaches-made : (s : Session) (h : History) → IsMade h → Stands s h → Reaches s h
reaches-made s h m st = record { stands = st; good = good-made h m }

pub reaches-reading : (s : Session) (h : History) → Reaches s h → reading_in s ≡ reading h
reaches-reading s h r = same-reading s h r.good.sound.registered_are r.stands

-- an answer goes on to another, and so does a rule
pub reaches-reply : (event : SessionEvent) (s : Session) (h : History) → Takes event (reading h) → Reaches s h → Reaches (moved_all (Outside event ∷ reply (reading_in s) event) s) (onto (Outside event ▷ h) (reply (reading h) event))
reaches-reply event s h t r = record {
  stands = subst (λ (x : Reading). Stands (moved_all (Outside event ∷ reply x event) s) (onto (Outside event ▷ h) (reply (reading h) event))) (sym (reaches-reading s h r))
      (stands-all (Outside event ∷ reply (reading h) event) s h (suits-event event h t, suit-reply event h) r.stands);
  good = good-reply event h r.good;
}

pub reaches-rule : (s : Session) (h : History) → Reaches s h → Reaches (moved_all (rule (reading_in s)) s) (onto h (rule (reading h)))
reaches-rule s h r = record {
  stands = subst (λ (x : Reading). Stands (moved_all (rule x) s) (onto h (rule (reading h)))) (sym (reaches-reading s h r)) (stands-all (rule (reading h)) s h (suit-rule h r.good) r.stands);
  good = good-rule h r.good;
}

-- The token

saving-silent : (p : Option Phase) → is_saving p ≡ true → is_interacting p ≡ false
saving-silent (Some Saving) e = refl
saving-silent (Some SavingTwo) e = refl
saving-silent p e = absurd (grind arith)

-- who saves neither waits for the token nor has it, so it may ask
pub saving-not_waiting : (c : ℕ) (s : Session) (h : History) → Stands s h → is_saving (phase_in c s.clients.rows) ≡ true → is_in c s.turns.waiting ≡ false
saving-not_waiting c s h st e =
    ap (λ (cs : List ℕ). is_in c cs) st.waiting_is ∙ phases-tell h c ∙ saving-idle (of.phase_of c h) (sym (ap (λ (p : Option Phase). is_saving p) (st.phases_are c)) ∙ e)

pub saving-not_holding : (c : ℕ) (s : Session) (h : History) → Stands s h → is_saving (phase_in c s.clients.rows) ≡ true → is_holder c s.turns.holder ≡ false
saving-not_holding c s h st e = st.holder_is c ∙ saving-silent (of.phase_of c h) (sym (ap (λ (p : Option Phase). is_saving p) (st.phases_are c)) ∙ e)

pub waiting-distinct : (s : Session) (h : History) → Stands s h → are_distinct s.turns.waiting ≡ true
waiting-distinct s h st = ap (λ (cs : List ℕ). are_distinct cs) st.waiting_is ∙ distinct-from_once (of.waiting h) (once-waiting h)

kept-at : (c d : ℕ) (cs ds : List ℕ) → (d == c) ≡ false → cs ≡ ds → cond (not (d == c)) (d ∷ cs) cs ≡ d ∷ ds
kept-at c d cs ds e k = ap (λ (x : Bool). cond (not x) (d ∷ cs) cs) e ∙ ap (λ (xs : List ℕ). d ∷ xs) k

pub without-none : (c : ℕ) (cs : List ℕ) → is_in c cs ≡ false → without c cs ≡ cs
without-none c [] e = refl
without-none c (d ∷ cs) e = kept-at c d (without c cs) cs (grind (arith, nat_tests)) (without-none c cs (grind (arith, nat_tests)))

-- when the first that waits is taken out, the others are left
pub waiting-rest : (c : ℕ) (rest : List ℕ) (s : Session) (h : History) → Stands s h → s.turns.waiting ≡ c ∷ rest → without c s.turns.waiting ≡ rest
waiting-rest c rest s h st e =
    let o : Once (c ∷ rest) = subst (λ (cs : List ℕ). Once cs) (sym st.waiting_is ∙ e) (once-waiting h) in
    ap (λ (cs : List ℕ). without c cs) e ∙ ap (λ (b : Bool). cond (not b) (c ∷ without c rest) (without c rest)) (own c) ∙ without-none c rest o.0

-- The round

course-runs : (o : Option of.Begun) (members : List Member) (round : Agreement) → Some round ≡ of.course o members → round.members ≡ members
course-runs None members round e = absurd (grind arith)
course-runs (Some r) members round e = let same : round ≡ record { members = members; began_empty = steps.is_nil r.members; wanted = r.wanted } = cc in ap (λ (x : Agreement). x.members) same

-- the members that are held are those of the history, as far as they are
pub round-members : (round : Agreement) (s : Session) (h : History) → Stands s h → s.round ≡ Some round → round.members ≡ rows_now h
round-members round s h st e = course-runs (of.running h) (rows_now h) round (sym e ∙ st.round_is)

at-row : (b i : Bool) (test : Step → Bool) (c d : ℕ) (step : ℕ → Step) (x : Bool) → (b ≡ true → d ≡ c) → x ≡ (i && test (step c)) → ((b && test (step d)) || x) ≡ ((b || i) && test (step c))
at-row true true test c d step x k e = ap (λ (z : ℕ). test (step z) || x) (k refl) ∙ ap (λ (z : Bool). test (step c) || z) e ∙ same (test (step c)) where
  same : (b : Bool) → (b || b) ≡ b
  same true = refl
  same false = refl
at-row true false test c d step x k e = ap (λ (z : ℕ). test (step z) || x) (k refl) ∙ ap (λ (z : Bool). test (step c) || z) e ∙ none (test (step c)) where
  none : (b : Bool) → (b || false) ≡ b
  none true = refl
  none false = refl
at-row false i test c d step x k e = e

at-rows : (test : Step → Bool) (c : ℕ) (phase : ℕ → Option Phase) (saved : ℕ → Option (List Property)) (cs : List ℕ) → is_at test c (of.rows phase saved cs) ≡ (is_in c cs && test (step_of (phase c) (is_some (saved c))))
at-rows test c phase saved [] = refl
at-rows test c phase saved (d ∷ cs) =
    at-row (d == c) (is_in c cs) test c d (λ x. step_of (phase x) (is_some (saved x))) (is_at test c (of.rows phase saved cs)) (λ e. grind (arith, nat_tests)) (at-rows test c phase saved cs)

saving-member : (p : Option Phase) → is_saving p ≡ true → is_member p ≡ true
saving-member (Some Saving) e = refl
saving-member (Some SavingTwo) e = refl
saving-member p e = absurd (grind arith)

saving-step : (p : Option Phase) (x : Bool) → is_saving p ≡ true → steps.is_saving (step_of p x) ≡ true
saving-step (Some Saving) x e = refl
saving-step (Some SavingTwo) x e = refl
saving-step p x e = absurd (grind arith)

first-saving : (p : Option Phase) → is_first_saving p ≡ true → is_saving p ≡ true
first-saving (Some Saving) e = refl
first-saving p e = absurd (grind arith)

first-step : (p : Option Phase) (x : Bool) → is_first_saving p ≡ true → steps.is_first_saving (step_of p x) ≡ true
first-step (Some Saving) x e = refl
first-step p x e = absurd (grind arith)

-- a member that passes a test is at such a step
member-at : (test : Step → Bool) (c : ℕ) (round : Agreement) (s : Session) (h : History) → Reaches s h → s.round ≡ Some round → is_member (of.phase_of c h) ≡ true → test (step_of (of.phase_of c h) (is_some (of.saved_of c h))) ≡ true → is_at test c round.members ≡ true
member-at test c round s h r e m t =
    ap (λ (members : List Member). is_at test c members) (round-members round s h r.stands e)
    ∙ at-rows test c (λ d. of.phase_of d h) (λ d. of.saved_of d h) (of.members h)
    ∙ ap (λ (b : Bool). b && test (step_of (of.phase_of c h) (is_some (of.saved_of c h)))) (r.good.level c ∙ m) ∙ t

-- who saves is a member that saves, so it may be done; and in the first phase it may want the second
pub saving-at : (c : ℕ) (round : Agreement) (s : Session) (h : History) → Reaches s h → s.round ≡ Some round → is_saving (phase_in c s.clients.rows) ≡ true → is_at steps.is_saving c round.members ≡ true
saving-at c round s h r e k =
    let p : is_saving (of.phase_of c h) ≡ true = sym (ap (λ (p : Option Phase). is_saving p) (r.stands.phases_are c)) ∙ k in
    member-at steps.is_saving c round s h r e (saving-member (of.phase_of c h) p) (saving-step (of.phase_of c h) (is_some (of.saved_of c h)) p)

pub first_saving-at : (c : ℕ) (round : Agreement) (s : Session) (h : History) → Reaches s h → s.round ≡ Some round → is_first_saving (phase_in c s.clients.rows) ≡ true → is_at steps.is_first_saving c round.members ≡ true
first_saving-at c round s h r e k =
    let p : is_first_saving (of.phase_of c h) ≡ true = sym (ap (λ (p : Option Phase). is_first_saving p) (r.stands.phases_are c)) ∙ k in
    member-at steps.is_first_saving c round s h r e (saving-member (of.phase_of c h) (first-saving (of.phase_of c h) p)) (first-step (of.phase_of c h) (is_some (of.saved_of c h)) p)

course-some : (o : Option of.Begun) (members : List Member) → is_some (of.course o members) ≡ is_some o
course-some None members = refl
course-some (Some r) members = refl

-- where no round is held there is no member
no-members : (s : Session) (h : History) → Reaches s h → is_some s.round ≡ false → of.members h ≡ []
no-members s h r e = r.good.sound.idle_is_empty (sym (course-some (of.running h) (rows_now h)) ∙ sym (ap (λ (o : Option Agreement). is_some o) r.stands.round_is) ∙ e)

not-false : (b : Bool) → (b ≡ false → ⊥) → b ≡ true
not-false true n = refl
not-false false n = absurd (n refl)

-- who saves does so in a round
pub saving-round : (c : ℕ) (s : Session) (h : History) → Reaches s h → is_saving (phase_in c s.clients.rows) ≡ true → is_some s.round ≡ true
saving-round c s h r e =
    let m : is_member (of.phase_of c h) ≡ true = saving-member (of.phase_of c h) (sym (ap (λ (p : Option Phase). is_saving p) (r.stands.phases_are c)) ∙ e) in
    not-false (is_some s.round) (λ n. differ m (nobody-level h (no-members s h r n) r.good.level c))

-- nobody is a member twice of the round that begins
pub begin-distinct : (o : Option ℕ) (s : Session) (h : History) → Reaches s h → are_distinct (members_for o s.clients.registered) ≡ true
begin-distinct o s h r =
    distinct-from_once (members_for o s.clients.registered) (once-for o s.clients.registered (subst (λ (cs : List ℕ). Once cs) (sym r.stands.registered_is) r.good.sound.once))

-- Where no round runs the queue is empty

asked-member : (p : Option Phase) → is_member p ≡ false → is_asked p ≡ false
asked-member p m = denied (is_asked p) (λ e. differ (member-asked p e) m) where
  member-asked : (p : Option Phase) → is_asked p ≡ true → is_member p ≡ true
  member-asked None e = absurd (grind arith)
  member-asked (Some p) e = grind arith

silent-member : (p : Option Phase) → is_member p ≡ false → is_interacting p ≡ false
silent-member p m = denied (is_interacting p) (λ e. differ (member-silent p e) m) where
  member-silent : (p : Option Phase) → is_interacting p ≡ true → is_member p ≡ true
  member-silent None e = absurd (grind arith)
  member-silent (Some p) e = grind arith

nobody-in : (cs : List ℕ) → ((c : ℕ) → is_in c cs ≡ false) → cs ≡ []
nobody-in [] k = refl
nobody-in (c ∷ cs) k = absurd (differ (head-in c cs) (k c))

nobody-has : (holder : Option ℕ) → ((c : ℕ) → is_holder c holder ≡ false) → holder ≡ None
nobody-has None k = refl
nobody-has (Some c) k = absurd (differ (own c) (k c))

pub queue-empty : (s : Session) (h : History) → Reaches s h → is_some s.round ≡ false → s.turns ≡ record { waiting = []; holder = None }
queue-empty s h r e =
    let m : (c : ℕ) → is_member (of.phase_of c h) ≡ false = nobody-level h (no-members s h r e) r.good.level in
    let w : s.turns.waiting ≡ [] = nobody-in s.turns.waiting (λ c. ap (λ (cs : List ℕ). is_in c cs) r.stands.waiting_is ∙ phases-tell h c ∙ asked-member (of.phase_of c h) (m c)) in
    let n : s.turns.holder ≡ None = nobody-has s.turns.holder (λ c. r.stands.holder_is c ∙ silent-member (of.phase_of c h) (m c)) in
    λ i. record { waiting = w i; holder = n i }
