-- Both ends meet, where the manager's is read from a history, or the connection is gone; what passes a client keeps that.
use Rattle.std.proofs.Common.{◌≡◌, ◌≢◌, ◌⊎◌, inl, inr, refl, sym, ap, ◌∙◌, subst, ℕ, zero, suc, ◌≤◌, Bool, true, false, cond, not, ◌&&◌, ◌||◌, List, [], ◌∷◌, ◌++◌, length, drop, eqb, arith, length-append}
use Rattle.std.specs.Prelude.{Option, None}
use Rattle.std.specs.List.{list_any}
use Rattle.std.proofs.lemmas.Bool.Decides.{nat_tests}
use Rattle.interact_queue.specs.Queue.{is_in, without}
use Rattle.xsmp_messages.specs.declared.message.XsmpMessage.{XsmpMessage}
use Rattle.xsmp_messages.specs.declared.message.XsmpMessage.TheVariants.{Error, SaveYourself}
use Rattle.session_model.specs.declared.events.SessionEvent.{SessionEvent}
use Rattle.session_model.specs.declared.events.SessionEvent.TheVariants.{Joined, Left, Ready, Said}
use Rattle.session_model.specs.declared.phase.Phase.{Phase}
use Rattle.session_model.specs.Moves.{Blamed, Closed, Gave, History, Move, Outside, Unset, onto, ◌▷◌}
use Rattle.session_model.specs.Phases.{may_interact, phase_given, phase_said, ready_phase}
use Rattle.session_model.specs.Readings as of
use Rattle.session_model.proofs.Lists.{in-append, in-without}
use Rattle.session_model.proofs.Ruled.{differ}
use Rattle.client_machine.specs.Phases.{ClientState}
use Rattle.end_agreement.specs.Sides.{Side, may_give, side_given}
use Rattle.end_agreement.specs.Meeting.{Meets}
use Rattle.end_agreement.proofs.Giving.{giving-meets}
use Rattle.end_agreement.proofs.Waiting.{AreSuited, meets-suited}
use Rattle.end_schedules.specs.Laws.{AllPass, IsPassed, Passes, is_bad_state}
use Rattle.end_schedules.specs.Pairs.{is_of}
use Rattle.end_schedules.specs.UnderWay.{Save, save_given, save_of, sent_to, side_of, side_with}

-- Of what the client was sent it has taken so many, both ends meet, and nothing of it is BadState.
pub record Stands (side : Side) (s : ClientState) (up : List XsmpMessage) (n : ℕ) (sent : List XsmpMessage) : Type 0 where
  pub few : n ≤ length sent
  pub meets : Meets side s up (drop n sent)
  pub clean : list_any is_bad_state sent ≡ false

abbrev pub At : ℕ → History → ClientState → List XsmpMessage → ℕ → Type 0
At c h s up n = Stands (side_of c h) s up n (sent_to c h)

-- The connection is shut or broken: what was sent before has its place as the client comes to it, and nothing of it is BadState.
pub record Gone (p : Option Phase) (live : Bool) (s : ClientState) (n : ℕ) (sent : List XsmpMessage) : Type 0 where
  pub phase : p ≡ None
  pub shut : live ≡ false
  pub few : n ≤ length sent
  pub suited : AreSuited s (drop n sent)
  pub clean : list_any is_bad_state sent ≡ false

abbrev pub GoneAt : ℕ → History → ClientState → ℕ → Type 0
GoneAt c h s n = Gone (of.phase_of c h) (is_in c (of.live h)) s n (sent_to c h)

-- one of the two
abbrev pub Stays : ℕ → History → ClientState → List XsmpMessage → ℕ → Type 0
Stays c h s up n = At c h s up n ⊎ GoneAt c h s n

-- Lists

pub drop-behind : (n : ℕ) (xs ys : List XsmpMessage) → n ≤ length xs → drop n (xs ++ ys) ≡ drop n xs ++ ys
drop-behind zero xs ys l = refl
drop-behind (suc n) [] ys l = absurd (omega (arith, l))
drop-behind (suc n) (x ∷ xs) ys l = drop-behind n xs ys (omega (arith, l))

or-next : (a b c : Bool) → (a || b) ≡ false → (b ≡ false → c ≡ false) → (a || c) ≡ false
or-next true b c e k = e
or-next false b c e k = k e

pub clean-append : (xs ys : List XsmpMessage) → list_any is_bad_state xs ≡ false → list_any is_bad_state ys ≡ false → list_any is_bad_state (xs ++ ys) ≡ false
clean-append [] ys e f = f
clean-append (x ∷ xs) ys e f = or-next (is_bad_state x) (list_any is_bad_state xs) (list_any is_bad_state (xs ++ ys)) e (λ k. clean-append xs ys k f)

-- What the manager gives

given-side : (m : XsmpMessage) (p : Option Phase) (save : Save) → side_given m (side_with p save) ≡ side_with (phase_given m p) (save_given m save)
given-side (SaveYourself kind shutdown style fast) p save = refl
given-side m p save = refl

not-bad : (m : XsmpMessage) (p : Option Phase) → may_give m p ≡ true → is_bad_state m ≡ false
not-bad (Error error) p e = absurd (grind arith)
not-bad m p e = refl

pub or-no : (b : Bool) → b ≡ false → (b || false) ≡ false
or-no true e = e
or-no false e = refl

stands-gave : (b : Bool) (m : XsmpMessage) (p : Option Phase) (save : Save) (s : ClientState) (up : List XsmpMessage) (n : ℕ) (sent : List XsmpMessage) → (b ≡ true → may_give m p ≡ true) → Stands (side_with p save) s up n sent
    → Stands (side_with (cond b (phase_given m p) p) (cond b (save_given m save) save)) s up n (cond b (sent ++ m ∷ []) sent)
stands-gave true m p save s up n sent f k = record {
  few = omega (arith, length-append sent (m ∷ []), k.few);
  meets = subst (λ (xs : List XsmpMessage). Meets (side_with (phase_given m p) (save_given m save)) s up xs) (sym (drop-behind n sent (m ∷ []) k.few))
      (subst (λ (x : Side). Meets x s up (drop n sent ++ m ∷ [])) (given-side m p save) (giving-meets m (side_with p save) s up (drop n sent) (f refl) k.meets));
  clean = clean-append sent (m ∷ []) k.clean (or-no (is_bad_state m) (not-bad m p (f refl)));
}
stands-gave false m p save s up n sent f k = k

-- Each move

same-conn : (d c : ℕ) → eqb d c ≡ true → d ≡ c
same-conn d c e = grind (arith, nat_tests)

other-conn : (d c : ℕ) → d ≢ c → eqb d c ≡ false
other-conn d c n = other-at (eqb d c) refl where
  other-at : (b : Bool) → eqb d c ≡ b → b ≡ false
  other-at true e = absurd (n (same-conn d c e))
  other-at false e = refl

at-outside : (c : ℕ) (event : SessionEvent) (h : History) (s : ClientState) (up : List XsmpMessage) (n : ℕ) → is_of c event ≡ false → At c h s up n → At c (Outside event ▷ h) s up n
at-outside c (Ready d) h s up n e k =
    subst (λ (b : Bool). Stands (side_with (cond b (ready_phase (of.phase_of c h)) (of.phase_of c h)) (save_of c h)) s up n (cond b [] (sent_to c h))) (sym e) k
at-outside c (Said d m sequence frame) h s up n e k =
    subst (λ (b : Bool). Stands (side_with (cond b (phase_said (λ dialog. may_interact (of.wanted h) dialog) m (of.phase_of c h)) (of.phase_of c h)) (save_of c h)) s up n (sent_to c h)) (sym e) k
at-outside c (Left d) h s up n e k = subst (λ (b : Bool). Stands (side_with (cond b None (of.phase_of c h)) (save_of c h)) s up n (sent_to c h)) (sym e) k
at-outside c event h s up n e k = k

-- A connection is shut.

pub shut-out : (d c : ℕ) (conns : List ℕ) → eqb d c ≡ true → is_in c (without d conns) ≡ false
shut-out d c conns e = in-without c d conns ∙ ap (λ (b : Bool). not b && is_in c conns) e

and-no : (b x : Bool) → x ≡ false → (b && x) ≡ false
and-no true x e = e
and-no false x e = refl

still-out : (d c : ℕ) (conns : List ℕ) → is_in c conns ≡ false → is_in c (without d conns) ≡ false
still-out d c conns e = in-without c d conns ∙ and-no (not (eqb d c)) (is_in c conns) e

pub gone-from : (c : ℕ) (h : History) (p : Option Phase) (live : Bool) (s : ClientState) (up : List XsmpMessage) (n : ℕ) → p ≡ None → live ≡ false → Stays c h s up n → Gone p live s n (sent_to c h)
gone-from c h p live s up n e f (inl k) = record { phase = e; shut = f; few = k.few; suited = meets-suited (side_of c h) s up (drop n (sent_to c h)) k.meets; clean = k.clean }
gone-from c h p live s up n e f (inr k) = record { phase = e; shut = f; few = k.few; suited = k.suited; clean = k.clean }

stays-closed : (b : Bool) (c d : ℕ) (h : History) (s : ClientState) (up : List XsmpMessage) (n : ℕ) → eqb d c ≡ b → At c h s up n → Stays c (Closed d ▷ h) s up n
stays-closed true c d h s up n e k =
    inr (gone-from c h (cond (eqb d c) None (of.phase_of c h)) (is_in c (without d (of.live h))) s up n (ap (λ (b : Bool). cond b None (of.phase_of c h)) e) (shut-out d c (of.live h) e) (inl k))
stays-closed false c d h s up n e k = inl (subst (λ (b : Bool). Stands (side_with (cond b None (of.phase_of c h)) (save_of c h)) s up n (sent_to c h)) (sym e) k)

at-move : (c : ℕ) (m : Move) (h : History) (s : ClientState) (up : List XsmpMessage) (n : ℕ) → Passes c m h → At c h s up n → Stays c (m ▷ h) s up n
at-move c (Outside event) h s up n p k = inl (at-outside c event h s up n p k)
at-move c (Gave d m) h s up n p k = inl (stands-gave (eqb d c) m (of.phase_of c h) (save_of c h) s up n (sent_to c h) (λ e. p (same-conn d c e)) k)
at-move c (Blamed d error) h s up n p k = inl (subst (λ (b : Bool). Stands (side_of c h) s up n (cond b (sent_to c h ++ Error error ∷ []) (sent_to c h))) (sym (other-conn d c p)) k)
at-move c (Unset d) h s up n p k = inl (subst (λ (b : Bool). Stands (side_with (cond b None (of.phase_of c h)) (save_of c h)) s up n (sent_to c h)) (sym (other-conn d c p)) k)
at-move c (Closed d) h s up n p k = stays-closed (eqb d c) c d h s up n refl k
at-move c m h s up n p k = inl k

-- Who is gone stays so.

none-given : (m : XsmpMessage) → may_give m None ≡ false
none-given (Error error) = refl
none-given m = refl

neither : (a b : Bool) → a ≡ false → b ≡ false → (a || (b || false)) ≡ false
neither true b e f = e
neither false b e f = or-no b f

gone-outside : (c : ℕ) (event : SessionEvent) (h : History) (s : ClientState) (n : ℕ) → is_of c event ≡ false → GoneAt c h s n → GoneAt c (Outside event ▷ h) s n
gone-outside c (Joined d) h s n e k =
    record { phase = k.phase; shut = in-append c (of.live h) (d ∷ []) ∙ neither (is_in c (of.live h)) (eqb d c) k.shut e; few = k.few; suited = k.suited; clean = k.clean }
gone-outside c (Ready d) h s n e k =
    subst (λ (b : Bool). Gone (cond b (ready_phase (of.phase_of c h)) (of.phase_of c h)) (is_in c (of.live h)) s n (cond b [] (sent_to c h))) (sym e) k
gone-outside c (Said d m sequence frame) h s n e k =
    subst (λ (b : Bool). Gone (cond b (phase_said (λ dialog. may_interact (of.wanted h) dialog) m (of.phase_of c h)) (of.phase_of c h)) (is_in c (of.live h)) s n (sent_to c h)) (sym e) k
gone-outside c (Left d) h s n e k =
    record { phase = ap (λ (b : Bool). cond b None (of.phase_of c h)) e ∙ k.phase; shut = still-out d c (of.live h) k.shut; few = k.few; suited = k.suited; clean = k.clean }
gone-outside c event h s n e k = k

denied : (b : Bool) → (b ≡ true → ⊥) → b ≡ false
denied true n = absurd (n refl)
denied false n = refl

-- nothing is given to it
not-given : (d c : ℕ) (m : XsmpMessage) (p : Option Phase) → p ≡ None → (d ≡ c → may_give m p ≡ true) → eqb d c ≡ false
not-given d c m p e f = denied (eqb d c) (λ k. differ (subst (λ (q : Option Phase). may_give m q ≡ true) e (f (same-conn d c k))) (none-given m))

closed-none : (b : Bool) (p : Option Phase) → p ≡ None → cond b None p ≡ None
closed-none true p e = refl
closed-none false p e = e

gone-move : (c : ℕ) (m : Move) (h : History) (s : ClientState) (n : ℕ) → Passes c m h → GoneAt c h s n → GoneAt c (m ▷ h) s n
gone-move c (Outside event) h s n p k = gone-outside c event h s n p k
gone-move c (Gave d m) h s n p k =
    subst (λ (b : Bool). Gone (cond b (phase_given m (of.phase_of c h)) (of.phase_of c h)) (is_in c (of.live h)) s n (cond b (sent_to c h ++ m ∷ []) (sent_to c h))) (sym (not-given d c m (of.phase_of c h) k.phase p)) k
gone-move c (Blamed d error) h s n p k = subst (λ (b : Bool). Gone (of.phase_of c h) (is_in c (of.live h)) s n (cond b (sent_to c h ++ Error error ∷ []) (sent_to c h))) (sym (other-conn d c p)) k
gone-move c (Unset d) h s n p k = subst (λ (b : Bool). Gone (cond b None (of.phase_of c h)) (is_in c (of.live h)) s n (sent_to c h)) (sym (other-conn d c p)) k
gone-move c (Closed d) h s n p k =
    record { phase = closed-none (eqb d c) (of.phase_of c h) k.phase; shut = still-out d c (of.live h) k.shut; few = k.few; suited = k.suited; clean = k.clean }
gone-move c m h s n p k = k

-- Moves that pass the client

stays-move : (c : ℕ) (m : Move) (h : History) (s : ClientState) (up : List XsmpMessage) (n : ℕ) → Passes c m h → Stays c h s up n → Stays c (m ▷ h) s up n
stays-move c m h s up n p (inl k) = at-move c m h s up n p k
stays-move c m h s up n p (inr k) = inr (gone-move c m h s n p k)

pub stays-moves : (c : ℕ) (moves : List Move) (h : History) (s : ClientState) (up : List XsmpMessage) (n : ℕ) → AllPass c moves h → Stays c h s up n → Stays c (onto h moves) s up n
stays-moves c [] h s up n p k = k
stays-moves c (m ∷ moves) h s up n p k = stays-moves c moves (m ▷ h) s up n p.1 (stays-move c m h s up n p.0 k)

pub stays-passed : (c : ℕ) (h g : History) (s : ClientState) (up : List XsmpMessage) (n : ℕ) → IsPassed c h g → Stays c h s up n → Stays c g s up n
stays-passed c h g s up n p k = subst (λ (x : History). Stays c x s up n) (sym p.there) (stays-moves c p.moves h s up n p.each k)
