-- Both ends still meet after the manager gave something by itself, whatever of the client was under way to it.
use Rattle.std.proofs.Common.{◌≡◌, refl, sym, ap, ◌∙◌, subst, Bool, true, false, cond, not, ◌&&◌, ◌||◌, List, [], ◌∷◌, ◌++◌, ℕ, arith}
use Rattle.std.specs.Prelude.{Option, Some, None, is_some}
use Rattle.ice_values.specs.declared.saves.Dialog.{Dialog}
use Rattle.ice_values.specs.declared.saves.SaveStyle.{SaveStyle}
use Rattle.xsmp_messages.specs.declared.message.XsmpMessage.{XsmpMessage}
use Rattle.xsmp_messages.specs.declared.message.XsmpMessage.TheVariants.{ConnectionClosed, DeleteProperties, Die, GetProperties, Interact, InteractDone, InteractRequest, RegisterClient, SaveComplete, SaveYourself, SaveYourselfDone, SaveYourselfPhase2, SaveYourselfPhase2Request, SaveYourselfRequest, SetProperties, ShutdownCancelled}
use Rattle.session_model.specs.declared.phase.Phase.{Phase}
use Rattle.session_model.specs.declared.phase.Phase.TheVariants.{Asked, AskedTwo, Done, Dying, Idle, Interacting, InteractingTwo, Owing, Saving, SavingTwo, Unregistered, WantsTwo}
use Rattle.session_model.specs.Phases.{allows, asked_phase, cancelled_phase, is_bound, is_first_saving, is_interacting, is_owing, is_saving, is_unregistered, phase_given, saved_phase, second_phase, talked_phase}
use Rattle.client_machine.specs.Phases.{ClientState, is_registering}
use Rattle.client_machine.specs.Taking.{taken}
use Rattle.client_machine.specs.declared.phase.ClientPhase.{ClientPhase}
use Rattle.client_machine.specs.declared.saves.SaveAsk.{SaveAsk}
use Rattle.end_agreement.specs.Sides.{Agrees, Side, at_phase, may_cancel, may_give, mirror, side_given}
use Rattle.end_agreement.specs.Hearing.{Fits, IsLast, is_again, suits}
use Rattle.end_agreement.specs.Meeting.{EachAnswer, EachCancel, EachNeutral, Meets, has_place, is_deaf}
use Rattle.end_agreement.specs.Laws.{GivingKeeps}
use Rattle.end_agreement.proofs.Walks.{Said, each-more, goes-both, goes-make, goes-on}
use Rattle.end_agreement.proofs.Taken.{client_in}
use Rattle.end_agreement.proofs.Calm.{AreCalm, again-not, calm-agrees, calm-append, calm-registered, calm-still, calm-suits, calm-tail, differ, fits-dead, joined, last-on, neutral-calm, never-again, or-true, tail-nil}

abbrev side_in : Option Phase → Bool → SaveStyle → Side
side_in phase shutdown style = record { phase = phase; shutdown = shutdown; style = style }

-- Where the manager may give something

record Giveable (m : XsmpMessage) (p : Option Phase) : Type 0 where
  is : is_some p ≡ true
  known : is_unregistered p ≡ false
  hears : is_deaf p ≡ false
  free : is_owing p ≡ false
  stays : is_some (phase_given m p) ≡ true
  bound : (is_deaf (phase_given m p) || is_bound (phase_given m p)) ≡ true

giveable : (m : XsmpMessage) (p : Option Phase) → may_give m p ≡ true → Giveable m p
giveable (SaveYourself kind shutdown style fast) (Some Idle) e = record { is = refl; known = refl; hears = refl; free = refl; stays = refl; bound = refl }
giveable (SaveYourself kind shutdown style fast) p e = absurd (grind arith)
giveable Interact (Some Asked) e = record { is = refl; known = refl; hears = refl; free = refl; stays = refl; bound = refl }
giveable Interact (Some AskedTwo) e = record { is = refl; known = refl; hears = refl; free = refl; stays = refl; bound = refl }
giveable Interact p e = absurd (grind arith)
giveable SaveYourselfPhase2 (Some WantsTwo) e = record { is = refl; known = refl; hears = refl; free = refl; stays = refl; bound = refl }
giveable SaveYourselfPhase2 p e = absurd (grind arith)
giveable SaveComplete (Some Done) e = record { is = refl; known = refl; hears = refl; free = refl; stays = refl; bound = refl }
giveable SaveComplete p e = absurd (grind arith)
giveable ShutdownCancelled None e = absurd (grind arith)
giveable ShutdownCancelled (Some Unregistered) e = absurd (grind arith)
giveable ShutdownCancelled (Some Idle) e = absurd (grind arith)
giveable ShutdownCancelled (Some Owing) e = absurd (grind arith)
giveable ShutdownCancelled (Some Dying) e = absurd (grind arith)
giveable ShutdownCancelled (Some p) e = record { is = refl; known = refl; hears = refl; free = refl; stays = refl; bound = refl }
giveable Die (Some Idle) e = record { is = refl; known = refl; hears = refl; free = refl; stays = refl; bound = refl }
giveable Die (Some Done) e = record { is = refl; known = refl; hears = refl; free = refl; stays = refl; bound = refl }
giveable Die p e = absurd (grind arith)
giveable m p e = absurd (grind arith)

known-not : (p : Option Phase) → is_unregistered p ≡ false → p ≡ Some Unregistered → ⊥
known-not p k e = differ (ap (λ (q : Option Phase). is_unregistered q) e) k

not-none : (p : Option Phase) → is_some p ≡ true → p ≡ None → ⊥
not-none p k e = differ k (ap (λ (q : Option Phase). is_some q) e)

-- Where both agree, the client has a place for it, and both agree again.

record Given (m : XsmpMessage) (side : Side) (s : ClientState) : Type 0 where
  suits_it : suits m s ≡ true
  once : is_again m s ≡ false
  alive : is_registering (taken m s).phase ≡ false
  agrees : Agrees (side_given m side) (taken m s)

given-at : (m : XsmpMessage) (p : Option Phase) (sh : Bool) (st : SaveStyle) (id : List ℕ) (ask : SaveAsk) → may_give m p ≡ true → Agrees (side_in p sh st) (client_in (mirror p) id ask) → Given m (side_in p sh st) (client_in (mirror p) id ask)
given-at (SaveYourself kind shutdown style fast) (Some Idle) sh st id ask e a = record { suits_it = refl; once = refl; alive = refl; agrees = record { phase = refl; shutdown = λ w. refl; style = λ w. refl } }
given-at (SaveYourself kind shutdown style fast) p sh st id ask e a = absurd (grind arith)
given-at Interact (Some Asked) sh st id ask e a = record { suits_it = refl; once = refl; alive = refl; agrees = record { phase = refl; shutdown = λ w. a.shutdown refl; style = λ w. a.style refl } }
given-at Interact (Some AskedTwo) sh st id ask e a = record { suits_it = refl; once = refl; alive = refl; agrees = record { phase = refl; shutdown = λ w. a.shutdown refl; style = λ w. a.style refl } }
given-at Interact p sh st id ask e a = absurd (grind arith)
given-at SaveYourselfPhase2 (Some WantsTwo) sh st id ask e a = record { suits_it = refl; once = refl; alive = refl; agrees = record { phase = refl; shutdown = λ w. a.shutdown refl; style = λ w. a.style refl } }
given-at SaveYourselfPhase2 p sh st id ask e a = absurd (grind arith)
given-at SaveComplete (Some Done) sh st id ask e a = record { suits_it = refl; once = refl; alive = refl; agrees = record { phase = refl; shutdown = λ w. absurd (grind arith); style = λ w. absurd (grind arith) } }
given-at SaveComplete p sh st id ask e a = absurd (grind arith)
given-at ShutdownCancelled None sh st id ask e a = absurd (grind arith)
given-at ShutdownCancelled (Some Unregistered) sh st id ask e a = absurd (grind arith)
given-at ShutdownCancelled (Some Idle) sh st id ask e a = absurd (grind arith)
given-at ShutdownCancelled (Some Owing) sh st id ask e a = absurd (grind arith)
given-at ShutdownCancelled (Some Dying) sh st id ask e a = absurd (grind arith)
given-at ShutdownCancelled (Some p) sh st id ask e a = record { suits_it = refl; once = refl; alive = refl; agrees = record { phase = refl; shutdown = λ w. absurd (grind arith); style = λ w. absurd (grind arith) } }
given-at Die (Some Idle) sh st id ask e a = record { suits_it = refl; once = refl; alive = refl; agrees = record { phase = refl; shutdown = λ w. absurd (grind arith); style = λ w. absurd (grind arith) } }
given-at Die (Some Done) sh st id ask e a = record { suits_it = refl; once = refl; alive = refl; agrees = record { phase = refl; shutdown = λ w. absurd (grind arith); style = λ w. absurd (grind arith) } }
given-at Die p sh st id ask e a = absurd (grind arith)
given-at m p sh st id ask e a = absurd (grind arith)

given : (m : XsmpMessage) (side : Side) (s : ClientState) → may_give m side.phase ≡ true → Agrees side s → Given m side s
given m side s e a =
    subst (λ (ph : ClientPhase). Agrees side (client_in ph s.id s.asked) → Given m side (client_in ph s.id s.asked)) (sym a.phase) (given-at m side.phase side.shutdown side.style s.id s.asked e) a

-- before what is calm
insert-fits : (m : XsmpMessage) (side : Side) (s : ClientState) (a b : List XsmpMessage) → may_give m side.phase ≡ true → AreCalm b → Fits side s (a ++ b) → Fits (side_given m side) s (a ++ m ∷ b)
insert-fits m side s [] b e c f =
    let g : Given m side s = given m side s e (calm-agrees side s b (known-not side.phase (giveable m side.phase e).known) c f) in
    (g.suits_it, subst (λ (x : Bool). IsLast x (side_given m side) b) (sym g.once) tt, calm-tail (side_given m side) (taken m s) b g.alive g.agrees c)
insert-fits m side s (d ∷ a) b e c f =
    (f.0, last-on (is_again d s) side (side_given m side) (a ++ b) (a ++ m ∷ b) (λ l. known-not side.phase (giveable m side.phase e).known l.0) f.1, insert-fits m side (taken d s) a b e c f.2)

-- One whose connection is heard no more takes whatever comes.

none-known : (side : Side) → side.phase ≡ None → side.phase ≡ Some Unregistered → ⊥
none-known side n e = differ (ap (λ (q : Option Phase). is_unregistered q) e) (ap (λ (q : Option Phase). is_unregistered q) n)

gone-insert : (m : XsmpMessage) (side after : Side) (s : ClientState) (a b : List XsmpMessage) → side.phase ≡ None → after.phase ≡ None → AreCalm b → Fits side s (a ++ b) → Fits after s (a ++ m ∷ b)
gone-insert m side after s [] b n k c f = fits-dead after s (m ∷ b) k ((calm-agrees side s b (none-known side n) c f).phase ∙ ap (λ (p : Option Phase). mirror p) n)
gone-insert m side after s (d ∷ a) b n k c f =
    (f.0, last-on (is_again d s) side after (a ++ b) (a ++ m ∷ b) (λ l. none-known side n l.0) f.1, gone-insert m side after (taken d s) a b n k c f.2)

gone-fits : (m : XsmpMessage) (side after : Side) (s : ClientState) (a b : List XsmpMessage) → AreCalm b → Fits (at_phase None side) s ((a ++ b) ++ []) → Fits (at_phase None after) s ((a ++ m ∷ b) ++ [])
gone-fits m side after s a b c f =
    subst (λ (xs : List XsmpMessage). Fits (at_phase None after) s xs) (sym (tail-nil (a ++ m ∷ b)))
    (gone-insert m (at_phase None side) (at_phase None after) s a b refl refl c (subst (λ (xs : List XsmpMessage). Fits (at_phase None side) s xs) (tail-nil (a ++ b)) f))

gone-meets : (m : XsmpMessage) (side after : Side) (s : ClientState) (up a b : List XsmpMessage) → AreCalm b → Meets (at_phase None side) s up ((a ++ b) ++ []) → Meets (at_phase None after) s up ((a ++ m ∷ b) ++ [])
gone-meets m side after s [] a b c f = gone-fits m side after s a b c f
gone-meets m side after s (u ∷ up) a b c f = gone-fits m side after s a b c f

-- A cancellation is heard before what is calm or behind it, and it is one.

not-empty : (b c : List XsmpMessage) (m : XsmpMessage) → (b ++ m ∷ c) ≡ [] → ⊥
not-empty [] c m e = absurd cc
not-empty (x ∷ b) c m e = absurd cc

not-empty-two : (a b c : List XsmpMessage) (m : XsmpMessage) → ((a ++ b) ++ m ∷ c) ≡ [] → ⊥
not-empty-two a b c m e = not-empty (a ++ b) c m e

swap-first : (side : Side) (s : ClientState) (b c : List XsmpMessage) → AreCalm b → Fits side s (b ++ ShutdownCancelled ∷ c) → Fits side s (ShutdownCancelled ∷ b ++ c)
swap-first side s [] c k f = f
swap-first side s (m ∷ b) c k f =
    let r : is_registering s.phase ≡ false = calm-registered m side s (b ++ ShutdownCancelled ∷ c) k.0 f.0 f.1 (λ l. not-empty b c ShutdownCancelled l.1) in
    let i : Fits side s (ShutdownCancelled ∷ b ++ c) = swap-first side s b c k.1 (subst (λ (x : ClientState). Fits side x (b ++ ShutdownCancelled ∷ c)) (calm-still m s.phase s.id s.asked k.0 r) f.2) in
    let t : ClientState = taken ShutdownCancelled s in
    let n : is_registering t.phase ≡ false = never-again ShutdownCancelled s.phase r in
    (i.0, tt, (calm-suits m t.phase t.id t.asked k.0 n, subst (λ (x : Bool). IsLast x side (b ++ c)) (sym (again-not m t n)) tt, subst (λ (x : ClientState). Fits side x (b ++ c)) (sym (calm-still m t.phase t.id t.asked k.0 n)) i.2))

swap-at : (side : Side) (s : ClientState) (a b c : List XsmpMessage) → AreCalm b → Fits side s ((a ++ b) ++ ShutdownCancelled ∷ c) → Fits side s ((a ++ ShutdownCancelled ∷ b) ++ c)
swap-at side s [] b c k f = swap-first side s b c k f
swap-at side s (d ∷ a) b c k f =
    (f.0, last-on (is_again d s) side side ((a ++ b) ++ ShutdownCancelled ∷ c) ((a ++ ShutdownCancelled ∷ b) ++ c) (λ l. not-empty-two a b c ShutdownCancelled l.1) f.1, swap-at side (taken d s) a b c k f.2)

swap-meets : (side : Side) (s : ClientState) (up a b c : List XsmpMessage) → AreCalm b → Meets side s up ((a ++ b) ++ ShutdownCancelled ∷ c) → Meets side s up ((a ++ ShutdownCancelled ∷ b) ++ c)
swap-meets side s [] a b c k f = swap-at side s a b c k f
swap-meets side s (u ∷ up) a b c k f =
    goes-both side.phase _ _ _ _ (λ n g. swap-at side s a b c k g)
    (λ g. (
      g.0,
      each-more u side _ _
          (λ x d h. subst (λ (xs : List XsmpMessage). Meets x s up xs) (sym (joined (a ++ ShutdownCancelled ∷ b) c d)) (swap-meets x s up a b (c ++ d) k (subst (λ (xs : List XsmpMessage). Meets x s up xs) (joined (a ++ b) (ShutdownCancelled ∷ c) d) h)))
          g.1,
    )) f

-- How the answers to a message of the client before something is given, and behind it, belong together: `K` is said of those before,
-- and `L` of those behind.

record Handlers (m : XsmpMessage) (side : Side) (K L : Said) : Type 0 where
  ordinary : (y : Side) (d : List XsmpMessage) → AreCalm d → may_give m y.phase ≡ true → K y d → L (side_given m y) d
  gone : K (at_phase None side) [] → L (at_phase None (side_given m side)) []
  cancel : m ≡ ShutdownCancelled → K (at_phase (cancelled_phase side.phase) side) (ShutdownCancelled ∷ []) → L (at_phase (cancelled_phase side.phase) side) []

abbrev Way : XsmpMessage → XsmpMessage → Side → Said → Said → Type 0
Way u m side K L = Handlers m side K L → (has_place u (side_given m side) ≡ true) × (EachAnswer u side K → EachAnswer u (side_given m side) L)

-- a client that says something which changes its phase saves or has the token; it can hear nothing but that its save is cancelled
abbrev moves : Option Phase → Bool
moves (Some Saving) = true
moves (Some SavingTwo) = true
moves (Some Interacting) = true
moves (Some InteractingTwo) = true
moves p = false

only-cancel : (m : XsmpMessage) (p : Option Phase) → may_give m p ≡ true → moves p ≡ true → m ≡ ShutdownCancelled
only-cancel ShutdownCancelled p e k = refl
only-cancel (SaveYourself kind shutdown style fast) (Some Idle) e k = absurd (grind arith)
only-cancel (SaveYourself kind shutdown style fast) p e k = absurd (grind arith)
only-cancel Interact (Some Asked) e k = absurd (grind arith)
only-cancel Interact (Some AskedTwo) e k = absurd (grind arith)
only-cancel Interact p e k = absurd (grind arith)
only-cancel SaveYourselfPhase2 (Some WantsTwo) e k = absurd (grind arith)
only-cancel SaveYourselfPhase2 p e k = absurd (grind arith)
only-cancel SaveComplete (Some Done) e k = absurd (grind arith)
only-cancel SaveComplete p e k = absurd (grind arith)
only-cancel Die (Some Idle) e k = absurd (grind arith)
only-cancel Die (Some Done) e k = absurd (grind arith)
only-cancel Die p e k = absurd (grind arith)
only-cancel m p e k = absurd (grind arith)

as-cancel : (u m : XsmpMessage) (side : Side) (K L : Said) → may_give m side.phase ≡ true → moves side.phase ≡ true → (may_give ShutdownCancelled side.phase ≡ true → Way u ShutdownCancelled side K L) → Way u m side K L
as-cancel u m side K L e f w =
    let c : m ≡ ShutdownCancelled = only-cancel m side.phase e f in
    subst (λ (x : XsmpMessage). Way u x side K L) (sym c) (w (subst (λ (x : XsmpMessage). may_give x side.phase ≡ true) c e))

saving-moves : (p : Option Phase) (a : Bool) → is_deaf p ≡ false → is_owing p ≡ false → (is_deaf p || (is_owing p || is_saving p && a)) ≡ true → moves p ≡ true
saving-moves None a d o e = absurd (grind arith)
saving-moves (Some Saving) a d o e = refl
saving-moves (Some SavingTwo) a d o e = refl
saving-moves (Some p) a d o e = absurd (grind arith)

done-moves : (p : Option Phase) → is_deaf p ≡ false → is_owing p ≡ false → (is_deaf p || (is_owing p || is_saving p)) ≡ true → moves p ≡ true
done-moves None d o e = absurd (grind arith)
done-moves (Some Saving) d o e = refl
done-moves (Some SavingTwo) d o e = refl
done-moves (Some p) d o e = absurd (grind arith)

two-moves : (p : Option Phase) → is_deaf p ≡ false → is_owing p ≡ false → (is_deaf p || (is_owing p || is_first_saving p)) ≡ true → moves p ≡ true
two-moves None d o e = absurd (grind arith)
two-moves (Some Saving) d o e = refl
two-moves (Some p) d o e = absurd (grind arith)

talking-moves : (p : Option Phase) (a : Bool) → is_deaf p ≡ false → is_owing p ≡ false → (is_deaf p || (is_owing p || is_interacting p && a)) ≡ true → moves p ≡ true
talking-moves None a d o e = absurd (grind arith)
talking-moves (Some Interacting) a d o e = refl
talking-moves (Some InteractingTwo) a d o e = refl
talking-moves (Some p) a d o e = absurd (grind arith)

-- the message passes the cancellation: `next` is the phase where it is heard first, and `later` where it is heard behind it
record Passes (here : Bool) (next later : Option Phase) : Type 0 where
  place : here ≡ true
  may : may_cancel next ≡ true
  same : later ≡ cancelled_phase next

passes-dialog : (p : Option Phase) (a : Bool) → is_deaf p ≡ false → is_owing p ≡ false → (is_deaf p || (is_owing p || is_saving p && a)) ≡ true
    → Passes (is_deaf (cancelled_phase p) || (is_owing (cancelled_phase p) || is_saving (cancelled_phase p) && a)) (cond a (asked_phase p) p) (cond a (asked_phase (cancelled_phase p)) (cancelled_phase p))
passes-dialog (Some Saving) true d o e = record { place = refl; may = refl; same = refl }
passes-dialog (Some SavingTwo) true d o e = record { place = refl; may = refl; same = refl }
passes-dialog (Some Saving) false d o e = absurd (grind arith)
passes-dialog (Some SavingTwo) false d o e = absurd (grind arith)
passes-dialog None a d o e = absurd (grind arith)
passes-dialog (Some p) a d o e = absurd (grind arith)

passes-done : (p : Option Phase) → is_deaf p ≡ false → is_owing p ≡ false → (is_deaf p || (is_owing p || is_saving p)) ≡ true
    → Passes (is_deaf (cancelled_phase p) || (is_owing (cancelled_phase p) || is_saving (cancelled_phase p))) (saved_phase p) (saved_phase (cancelled_phase p))
passes-done (Some Saving) d o e = record { place = refl; may = refl; same = refl }
passes-done (Some SavingTwo) d o e = record { place = refl; may = refl; same = refl }
passes-done None d o e = absurd (grind arith)
passes-done (Some p) d o e = absurd (grind arith)

passes-two : (p : Option Phase) → is_deaf p ≡ false → is_owing p ≡ false → (is_deaf p || (is_owing p || is_first_saving p)) ≡ true
    → Passes (is_deaf (cancelled_phase p) || (is_owing (cancelled_phase p) || is_first_saving (cancelled_phase p))) (second_phase p) (second_phase (cancelled_phase p))
passes-two (Some Saving) d o e = record { place = refl; may = refl; same = refl }
passes-two None d o e = absurd (grind arith)
passes-two (Some p) d o e = absurd (grind arith)

passes-talked : (p : Option Phase) (a : Bool) → is_deaf p ≡ false → is_owing p ≡ false → (is_deaf p || (is_owing p || is_interacting p && a)) ≡ true
    → Passes (is_deaf (cancelled_phase p) || (is_owing (cancelled_phase p) || is_interacting (cancelled_phase p) && a)) (talked_phase p) (talked_phase (cancelled_phase p))
passes-talked (Some Interacting) a d o e = record { place = refl; may = refl; same = refl }
passes-talked (Some InteractingTwo) a d o e = record { place = refl; may = refl; same = refl }
passes-talked None a d o e = absurd (grind arith)
passes-talked (Some p) a d o e = absurd (grind arith)

-- what is said of the phase of the one is said of the other
passed : (side : Side) (K L : Said) (here : Bool) (next later : Option Phase) → Passes here next later → Handlers ShutdownCancelled side K L → K (at_phase next side) [] → L (at_phase later (side_given ShutdownCancelled side)) []
passed side K L here next later x h k = subst (λ (q : Option Phase). L (at_phase q side) []) (sym x.same) (h.ordinary (at_phase next side) [] tt x.may k)

way-dialog : (d : Dialog) (side : Side) (K L : Said) → may_give ShutdownCancelled side.phase ≡ true → has_place (InteractRequest d) side ≡ true → Way (InteractRequest d) ShutdownCancelled side K L
way-dialog d side K L e f h =
    let g : Giveable ShutdownCancelled side.phase = giveable ShutdownCancelled side.phase e in
    let x : Passes (has_place (InteractRequest d) (side_given ShutdownCancelled side)) (cond (allows side.style d) (asked_phase side.phase) side.phase) (cond (allows side.style d) (asked_phase (cancelled_phase side.phase)) (cancelled_phase side.phase)) =
    passes-dialog side.phase (allows side.style d) g.hears g.free f in
    (x.place, λ k. passed side K L _ _ _ x h k)

way-done : (success : Bool) (side : Side) (K L : Said) → may_give ShutdownCancelled side.phase ≡ true → has_place (SaveYourselfDone success) side ≡ true → Way (SaveYourselfDone success) ShutdownCancelled side K L
way-done success side K L e f h =
    let g : Giveable ShutdownCancelled side.phase = giveable ShutdownCancelled side.phase e in
    let x : Passes (has_place (SaveYourselfDone success) (side_given ShutdownCancelled side)) (saved_phase side.phase) (saved_phase (cancelled_phase side.phase)) = passes-done side.phase g.hears g.free f in
    (x.place, λ k. passed side K L _ _ _ x h k)

way-two : (side : Side) (K L : Said) → may_give ShutdownCancelled side.phase ≡ true → has_place SaveYourselfPhase2Request side ≡ true → Way SaveYourselfPhase2Request ShutdownCancelled side K L
way-two side K L e f h =
    let g : Giveable ShutdownCancelled side.phase = giveable ShutdownCancelled side.phase e in
    let x : Passes (has_place SaveYourselfPhase2Request (side_given ShutdownCancelled side)) (second_phase side.phase) (second_phase (cancelled_phase side.phase)) = passes-two side.phase g.hears g.free f in
    (x.place, λ k. passed side K L _ _ _ x h k)

off-quiet : (p : Option Phase) → is_interacting (cancelled_phase p) ≡ false
off-quiet None = refl
off-quiet (Some Saving) = refl
off-quiet (Some p) = refl

cancel-on : (b : Bool) (side after : Side) (L : Said) → b ≡ false → L after [] → EachCancel b after L
cancel-on true side after L n k = absurd (grind arith)
cancel-on false side after L n k = k

cancel-from : (p : Option Phase) (side : Side) (K : Said) → moves p ≡ true → (is_saving p) ≡ false → EachCancel (is_interacting p) side K → K (at_phase (cancelled_phase side.phase) side) (ShutdownCancelled ∷ [])
cancel-from (Some Interacting) side K m n k = k
cancel-from (Some InteractingTwo) side K m n k = k
cancel-from None side K m n k = absurd (grind arith)
cancel-from (Some p) side K m n k = absurd (grind arith)

talking-not : (p : Option Phase) (a : Bool) → is_deaf p ≡ false → is_owing p ≡ false → (is_deaf p || (is_owing p || is_interacting p && a)) ≡ true → is_saving p ≡ false
talking-not None a d o e = refl
talking-not (Some Saving) a d o e = absurd (grind arith)
talking-not (Some SavingTwo) a d o e = absurd (grind arith)
talking-not (Some p) a d o e = refl

way-talked : (c : Bool) (side : Side) (K L : Said) → may_give ShutdownCancelled side.phase ≡ true → has_place (InteractDone c) side ≡ true → Way (InteractDone c) ShutdownCancelled side K L
way-talked false side K L e f h =
    let g : Giveable ShutdownCancelled side.phase = giveable ShutdownCancelled side.phase e in
    let x : Passes (has_place (InteractDone false) (side_given ShutdownCancelled side)) (talked_phase side.phase) (talked_phase (cancelled_phase side.phase)) = passes-talked side.phase (side.shutdown || not false) g.hears g.free f in
    (x.place, λ k. passed side K L _ _ _ x h k)
way-talked true side K L e f h =
    let g : Giveable ShutdownCancelled side.phase = giveable ShutdownCancelled side.phase e in
    let x : Passes (has_place (InteractDone true) (side_given ShutdownCancelled side)) (talked_phase side.phase) (talked_phase (cancelled_phase side.phase)) = passes-talked side.phase (side.shutdown || not true) g.hears g.free f in (
      x.place,
      λ k. cancel-on (is_interacting (cancelled_phase side.phase)) side (side_given ShutdownCancelled side) L (off-quiet side.phase)
          (h.cancel refl (cancel-from side.phase side K (talking-moves side.phase (side.shutdown || not true) g.hears g.free f) (talking-not side.phase (side.shutdown || not true) g.hears g.free f) k)),
    )

way-neutral : (m : XsmpMessage) (side : Side) (K L : Said) → may_give m side.phase ≡ true → Handlers m side K L → EachNeutral side K → EachNeutral (side_given m side) L
way-neutral m side K L e h k = (h.ordinary side [] tt e k.0, λ x n. h.ordinary side (x ∷ []) (neutral-calm x n, tt) e (k.1 x n))

entry-not : (p : Option Phase) → is_deaf p ≡ false → is_unregistered p ≡ false → (is_deaf p || is_unregistered p) ≡ true → ⊥
entry-not p d u e = grind arith

nowhere : (p : Option Phase) → is_deaf p ≡ false → (is_deaf p || false) ≡ true → ⊥
nowhere p d e = grind arith

way : (u m : XsmpMessage) (side : Side) (K L : Said) → may_give m side.phase ≡ true → has_place u side ≡ true → Way u m side K L
way (RegisterClient previous) m side K L e f h = absurd (entry-not side.phase (giveable m side.phase e).hears (giveable m side.phase e).known f)
way (ConnectionClosed reasons) m side K L e f h = (or-true (is_deaf (phase_given m side.phase)), λ k. h.gone k)
way (SetProperties list) m side K L e f h = ((giveable m side.phase e).bound, λ k. way-neutral m side K L e h k)
way (DeleteProperties names) m side K L e f h = ((giveable m side.phase e).bound, λ k. way-neutral m side K L e h k)
way GetProperties m side K L e f h = ((giveable m side.phase e).bound, λ k. way-neutral m side K L e h k)
way (SaveYourselfRequest kind shutdown style fast global) m side K L e f h = ((giveable m side.phase e).bound, λ k. way-neutral m side K L e h k)
way (InteractRequest d) m side K L e f h =
    as-cancel (InteractRequest d) m side K L e (saving-moves side.phase (allows side.style d) (giveable m side.phase e).hears (giveable m side.phase e).free f) (λ c. way-dialog d side K L c f) h
way (InteractDone c) m side K L e f h =
    as-cancel (InteractDone c) m side K L e (talking-moves side.phase (side.shutdown || not c) (giveable m side.phase e).hears (giveable m side.phase e).free f) (λ o. way-talked c side K L o f) h
way (SaveYourselfDone success) m side K L e f h =
    as-cancel (SaveYourselfDone success) m side K L e (done-moves side.phase (giveable m side.phase e).hears (giveable m side.phase e).free f) (λ c. way-done success side K L c f) h
way SaveYourselfPhase2Request m side K L e f h =
    as-cancel SaveYourselfPhase2Request m side K L e (two-moves side.phase (giveable m side.phase e).hears (giveable m side.phase e).free f) (λ c. way-two side K L c f) h
way u m side K L e f h = absurd (nowhere side.phase (giveable m side.phase e).hears f)

give-meets : (m : XsmpMessage) (side : Side) (s : ClientState) (up a b : List XsmpMessage) → may_give m side.phase ≡ true → AreCalm b → Meets side s up (a ++ b) → Meets (side_given m side) s up (a ++ m ∷ b)
give-meets m side s [] a b e c f = insert-fits m side s a b e c f
give-meets m side s (u ∷ up) a b e c f =
    let K : Side → List XsmpMessage → Type 0 = λ x d. Meets x s up ((a ++ b) ++ d) in
    let L : Side → List XsmpMessage → Type 0 = λ x d. Meets x s up ((a ++ m ∷ b) ++ d) in
    let g : (has_place u side ≡ true) × EachAnswer u side K = goes-on side.phase _ _ (giveable m side.phase e).is f in
    let w : (has_place u (side_given m side) ≡ true) × (EachAnswer u side K → EachAnswer u (side_given m side) L) = way u m side K L e g.0 (record {
      ordinary = λ y d cd may k.
          subst (λ (xs : List XsmpMessage). Meets (side_given m y) s up xs) (sym (joined a (m ∷ b) d)) (give-meets m y s up a (b ++ d) may (calm-append b d c cd) (subst (λ (xs : List XsmpMessage). Meets y s up xs) (joined a b d) k));
      gone = λ k. gone-meets m side (side_given m side) s up a b c k;
      cancel = λ n k. subst (λ (x : XsmpMessage). Meets (at_phase (cancelled_phase side.phase) side) s up ((a ++ x ∷ b) ++ [])) (sym n) (swap-meets (at_phase (cancelled_phase side.phase) side) s up a b [] c k);
    }) in
    goes-make (phase_given m side.phase) _ _ (λ n. absurd (not-none (phase_given m side.phase) (giveable m side.phase e).stays n)) (w.0, w.1 g.1)

pub giving-meets : GivingKeeps
giving-meets m side s up down e f = give-meets m side s up down [] e tt (subst (λ (xs : List XsmpMessage). Meets side s up xs) (sym (tail-nil down)) f)
