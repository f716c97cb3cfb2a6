-- What a history says of a client's silence is the sum of the milliseconds since its last sign.
use Rattle.std.proofs.Common.{◌≡◌, ℕ, ◌+◌, Bool, true, false, cond, eqb, arith}
use Rattle.std.specs.Prelude.{List, Option, Some, None, is_some, min}
use Rattle.xsmp_messages.specs.declared.message.XsmpMessage.{XsmpMessage}
use Rattle.xsmp_messages.specs.declared.message.XsmpMessage.TheVariants.{Error}
use Rattle.session_model.specs.declared.phase.Phase.{Phase}
use Rattle.session_model.specs.declared.events.SessionEvent.TheVariants.{Joined, Ready, Said, Left, Operator, Tick}
use Rattle.session_model.specs.Phases.{is_registered, may_interact, phase_given, phase_said, ready_phase}
use Rattle.session_model.specs.Moves.{Outside, Gave, Unset, Closed, History, Opened, ◌▷◌}
use Rattle.session_model.specs.Readings as of
use Rattle.session_model.specs.Laws.{SilenceIsCounted, silence}

-- this number, up to the largest, where so much was silence
abbrev Is : ℕ → ℕ → Type 0
Is n s = n ≡ min s 18446744073709551615

no-more : (n s : ℕ) → Is n s → Is n (s + 0)
no-more n s is = omega (arith, is)

-- a sign of c, or of another
at-sign : (b : Bool) (p q : Option Phase) (n s : ℕ) → (is_registered p ≡ true → Is n s) → is_registered (cond b q p) ≡ true → Is (cond b 0 n) (cond b 0 (s + 0))
at-sign true p q n s k e = omega arith
at-sign false p q n s k e = no-more n s (k e)

-- an Error is none
at-error : (b : Bool) (p : Option Phase) (n s : ℕ) → (is_registered p ≡ true → Is n s) → is_registered (cond b p p) ≡ true → Is (cond b n n) (s + 0)
at-error true p n s k e = no-more n s (k e)
at-error false p n s k e = no-more n s (k e)

-- c is gone, or another is
at-gone : (b : Bool) (p : Option Phase) (n s : ℕ) → (is_registered p ≡ true → Is n s) → is_registered (cond b None p) ≡ true → Is (cond b 0 n) (s + 0)
at-gone true p n s k e = absurd (grind arith)
at-gone false p n s k e = no-more n s (k e)

at-ready : (b : Bool) (p : Option Phase) (n s : ℕ) → (is_registered p ≡ true → Is n s) → is_registered (cond b (ready_phase p) p) ≡ true → Is n (s + 0)
at-ready true None n s k e = absurd (grind arith)
at-ready true (Some p) n s k e = no-more n s (k e)
at-ready false p n s k e = no-more n s (k e)

-- the time goes on for whoever is registered
at-tick : (p : Option Phase) (n s milliseconds : ℕ) → (is_registered p ≡ true → Is n s) → is_registered p ≡ true → Is (cond (is_some p) (of.quiet_for n milliseconds) n) (s + milliseconds)
at-tick None n s milliseconds k e = absurd (grind arith)
at-tick (Some p) n s milliseconds k e = omega (arith, k e)

counted-said : (c d : ℕ) (m : XsmpMessage) (sequence : ℕ) (frame : List ℕ) (h : History) → (is_registered (of.phase_of c h) ≡ true → Is (of.quiet c h) (silence c h))
    → is_registered (of.phase_of c (Outside (Said d m sequence frame) ▷ h)) ≡ true → Is (of.quiet c (Outside (Said d m sequence frame) ▷ h)) (silence c (Outside (Said d m sequence frame) ▷ h))
counted-said c d (Error error) sequence frame h k e = at-error (eqb d c) (of.phase_of c h) (of.quiet c h) (silence c h) k e
counted-said c d m sequence frame h k e = at-sign (eqb d c) (of.phase_of c h) (phase_said (λ dialog. may_interact (of.wanted h) dialog) m (of.phase_of c h)) (of.quiet c h) (silence c h) k e

pub counted : SilenceIsCounted
counted (Opened opening) c e = absurd (grind arith)
counted (Outside (Joined d) ▷ h) c e = no-more (of.quiet c h) (silence c h) (counted h c e)
counted (Outside (Ready d) ▷ h) c e = at-ready (eqb d c) (of.phase_of c h) (of.quiet c h) (silence c h) (counted h c) e
counted (Outside (Said d m sequence frame) ▷ h) c e = counted-said c d m sequence frame h (counted h c) e
counted (Outside (Left d) ▷ h) c e = at-gone (eqb d c) (of.phase_of c h) (of.quiet c h) (silence c h) (counted h c) e
counted (Outside (Operator order) ▷ h) c e = no-more (of.quiet c h) (silence c h) (counted h c e)
counted (Outside (Tick milliseconds) ▷ h) c e = at-tick (of.phase_of c h) (of.quiet c h) (silence c h) milliseconds (counted h c) e
counted (Gave d m ▷ h) c e = at-sign (eqb d c) (of.phase_of c h) (phase_given m (of.phase_of c h)) (of.quiet c h) (silence c h) (counted h c) e
counted (Unset d ▷ h) c e = at-gone (eqb d c) (of.phase_of c h) (of.quiet c h) (silence c h) (counted h c) e
counted (Closed d ▷ h) c e = at-gone (eqb d c) (of.phase_of c h) (of.quiet c h) (silence c h) (counted h c) e
counted (m ▷ h) c e = no-more (of.quiet c h) (silence c h) (counted h c e)
