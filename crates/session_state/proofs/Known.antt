-- What is known of one connection.
use Rattle.std.proofs.Common.{◌≡◌, refl, ℕ, Bool, true, false, ◌||◌, List, ◌∷◌, eqb, subst, arith}
use Rattle.std.specs.Prelude.{Option, ◌==◌}
use Rattle.std.proofs.lemmas.Bool.Decides.{nat_tests}
use Rattle.interact_queue.specs.Queue.{is_in}
use Rattle.session_model.specs.declared.phase.Phase.{Phase}
use Rattle.session_model.specs.Moves.{History}
use Rattle.session_model.specs.Readings as of

pub own : (c : ℕ) → (c == c) ≡ true
own c = grind (arith, nat_tests)

pub flips : (c d : ℕ) → (c == d) ≡ (d == c)
flips c d = grind (arith, nat_tests)

pub head-in : (c : ℕ) (cs : List ℕ) → is_in c (c ∷ cs) ≡ true
head-in c cs = grind (arith, nat_tests)

pub or-later : (b i : Bool) → i ≡ true → (b || i) ≡ true
or-later true i e = refl
or-later false i e = e

-- what is known of the phase of this one is known of that one
pub test-there : (test : Option Phase → Bool) (b : Bool) (d : ℕ) (h : History) → test (of.phase_of d h) ≡ b → (c : ℕ) → eqb d c ≡ true → test (of.phase_of c h) ≡ b
test-there test b d h e c f = let k : d ≡ c = grind (arith, nat_tests) in subst (λ (x : ℕ). test (of.phase_of x h) ≡ b) k e
