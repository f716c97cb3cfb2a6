-- Lists of connections.
use Rattle.std.proofs.Common.{◌≡◌, refl, ℕ, Bool, true, false, cond, not, ◌&&◌, ◌||◌, List, [], ◌∷◌, ◌++◌, arith}
use Rattle.std.specs.Prelude.{◌==◌}
use Rattle.std.proofs.lemmas.Bool.Decides.{nat_tests}
use Rattle.round_agreement.specs.Agreement.{are_distinct}
use Rattle.round_agreement.proofs.BoolLaws.{both}
use Rattle.interact_queue.specs.Queue.{is_in, without}

pub in-without : (c d : ℕ) (cs : List ℕ) → is_in c (without d cs) ≡ (not (d == c) && is_in c cs)
in-without c d [] = grind (arith, nat_tests)
in-without c d (x ∷ cs) = grind (arith, nat_tests, in-without c d cs)

pub in-append : (c : ℕ) (cs ds : List ℕ) → is_in c (cs ++ ds) ≡ (is_in c cs || is_in c ds)
in-append c [] ds = refl
in-append c (x ∷ cs) ds = grind (arith, nat_tests, in-append c cs ds)

-- nobody stands twice
abbrev pub Once : List ℕ → Type 0
Once [] = Unit {0}
Once (c ∷ cs) = (is_in c cs ≡ false) × Once cs

once-push-in : (x c : ℕ) (cs : List ℕ) → is_in x cs ≡ false → is_in c (x ∷ cs) ≡ false → is_in x (cs ++ c ∷ []) ≡ false
once-push-in x c cs e f = grind (arith, nat_tests, in-append x cs (c ∷ []))

pub once-push : (c : ℕ) (cs : List ℕ) → Once cs → is_in c cs ≡ false → Once (cs ++ c ∷ [])
once-push c [] o e = (refl, tt)
once-push c (x ∷ cs) o e = (once-push-in x c cs o.0 e, once-push c cs o.1 (grind (arith, nat_tests)))

once-kept : (d x : ℕ) (cs : List ℕ) (b : Bool) → is_in x cs ≡ false → Once (without d cs) → Once (cond b (x ∷ without d cs) (without d cs))
once-kept d x cs true e o = (grind (arith, nat_tests, in-without x d cs), o)
once-kept d x cs false e o = o

pub once-without : (d : ℕ) (cs : List ℕ) → Once cs → Once (without d cs)
once-without d [] o = tt
once-without d (x ∷ cs) o = once-kept d x cs (not (x == d)) o.0 (once-without d cs o.1)

pub distinct-from_once : (cs : List ℕ) → Once cs → are_distinct cs ≡ true
distinct-from_once [] o = refl
distinct-from_once (x ∷ cs) o = both (is_in x cs) (are_distinct cs) o.0 (distinct-from_once cs o.1)
