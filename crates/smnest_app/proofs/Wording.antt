-- What the words of a command line are.
use Rattle.std.proofs.Common.{◌≡◌, MatchOption, Option, Some, None, ℕ, ◌≤◌, true, List, length, refl, ap, arith}
use Rattle.std.proofs.lemmas.Bool.Decides.{nat_tests}
use Rattle.outer_agent.specs.Words.{AreFew}
use Rattle.smnest_app.specs.Words.{AreRehearse, AreServe, IsIdOf, Means, NestPlaces, Rehearse, Serve, Task, is_id}

-- Words that are neither of the two ask for nothing.
pub means_none : (words : List (List ℕ)) → ((id : List ℕ) → AreRehearse words id → ⊥) → ((places : NestPlaces) → AreServe words places → ⊥) → (task : Task) → Means words task → ⊥
means_none words one two (Rehearse id) means = one id means.ask
means_none words one two (Serve places) means = two places means.ask

pub too_many : (words : List (List ℕ)) → (AreFew words → ⊥) → (task : Task) → Means words task → ⊥
too_many words many task means = many means.few

-- What is no Some is None.
pub not_some : {A N : Type 0} (S : A → Type 0) (found : Option A) → MatchOption found N S → ((x : A) → found ≡ Some x → ⊥) → N
not_some S None none other = none
not_some S (Some x) some other = absurd (other x refl)

-- An ID that words have has at most 512 bytes.
pub short_id : (named : Option (List ℕ)) (id : List ℕ) → IsIdOf named id → length id ≤ 512
short_id None id is = omega (arith, ap length is)
short_id (Some word) id is = rw is.1 (short word is.0)
  where
    short : (w : List ℕ) → is_id w ≡ true → length w ≤ 512
    short w e = grind (arith, nat_tests, e)
