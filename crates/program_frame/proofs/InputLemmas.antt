-- The console's input, read in parts.
use Rattle.std.proofs.Common.{◌≡◌, ℕ, ◌+◌, List, [], ◌++◌, length, Option, Some, None, Result, Ok, Err, IfSome, IsErrAnd, refl, sym, ap}
use Rattle.std.proofs.lemmas.List.{take_all}
use Rattle.sm_world.specs.declared.failures.Failure.{Failure}
use Rattle.program_frame.specs.Input.{front, TakesFront}
use Rattle.sm_world.specs.Outside.{Outside, UsesConsole}

-- the bytes so far are the front of the input, and the rest is left
abbrev pub InputSoFar : Option (List ℕ) → Option (List ℕ) → List ℕ → Type 0
InputSoFar None after bytes = after ≡ None
InputSoFar (Some input) after bytes = (left : List ℕ) × (after ≡ Some left) × (bytes ++ left ≡ input)

-- before a read: nothing else has changed
pub record ReadSoFar (limit : ℕ) (old now : Outside) (bytes : List ℕ) (left : ℕ) : Type 0 where
  pub told : now.told ≡ old.told
  pub input : InputSoFar old.input now.input bytes
  pub granted : length bytes + left ≡ limit
  pub uses : UsesConsole {A = Unit {0}} old now (Ok tt)

-- what was read is the front of some input, which is the one that is told
pub front_taken : (limit : ℕ) (told : Option (List ℕ)) (bytes : List ℕ) → TakesFront {E = Failure} limit told (Ok bytes) → (input : List ℕ) × (IfSome told (λ t. t ≡ input)) × (bytes ≡ front limit input)
unfolding front
front_taken limit None bytes taken = (bytes, tt, sym (take_all limit bytes taken))
front_taken limit (Some input) bytes taken = (input, refl, taken)

pub some_input : (told : Option (List ℕ)) → (input : List ℕ) × IfSome told (λ t. t ≡ input)
some_input None = ([], tt)
some_input (Some input) = (input, refl)

-- what `?` makes of an error
pub err_is : {A E : Type 0} (result : Result A E) (fault : E) → IsErrAnd result (λ e. e ≡ fault) → result ≡ Err fault
err_is (Ok x) fault h = absurd h
err_is (Err e) fault h = ap Err h
