-- What is read of the console's input.
use Rattle.std.specs.Prelude.{◌≡◌, ◌≤◌, ℕ, List, length, take, Option, Some, None, Result, IfOk}

-- the first bytes, this many at most
unfoldable pub front : ℕ → List ℕ → List ℕ
front limit bytes = take limit bytes

-- At Ok the front of the input is answered, where the world tells its input.
abbrev pub TakesFront : {E : Type 0} → ℕ → Option (List ℕ) → Result (List ℕ) E → Type 0
TakesFront limit None result = IfOk result (λ bytes. length bytes ≤ limit)
TakesFront limit (Some input) result = IfOk result (λ bytes. bytes ≡ front limit input)
