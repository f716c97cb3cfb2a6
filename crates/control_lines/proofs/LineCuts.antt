-- The first line of a text, and the lines after it.
use Rattle.std.proofs.Common.{◌≡◌, ◌≢◌, ℕ, ◌<◌, ◌==◌, false, List, [], ◌∷◌, ◌++◌, length, refl, arith}
use Rattle.std.proofs.lemmas.Bool.Decides.{nat_tests}
use Rattle.control_lines.specs.Lines.{lines_of}
use Rattle.control_lines.specs.Parts.{IsWithout}

not_newline : (b : ℕ) → b ≢ 10 → (b == 10) ≡ false
not_newline b apart = grind (arith, nat_tests)

-- a line up to its newline, and the lines after it
pub lines_of-newline : (front back : List ℕ) → IsWithout 10 front → lines_of (front ++ (10 ∷ back)) ≡ front ∷ lines_of back
lines_of-newline [] back without = refl
lines_of-newline (b ∷ front) back without = rw (not_newline b without.0, lines_of-newline front back without.1) refl

-- a last line without a newline
lines_of-last : (b : ℕ) (line : List ℕ) → IsWithout 10 (b ∷ line) → lines_of (b ∷ line) ≡ (b ∷ line) ∷ []
lines_of-last b [] without = rw (not_newline b without.0) refl
lines_of-last b (d ∷ line) without = rw (not_newline b without.0, lines_of-last d line without.1) refl

pub lines_of-whole : (text : List ℕ) → 0 < length text → IsWithout 10 text → lines_of text ≡ text ∷ []
lines_of-whole [] some without = absurd (omega arith)
lines_of-whole (b ∷ line) some without = lines_of-last b line without
