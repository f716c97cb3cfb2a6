-- What the first bytes of a part state stays the same as more bytes come behind them.
use Rattle.std.proofs.Common.{◌≡◌, ℕ, suc, ◌<◌, ◌≤◌, List, [], ◌∷◌, ◌++◌, length, refl, sym, ◌∙◌, arith, nat_lt, false}
use Rattle.std.proofs.lemmas.Bool.{lt-ltb}
use Rattle.std.proofs.lemmas.Bool.Decides.{nat_tests}
use Rattle.display_stream.specs.Parts.{units_in}
use Rattle.display_stream.specs.declared.stages.Stage.{Stage}
use Rattle.display_stream.specs.declared.stages.Stage.TheVariants.{Setup, Later}

-- eight and more aren't fewer than eight
no_fewer : (n : ℕ) → nat_lt (suc (suc (suc (suc (suc (suc (suc (suc n)))))))) 8 ≡ false
no_fewer n = grind (arith, nat_tests)

units_whole : (stage : Stage) (b0 b1 b2 b3 b4 b5 b6 b7 : ℕ) (bytes : List ℕ)
    → units_in stage (b0 ∷ b1 ∷ b2 ∷ b3 ∷ b4 ∷ b5 ∷ b6 ∷ b7 ∷ bytes) ≡ units_in stage (b0 ∷ b1 ∷ b2 ∷ b3 ∷ b4 ∷ b5 ∷ b6 ∷ b7 ∷ [])
units_whole Setup b0 b1 b2 b3 b4 b5 b6 b7 bytes = rw (no_fewer (length bytes)) refl
units_whole Later b0 b1 b2 b3 b4 b5 b6 b7 bytes = rw (no_fewer (length bytes)) refl

pub units_in-append : (stage : Stage) (bytes more : List ℕ) → 8 ≤ length bytes → units_in stage (bytes ++ more) ≡ units_in stage bytes
units_in-append stage (b0 ∷ b1 ∷ b2 ∷ b3 ∷ b4 ∷ b5 ∷ b6 ∷ b7 ∷ bytes) more whole =
    units_whole stage b0 b1 b2 b3 b4 b5 b6 b7 (bytes ++ more) ∙ sym (units_whole stage b0 b1 b2 b3 b4 b5 b6 b7 bytes)
units_in-append stage bytes more whole = absurd (omega arith)

-- what isn't whole states nothing
pub units_in-short : (stage : Stage) (bytes : List ℕ) → length bytes < 8 → units_in stage bytes ≡ 0
units_in-short stage bytes short = rw (lt-ltb (length bytes) 8 short) refl
