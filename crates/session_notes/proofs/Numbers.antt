-- No two new IDs of a run are alike.
use Rattle.std.proofs.Common.{◌≡◌, refl, ℕ, zero, suc, ◌<◌, Bool, true, false, sym, arith}
use Rattle.std.specs.List.{AllByRecursion, IsDistinct}
use Rattle.std.specs.Str.{bytes_eq}
use Rattle.std.specs.Cmp.Lexicographic.{same_text}
use Rattle.checkpoint_records.specs.Rules.{client_id}
use Rattle.session_model.proofs.Ids.{same-place}
use Rattle.session_notes.proofs.Kept.{numbered}

others-differ : (epoch m n : ℕ) → n < m → m < 4294967296 → AllByRecursion (λ id. bytes_eq (client_id epoch m) id ≡ false) (numbered epoch n)
others-differ epoch m zero k l = tt
others-differ epoch m (suc n) k l = (differ-at (bytes_eq (client_id epoch m) (client_id epoch (suc n))) refl, others-differ epoch m n (omega (arith, k)) l) where
  differ-at : (b : Bool) → bytes_eq (client_id epoch m) (client_id epoch (suc n)) ≡ b → b ≡ false
  differ-at false e = refl
  differ-at true e =
      let s : m ≡ suc n = same-place epoch epoch m (suc n) (omega (arith, l)) (omega (arith, k, l)) (same_text (client_id epoch m) (client_id epoch (suc n)) (sym e)) in
      absurd (omega (arith, s, k))

pub numbers-differ : (epoch n : ℕ) → n < 4294967296 → IsDistinct bytes_eq (numbered epoch n)
unfolding IsDistinct
numbers-differ epoch zero l = tt
numbers-differ epoch (suc n) l = (others-differ epoch (suc n) n (omega arith) l, numbers-differ epoch n (omega (arith, l)))
