-- Items one after the other at the front of bytes.
use Rattle.std.proofs.Common.{◌≡◌, ℕ, ◌<◌, ◌≤◌, List, [], ◌∷◌, ◌++◌, length, refl, sym, ap, ◌∙◌, arith, append_assoc, length-append}
use Rattle.std.specs.Prelude.{flat_map}
use Rattle.std.proofs.lemmas.List.{append-nil}
use Rattle.std.proofs.lemmas.Grind.{flat_map-append}
use Rattle.ice_values.specs.Cells.{Cells, zeros}
use Rattle.ice_values.proofs.CellLaws.{zeros-append}
use Rattle.checkpoint_records.specs.Finding.{AreInFront, IsStuck, EndsEarly, IsStop}
use Rattle.checkpoint_records.specs.declared.stops.Stop.{Stop}
use Rattle.checkpoint_records.specs.declared.stops.Stop.TheVariants.{Broken, NoMemory}

module _ {A : Type 0} (cells : A → Cells) (Keep : List A → Type 0) where
  pub zeros-more : (xs ys : List A) → zeros (flat_map cells (xs ++ ys)) ≡ zeros (flat_map cells xs) ++ zeros (flat_map cells ys)
  zeros-more xs ys = ap zeros (flat_map-append cells xs ys) ∙ zeros-append (flat_map cells xs) (flat_map cells ys)

  pub zeros-one : (xs : List A) (y : A) → zeros (flat_map cells (xs ++ y ∷ [])) ≡ zeros (flat_map cells xs) ++ zeros (cells y)
  zeros-one xs y = zeros-more xs (y ∷ []) ∙ ap (λ (c : Cells). zeros (flat_map cells xs) ++ zeros c) (append-nil (cells y))

  pub one_more : (bytes : List ℕ) (items : List A) (rest : List ℕ) (x : A) (after : List ℕ) → AreInFront cells Keep bytes items rest → Keep (items ++ x ∷ []) → rest ≡ zeros (cells x) ++ after → AreInFront cells Keep bytes (items ++ x ∷ []) after
  one_more bytes items rest x after front keep is = record {
    keep = keep;
    is = front.is ∙ ap (λ (l : List ℕ). zeros (flat_map cells items) ++ l) is ∙ sym (append_assoc (zeros (flat_map cells items)) (zeros (cells x)) after) ∙ ap (λ (l : List ℕ). l ++ after) (sym (zeros-one items x));
  }

  pub no_longer : (bytes : List ℕ) (items : List A) (rest : List ℕ) → AreInFront cells Keep bytes items rest → length rest ≤ length bytes
  no_longer bytes items rest front = omega (arith, ap length front.is, length-append (zeros (flat_map cells items)) rest)

  pub stops_early : (bytes : List ℕ) (items : List A) (rest : List ℕ) (count : ℕ) (stop : Stop) → AreInFront cells Keep bytes items rest → length items < count
      → IsStop rest (λ left. (left ≡ length rest) × IsStuck cells Keep items rest) stop → IsStop bytes (EndsEarly cells Keep bytes count) stop
  stops_early bytes items rest count (Broken left) front fewer stuck =
      (omega (arith, stuck.0, no_longer bytes items rest front), record { items = items; rest = rest; front = front; stuck = stuck.1.1; fewer = fewer; left_is = stuck.1.0 })
  stops_early bytes items rest count NoMemory front fewer stuck = tt

  pub none_yet : (bytes : List ℕ) → Keep [] → AreInFront cells Keep bytes [] bytes
  none_yet bytes keep = record { keep = keep; is = refl }
