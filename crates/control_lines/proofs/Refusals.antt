-- A line that begins as a piece says no other event.
use Rattle.std.proofs.Common.{◌≡◌, ℕ, List, ◌++◌, get_or, sym, ◌∙◌, ap, subst, arith, codes}
use Rattle.sm_world.specs.declared.events.Event.{Event}
use Rattle.sm_world.specs.declared.events.Event.TheVariants.{Joined, Piece, Gone, Operator, Tick, End}
use Rattle.control_lines.specs.Script.{Says, SaysPiece}

same_fields : (xs ys : List ℕ) → codes "piece " ++ xs ≡ codes "piece " ++ ys → xs ≡ ys
same_fields xs ys e = cc

same_first : (xs ys : List ℕ) → xs ≡ ys → get_or xs 0 0 ≡ get_or ys 0 0
same_first xs ys e = ap (λ zs. get_or zs 0 0) e

pub only_piece : (line fields : List ℕ) → line ≡ codes "piece " ++ fields → ((n : ℕ) (bytes : List ℕ) → SaysPiece fields n bytes → ⊥) → (event : Event) → Says line event → ⊥
only_piece line fields begins none (Joined n) says = omega (arith, same_first _ _ (sym begins ∙ says.0))
only_piece line fields begins none (Gone n) says = omega (arith, same_first _ _ (sym begins ∙ says.0))
only_piece line fields begins none (Tick n) says = omega (arith, same_first _ _ (sym begins ∙ says.0))
only_piece line fields begins none (Operator order) says = omega (arith, same_first _ _ (sym begins ∙ says.1))
only_piece line fields begins none (Piece n bytes) (fields', begins', says) =
    let P : List ℕ → Type 0 = λ f. SaysPiece f n bytes in none n bytes (subst P (same_fields fields' fields (sym begins' ∙ begins)) says)
only_piece line fields begins none End says = says
