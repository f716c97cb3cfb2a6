-- Where one row is changed in its place.
use Rattle.std.proofs.Common.{◌≡◌, ℕ, zero, suc, ◌<◌, ◌≤◌, ◌+◌, ◌==◌, Bool, true, false, List, [], ◌∷◌, length, None, Some, refl, ap, ◌∙◌, arith, position, get_or, set}
use Rattle.std.specs.List.{position_or_len}
use Rattle.std.proofs.lemmas.Grind.{common_steps}
use Rattle.std.proofs.lemmas.List.Quantifiers.{position-Some}
use Rattle.window_follower.specs.Windows.{is_of, changed}
use Rattle.window_follower.specs.declared.windows.Followed.{Followed}

changed_at : (w : ℕ) (f : Followed → Followed) (rows : List Followed) (n : ℕ) (d : Followed) → n < length rows → is_of w (get_or rows n d) ≡ true → ((k : ℕ) → k < n → is_of w (get_or rows k d) ≡ false) → set rows n (f (get_or rows n d)) ≡ changed w f rows
changed_at w f [] n d inside at before = absurd (omega (arith, inside))
changed_at w f (row ∷ rows) zero d inside at before = rw at refl
changed_at w f (row ∷ rows) (suc n) d inside at before =
    rw (before 0 (omega arith)) (ap (λ rest. row ∷ rest) (changed_at w f rows n d (omega (arith, inside)) at (λ k below. before (suc k) (omega (arith, below)))))

pub changed_in_place : (w : ℕ) (f : Followed → Followed) (rows : List Followed) (n : ℕ) (d : Followed) → position (is_of w) rows ≡ Some n → set rows n (f (get_or rows n d)) ≡ changed w f rows
changed_in_place w f rows n d is =
    let at = position-Some (is_of w) rows n d is in
    changed_at w f rows n d at.0 at.1 at.2

absent : (w : ℕ) (f : Followed → Followed) (rows : List Followed) → length rows ≤ position_or_len (is_of w) rows → rows ≡ changed w f rows
absent w f [] past = refl
absent w f (row ∷ rows) past = by (row.window == w) refl (absent w f rows)
  where
    by : (b : Bool) → (row.window == w) ≡ b → (length rows ≤ position_or_len (is_of w) rows → rows ≡ changed w f rows) → (row ∷ rows) ≡ changed w f (row ∷ rows)
    by true is rest =
        let none : position_or_len (is_of w) (row ∷ rows) ≡ 0 = rw is refl in
        absurd (omega (arith, none, past))
    by false other rest =
        let more : position_or_len (is_of w) (row ∷ rows) ≡ 1 + position_or_len (is_of w) rows = rw other refl in
        rw other (ap (λ xs. row ∷ xs) (rest (omega (arith, more, past))))

pub unchanged : (w : ℕ) (f : Followed → Followed) (rows : List Followed) → position (is_of w) rows ≡ None → rows ≡ changed w f rows
unchanged w f rows none =
    let past : length rows ≤ position_or_len (is_of w) rows = grind (arith, common_steps) in
    absent w f rows past

pub row_changed : (w : ℕ) (f : Followed → Followed) (rows : List Followed) (n : ℕ) (row after : Followed) → position (is_of w) rows ≡ Some n → row ≡ get_or rows n row → after ≡ f row → set rows n after ≡ changed w f rows
row_changed w f rows n row after is same makes =
    ap (λ (x : Followed). set rows n x) (makes ∙ ap f same) ∙ changed_in_place w f rows n row is
