-- Values that are read, spelled again and compared.
use Rattle.std.proofs.Common.{◌≡◌, ◌≢◌, ℕ, zero, suc, ◌≤◌, List, [], ◌∷◌, ◌++◌, length, take, Option, Some, None, refl, sym, ap, ◌∙◌, subst, arith}
use Rattle.std.proofs.lemmas.List.{append_cancel_left}
use Rattle.ice_values.specs.Cells.{Cells, zeros, Begins}
use Rattle.ice_values.specs.Reading.{IsBytes, Exact}
use Rattle.ice_values.proofs.CellLaws.{Begins-zeros, Begins-length, length-zeros}
use Rattle.ice_values.proofs.OptionLaws.{some_is, none_not_some}
use Rattle.checkpoint_records.specs.Finding.{Finds}
use Rattle.checkpoint_records.proofs.FindLaws.{nothing}

pub bytes-take : (n : ℕ) (bytes : List ℕ) → IsBytes bytes → IsBytes (take n bytes)
bytes-take zero bytes fits i = omega arith
bytes-take (suc n) [] fits i = fits i
bytes-take (suc n) (b ∷ bytes) fits zero = fits 0
bytes-take (suc n) (b ∷ bytes) fits (suc i) = bytes-take n bytes (λ k. fits (suc k)) i

-- a front that isn't longer stands in the front
pub take_past : (n : ℕ) (xs ys : List ℕ) → length xs ≤ n → (after : List ℕ) × (take n (xs ++ ys) ≡ xs ++ after)
take_past n [] ys le = (take n ys, refl)
take_past zero (x ∷ xs) ys le = absurd (omega arith)
take_past (suc n) (x ∷ xs) ys le = let h = take_past n xs ys (omega arith) in (h.0, ap (λ (l : List ℕ). x ∷ l) h.1)

module _ {A : Type 0} (cells : A → Cells) (Fits : A → Type 0) (read : List ℕ → Option (A × List ℕ)) (exact : Exact cells Fits read) (limit : ℕ) where
  abbrev spelled : A → List ℕ
  spelled x = zeros (cells x)

  abbrev IsShort : A → Type 0
  IsShort x = Fits x × (length (cells x) ≤ limit)

  -- what is spelled at the front is seen through the window
  pub seen : (bytes window : List ℕ) (x : A) (rest : List ℕ) → window ≡ take limit bytes → IsShort x → bytes ≡ spelled x ++ rest → (after : List ℕ) × (read window ≡ Some (x, after))
  seen bytes window x rest is_window short is =
      let past = take_past limit (spelled x) rest (omega (arith, short.1, length-zeros (cells x))) in
      let e : window ≡ spelled x ++ past.0 = is_window ∙ ap (take limit) is ∙ past.1 in
      (past.0, exact.again window x past.0 short.0 (subst (λ (w : List ℕ). Begins (cells x) w past.0) (sym e) (Begins-zeros (cells x) past.0)))

  -- and it is what was read there
  pub same : (bytes window : List ℕ) (value : A) (left : List ℕ) (x : A) (rest : List ℕ) → window ≡ take limit bytes → read window ≡ Some (value, left) → IsShort x → bytes ≡ spelled x ++ rest → value ≡ x
  same bytes window value left x rest is_window is_read short is =
      let h = seen bytes window x rest is_window short is in
      ap (λ (p : A × List ℕ). p.0) (some_is (value, left) (x, h.0) (sym is_read ∙ h.1))

  pub none_seen : (bytes window : List ℕ) → window ≡ take limit bytes → read window ≡ None → Finds spelled IsShort bytes None
  none_seen bytes window is_window is_read =
      nothing spelled IsShort bytes (λ x rest short is. let h = seen bytes window x rest is_window short is in none_not_some (x, h.0) (sym is_read ∙ h.1))

  pub read_fits : (window : List ℕ) (value : A) (left : List ℕ) → IsBytes window → read window ≡ Some (value, left) → Fits value
  read_fits window value left fits is_read = (exact.takes window value left fits is_read).1

  pub found : (bytes window : List ℕ) (value : A) (left rest again : List ℕ) → IsBytes bytes → window ≡ take limit bytes → read window ≡ Some (value, left) → again ≡ spelled value → bytes ≡ again ++ rest → Finds spelled IsShort bytes (Some (value, rest))
  found bytes window value left rest again fits is_window is_read is_again is =
      let fits_window : IsBytes window = subst IsBytes (sym is_window) (bytes-take limit bytes fits) in
      let h = exact.takes window value left fits_window is_read in
      let len : length window ≤ limit = subst (λ (w : List ℕ). length w ≤ limit) (sym is_window) (short-take limit bytes) in
      let front : bytes ≡ spelled value ++ rest = is ∙ ap (λ (l : List ℕ). l ++ rest) is_again in
      record {
        some = ((h.1, omega (arith, len, Begins-length (cells value) window left h.0)), front);
        only = λ x after short there.
            let e = same bytes window value left x after is_window is_read short there in
            let cut : rest ≡ after = append_cancel_left (spelled x) rest after (ap (λ (y : A). spelled y ++ rest) (sym e) ∙ sym front ∙ there) in
            rw (e, cut) refl;
      }
    where
      short-take : (n : ℕ) (l : List ℕ) → length (take n l) ≤ n
      short-take zero l = omega arith
      short-take (suc n) [] = omega arith
      short-take (suc n) (b ∷ l) = let h = short-take n l in omega (arith, h)

  pub missing : (bytes window : List ℕ) (value : A) (left again : List ℕ) → window ≡ take limit bytes → read window ≡ Some (value, left) → again ≡ spelled value → ((rest : List ℕ) → bytes ≢ again ++ rest) → Finds spelled IsShort bytes None
  missing bytes window value left again is_window is_read is_again other =
      nothing spelled IsShort bytes (λ x rest short is.
      other rest (is ∙ ap (λ (y : A). spelled y ++ rest) (sym (same bytes window value left x rest is_window is_read short is)) ∙ ap (λ (l : List ℕ). l ++ rest) (sym is_again)))
