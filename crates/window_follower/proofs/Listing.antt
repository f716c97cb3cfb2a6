-- Who was in a list stays in it, but for those that leave.
use Rattle.std.proofs.Common.{◌≡◌, ◌⊎◌, inl, inr, ℕ, ◌==◌, Bool, true, false, not, cond, ◌&&◌, ◌||◌, List, [], ◌∷◌, ◌++◌, filter, refl, sym, ap, ◌∙◌}
use Rattle.std.proofs.lemmas.Bool.{eqb-true, false≢true}
use Rattle.window_follower.specs.Facts.{learned}
use Rattle.window_follower.specs.Windows.{fresh, is_listed, has_left, marked, told, settled, forgotten}
use Rattle.window_follower.specs.Laws.{has_withdrawn}
use Rattle.window_follower.specs.declared.facts.Fact.{Fact}
use Rattle.window_follower.specs.declared.windows.Followed.{Followed}

or_right : (x r s : Bool) → (x || r) ≡ true → (r ≡ true → s ≡ true) → (x || s) ≡ true
or_right true r s e f = refl
or_right false r s e f = f e

or_left : (x y r : Bool) → (x || r) ≡ true → (x ≡ true → y ≡ true) → (y || r) ≡ true
or_left true y r e f = ap (λ b. b || r) (f refl)
or_left false true r e f = refl
or_left false false r e f = e

and_true : (x l : Bool) → (x && l) ≡ true → (x && true) ≡ true
and_true true l e = refl
and_true false l e = e

pub listed_more : (w : ℕ) (rows more : List Followed) → is_listed w rows ≡ true → is_listed w (rows ++ more) ≡ true
listed_more w [] more e = absurd (false≢true e)
listed_more w (row ∷ rows) more e = or_right (row.window == w && row.listed) (is_listed w rows) (is_listed w (rows ++ more)) e (listed_more w rows more)

pub listed_marked : (v w : ℕ) (rows : List Followed) → is_listed w rows ≡ true → is_listed w (marked v rows) ≡ true
listed_marked v w [] e = e
listed_marked v w (row ∷ rows) e = by (row.window == v) (listed_marked v w rows)
  where
    by : (b : Bool) → (is_listed w rows ≡ true → is_listed w (marked v rows) ≡ true) → is_listed w (cond b (record row { listed = true } ∷ rows) (row ∷ marked v rows)) ≡ true
    by true rest = or_left (row.window == w && row.listed) (row.window == w && true) (is_listed w rows) e (and_true (row.window == w) row.listed)
    by false rest = or_right (row.window == w && row.listed) (is_listed w rows) (is_listed w (marked v rows)) e rest

pub listed_told : (v w : ℕ) (fact : Fact) (rows : List Followed) → is_listed w rows ≡ true → is_listed w (told v fact rows) ≡ true
listed_told v w fact [] e = e
listed_told v w fact (row ∷ rows) e = by (row.window == v) (listed_told v w fact rows)
  where
    by : (b : Bool) → (is_listed w rows ≡ true → is_listed w (told v fact rows) ≡ true) → is_listed w (cond b (record row { facts = learned fact row.facts } ∷ rows) (row ∷ told v fact rows)) ≡ true
    by true rest = e
    by false rest = or_right (row.window == w && row.listed) (is_listed w rows) (is_listed w (told v fact rows)) e rest

-- another window is forgotten
pub listed_forgotten : (v w : ℕ) (rows : List Followed) → (v == w) ≡ false → is_listed w rows ≡ true → is_listed w (forgotten v rows) ≡ true
listed_forgotten v w [] apart e = e
listed_forgotten v w (row ∷ rows) apart e = by (row.window == v) refl (listed_forgotten v w rows apart)
  where
    by : (b : Bool) → (row.window == v) ≡ b → (is_listed w rows ≡ true → is_listed w (forgotten v rows) ≡ true) → is_listed w (cond (not b) (row ∷ forgotten v rows) (forgotten v rows)) ≡ true
    by true same rest =
        let other : (row.window == w) ≡ false = ap (λ (n : ℕ). n == w) (eqb-true row.window v same) ∙ apart in
        rest (sym (ap (λ (b : Bool). (b && row.listed) || is_listed w rows) other) ∙ e)
    by false other rest = or_right (row.window == w && row.listed) (is_listed w rows) (is_listed w (forgotten v rows)) e rest

pub or_more : (x r : Bool) → r ≡ true → (x || r) ≡ true
or_more true r e = refl
or_more false r e = e

pub or_first : (x r : Bool) → x ≡ true → (x || r) ≡ true
or_first true r e = refl
or_first false r e = absurd (false≢true e)

both : (x y : Bool) → x ≡ true → y ≡ true → (x && y) ≡ true
both true y e f = f
both false y e f = absurd (false≢true e)

first_true : (x l : Bool) → (x && l) ≡ true → x ≡ true
first_true true l e = refl
first_true false l e = absurd (false≢true e)

-- those that have left are followed no more
pub listed_settled : (w : ℕ) (rows : List Followed) → is_listed w rows ≡ true → (is_listed w (settled rows) ≡ true) ⊎ (has_withdrawn w rows ≡ true)
listed_settled w [] e = inl e
listed_settled w (row ∷ rows) e = by (row.window == w && row.listed) refl (has_left row) refl e (listed_settled w rows)
  where
    by : (b : Bool) → (row.window == w && row.listed) ≡ b → (left : Bool) → has_left row ≡ left → (b || is_listed w rows) ≡ true
        → (is_listed w rows ≡ true → (is_listed w (settled rows) ≡ true) ⊎ (has_withdrawn w rows ≡ true))
        → (is_listed w (cond (not left) (row ∷ settled rows) (settled rows)) ≡ true) ⊎ (((row.window == w && left) || has_withdrawn w rows) ≡ true)
    by true is true leaves e rest = inr (or_first (row.window == w && true) (has_withdrawn w rows) (both (row.window == w) true (first_true (row.window == w) row.listed is) refl))
    by true is false stays e rest = inl (or_first (row.window == w && row.listed) (is_listed w (settled rows)) is)
    by false is left leaves e rest = on left (rest e)
      where
        on : (left : Bool) → (is_listed w (settled rows) ≡ true) ⊎ (has_withdrawn w rows ≡ true) → (is_listed w (cond (not left) (row ∷ settled rows) (settled rows)) ≡ true) ⊎ (((row.window == w && left) || has_withdrawn w rows) ≡ true)
        on true (inl stays) = inl stays
        on false (inl stays) = inl (or_more (row.window == w && row.listed) (is_listed w (settled rows)) stays)
        on left (inr leaves) = inr (or_more (row.window == w && left) (has_withdrawn w rows) leaves)

-- ---- who is in a list behind, and was before

pub was_more : (v w : ℕ) (rows : List Followed) → is_listed w (rows ++ fresh v false ∷ []) ≡ true → is_listed w rows ≡ true
was_more v w [] e = by (v == w) e
  where
    by : (b : Bool) → ((b && false) || false) ≡ true → false ≡ true
    by true e = e
    by false e = e
was_more v w (row ∷ rows) e = or_right (row.window == w && row.listed) (is_listed w (rows ++ fresh v false ∷ [])) (is_listed w rows) e (was_more v w rows)

pub was_told : (v w : ℕ) (fact : Fact) (rows : List Followed) → is_listed w (told v fact rows) ≡ true → is_listed w rows ≡ true
was_told v w fact [] e = e
was_told v w fact (row ∷ rows) e = by (row.window == v) (was_told v w fact rows) e
  where
    by : (b : Bool) → (is_listed w (told v fact rows) ≡ true → is_listed w rows ≡ true) → is_listed w (cond b (record row { facts = learned fact row.facts } ∷ rows) (row ∷ told v fact rows)) ≡ true → is_listed w (row ∷ rows) ≡ true
    by true rest e = e
    by false rest e = or_right (row.window == w && row.listed) (is_listed w (told v fact rows)) (is_listed w rows) e rest

pub was_kept : (p : Followed → Bool) (w : ℕ) (rows : List Followed) → is_listed w (filter p rows) ≡ true → is_listed w rows ≡ true
was_kept p w [] e = e
was_kept p w (row ∷ rows) e = by (p row) (was_kept p w rows) e
  where
    by : (b : Bool) → (is_listed w (filter p rows) ≡ true → is_listed w rows ≡ true) → is_listed w (cond b (row ∷ filter p rows) (filter p rows)) ≡ true → is_listed w (row ∷ rows) ≡ true
    by true rest e = or_right (row.window == w && row.listed) (is_listed w (filter p rows)) (is_listed w rows) e rest
    by false rest e = or_more (row.window == w && row.listed) (is_listed w rows) (rest e)

pub was_marked : (v w : ℕ) (rows : List Followed) → is_listed w (marked v rows) ≡ true → (is_listed w rows ≡ true) ⊎ (v ≡ w)
was_marked v w [] e = inl e
was_marked v w (row ∷ rows) e = by (row.window == v) refl (was_marked v w rows) e
  where
    first : (b : Bool) → (row.window == w) ≡ b → row.window ≡ v → ((b && true) || is_listed w rows) ≡ true → (((b && row.listed) || is_listed w rows) ≡ true) ⊎ (v ≡ w)
    first true same is e = inr (sym is ∙ eqb-true row.window w same)
    first false other is e = inl e

    later : (x : Bool) → (is_listed w (marked v rows) ≡ true → (is_listed w rows ≡ true) ⊎ (v ≡ w)) → (x || is_listed w (marked v rows)) ≡ true → ((x || is_listed w rows) ≡ true) ⊎ (v ≡ w)
    later true rest e = inl refl
    later false rest e = rest e

    by : (b : Bool) → (row.window == v) ≡ b → (is_listed w (marked v rows) ≡ true → (is_listed w rows ≡ true) ⊎ (v ≡ w)) → is_listed w (cond b (record row { listed = true } ∷ rows) (row ∷ marked v rows)) ≡ true → (is_listed w (row ∷ rows) ≡ true) ⊎ (v ≡ w)
    by true is rest e = first (row.window == w) refl (eqb-true row.window v is) e
    by false is rest e = later (row.window == w && row.listed) rest e
