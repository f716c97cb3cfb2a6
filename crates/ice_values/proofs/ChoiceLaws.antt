-- A spelling whose enumerated bytes are free, and the choices of these bytes.
use Rattle.std.proofs.Common.{◌≡◌, ℕ, zero, suc, List, [], ◌∷◌, Option, Some, None, refl, slice_index, subst}
use Rattle.std.specs.Prelude.{slice_set, ◌↔◌}
use Rattle.ice_values.specs.Cells.{Cells, Begins}
use Rattle.ice_values.specs.Frames.{IsChoice}
use Rattle.ice_values.proofs.CellLaws.{marked, opened, cell_at, Begins-marked, Begins-opened, Begins-cell, Begins-set, Begins-chosen}

-- with any byte at each of these places
abbrev pub opened_all : List (ℕ × ℕ) → Cells → Cells
opened_all [] cells = cells
opened_all (place ∷ places) cells = opened_all places (opened place.0 cells)

-- with these bytes at them
abbrev pub marked_all : List ℕ → List (ℕ × ℕ) → Cells → Cells
marked_all numbers [] cells = cells
marked_all [] (place ∷ places) cells = cells
marked_all (n ∷ numbers) (place ∷ places) cells = marked_all numbers places (marked place.0 n cells)

-- any byte may stand at each of them
abbrev pub AllFree : List (ℕ × ℕ) → Cells → Type 0
AllFree [] cells = Unit {0}
AllFree (place ∷ places) cells = (cell_at place.0 cells ≡ Some None) × AllFree places cells

-- the same once those before it are marked
abbrev pub AreFree : List ℕ → List (ℕ × ℕ) → Cells → Type 0
AreFree numbers [] cells = Unit {0}
AreFree [] (place ∷ places) cells = ⊥
AreFree (n ∷ numbers) (place ∷ places) cells = (cell_at place.0 cells ≡ Some None) × AreFree numbers places (marked place.0 n cells)

-- these bytes must stand there
abbrev pub AreKnown : List ℕ → List (ℕ × ℕ) → Cells → Type 0
AreKnown numbers [] cells = Unit {0}
AreKnown [] (place ∷ places) cells = ⊥
AreKnown (n ∷ numbers) (place ∷ places) cells = (cell_at place.0 cells ≡ Some (Some n)) × AreKnown numbers places cells

-- these bytes do
abbrev pub Have : List ℕ → List (ℕ × ℕ) → List ℕ → Type 0
Have numbers [] bytes = Unit {0}
Have [] (place ∷ places) bytes = ⊥
Have (n ∷ numbers) (place ∷ places) bytes = (slice_index bytes place.0 ≡ n) × Have numbers places bytes

-- The form is the spelling with free bytes at the places where these numbers stand.
pub record Opens (numbers : List ℕ) (places : List (ℕ × ℕ)) (spelled formed : Cells) : Type 0 where
  pub opens : opened_all places spelled ≡ formed
  pub marks : marked_all numbers places formed ≡ spelled
  pub are_free : AreFree numbers places formed
  pub are_known : AreKnown numbers places spelled

-- nothing is enumerated
pub opens_none : (cells : Cells) → Opens [] [] cells cells
opens_none cells = record { opens = refl; marks = refl; are_free = tt; are_known = tt }

begins_opened : (places : List (ℕ × ℕ)) (cells : Cells) (bytes rest : List ℕ) → Begins cells bytes rest → Begins (opened_all places cells) bytes rest
begins_opened [] cells bytes rest h = h
begins_opened (place ∷ places) cells bytes rest h = begins_opened places (opened place.0 cells) bytes rest (Begins-opened place.0 cells bytes rest h)

begins_marked : (numbers : List ℕ) (places : List (ℕ × ℕ)) (cells : Cells) (bytes rest : List ℕ) → Have numbers places bytes → Begins cells bytes rest → Begins (marked_all numbers places cells) bytes rest
begins_marked numbers [] cells bytes rest have h = h
begins_marked [] (place ∷ places) cells bytes rest have h = absurd have
begins_marked (n ∷ numbers) (place ∷ places) cells bytes rest have h = begins_marked numbers places (marked place.0 n cells) bytes rest have.1 (Begins-marked place.0 n cells bytes rest have.0 h)

begins_known : (numbers : List ℕ) (places : List (ℕ × ℕ)) (cells : Cells) (bytes rest : List ℕ) → AreKnown numbers places cells → Begins cells bytes rest → Have numbers places bytes
begins_known numbers [] cells bytes rest are h = tt
begins_known [] (place ∷ places) cells bytes rest are h = absurd are
begins_known (n ∷ numbers) (place ∷ places) cells bytes rest are h = (Begins-cell place.0 n cells bytes rest are.0 h, begins_known numbers places cells bytes rest are.1 h)

begins_set : (places : List (ℕ × ℕ)) (cells : Cells) (bytes chosen rest : List ℕ) → AllFree places cells → IsChoice places bytes chosen → Begins cells chosen rest → Begins cells bytes rest
begins_set [] cells bytes chosen rest are c h = subst (λ (b : List ℕ). Begins cells b rest) c h
begins_set (place ∷ places) cells bytes chosen rest are c h = Begins-set place.0 c.0 cells bytes rest are.0 (begins_set places cells (slice_set bytes place.0 c.0) chosen rest are.1 c.1 h)

begins_chosen : (numbers : List ℕ) (places : List (ℕ × ℕ)) (cells : Cells) (bytes rest : List ℕ) → AreFree numbers places cells → Begins cells bytes rest → (chosen : List ℕ) × IsChoice places bytes chosen × Begins (marked_all numbers places cells) chosen rest
begins_chosen numbers [] cells bytes rest are h = (bytes, refl, h)
begins_chosen [] (place ∷ places) cells bytes rest are h = absurd are
begins_chosen (n ∷ numbers) (place ∷ places) cells bytes rest are h =
    let next = begins_chosen numbers places (marked place.0 n cells) (slice_set bytes place.0 n) rest are.1 (Begins-chosen place.0 n cells bytes rest are.0 h) in
    (next.0, (n, next.1), next.2)

known_not_free : (n : ℕ) → ◌≡◌ {A = Option (Option ℕ)} (Some (Some n)) (Some None) → ⊥
known_not_free n e = absurd cc

-- what is free beside a mark is free without it
free_before : (at other n : ℕ) (cells : Cells) → cell_at at (marked other n cells) ≡ Some None → cell_at at cells ≡ Some None
free_before at other n [] e = e
free_before zero zero n (cell ∷ cells) e = absurd (known_not_free n e)
free_before zero (suc other) n (cell ∷ cells) e = e
free_before (suc at) zero n (cell ∷ cells) e = e
free_before (suc at) (suc other) n (cell ∷ cells) e = free_before at other n cells e

all_before : (other n : ℕ) (places : List (ℕ × ℕ)) (cells : Cells) → AllFree places (marked other n cells) → AllFree places cells
all_before other n [] cells are = tt
all_before other n (place ∷ places) cells are = (free_before place.0 other n cells are.0, all_before other n places cells are.1)

all_free : (numbers : List ℕ) (places : List (ℕ × ℕ)) (cells : Cells) → AreFree numbers places cells → AllFree places cells
all_free numbers [] cells are = tt
all_free [] (place ∷ places) cells are = absurd are
all_free (n ∷ numbers) (place ∷ places) cells are = (are.0, all_before place.0 n places cells (all_free numbers places (marked place.0 n cells) are.1))

module _ (numbers : List ℕ) (places : List (ℕ × ℕ)) (spelled formed : Cells) (law : Opens numbers places spelled formed) where
  -- a spelling has the form
  pub form_of : (bytes rest : List ℕ) → Begins spelled bytes rest → Begins formed bytes rest
  form_of bytes rest h = subst (λ (cells : Cells). Begins cells bytes rest) law.opens (begins_opened places spelled bytes rest h)

  -- and it has its numbers
  pub have_of : (bytes rest : List ℕ) → Begins spelled bytes rest → Have numbers places bytes
  have_of bytes rest h = begins_known numbers places spelled bytes rest law.are_known h

  -- what has the form and the numbers is a spelling
  pub spelled_of : (bytes rest : List ℕ) → Have numbers places bytes → Begins formed bytes rest → Begins spelled bytes rest
  spelled_of bytes rest have h = subst (λ (cells : Cells). Begins cells bytes rest) law.marks (begins_marked numbers places formed bytes rest have h)

  -- the form doesn't see an enumerated byte
  form_of_chosen : (bytes chosen rest : List ℕ) → IsChoice places bytes chosen → Begins formed chosen rest → Begins formed bytes rest
  form_of_chosen bytes chosen rest c h = begins_set places formed bytes chosen rest (all_free numbers places formed law.are_free) c h

  -- what has the form is spelled by some choice
  choice_of_form : (bytes rest : List ℕ) → Begins formed bytes rest → (chosen : List ℕ) × IsChoice places bytes chosen × Begins spelled chosen rest
  choice_of_form bytes rest h =
      let c = begins_chosen numbers places formed bytes rest law.are_free h in
      (c.0, c.1, subst (λ (cells : Cells). Begins cells c.0 rest) law.marks c.2)

  -- What has the form is what some choice spells. Fits is what else is asked of the message.
  pub form_is_choice : (Fits : Type 0) (bytes rest : List ℕ) → (Fits × Begins formed bytes rest) ↔ ((chosen : List ℕ) × IsChoice places bytes chosen × (Fits × Begins spelled chosen rest))
  form_is_choice Fits bytes rest = (
    λ h. let c = choice_of_form bytes rest h.1 in (c.0, c.1, (h.0, c.2)),
    λ c. (c.2.0, form_of_chosen bytes c.0 rest c.1 (form_of c.0 rest c.2.1)),
  )
