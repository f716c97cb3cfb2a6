-- Spellings: where they begin, end, and have known or free bytes.
use Rattle.std.proofs.Common.{◌≡◌, ℕ, zero, suc, ◌+◌, ◌≤◌, List, [], ◌∷◌, ◌++◌, length, drop, Option, Some, None, refl, sym, ap, ◌∙◌, subst, arith, slice_index}
use Rattle.std.proofs.Common.{Fits, w8}
use Rattle.std.specs.Prelude.{slice_set}
use Rattle.ice_values.specs.Cells.{Cells, known, free, zeros, Begins}
use Rattle.ice_values.proofs.OptionLaws.{none_not_some}
pub use Rattle.ice_values.specs.Reading.{IsBytes}

-- a slice's bytes are bytes
pub slice_bytes : (bytes : List ℕ) → ((i : ℕ) → Fits w8 (slice_index bytes i)) → IsBytes bytes
slice_bytes bytes fits = λ i. omega (arith, fits i)

pub Begins-append : (cells others : Cells) (bytes mid rest : List ℕ) → Begins cells bytes mid → Begins others mid rest → Begins (cells ++ others) bytes rest
Begins-append [] others bytes mid rest p q = subst (λ (b : List ℕ). Begins others b rest) (sym p) q
Begins-append (None ∷ cells) others [] mid rest p q = absurd p
Begins-append (Some c ∷ cells) others [] mid rest p q = absurd p
Begins-append (None ∷ cells) others (b ∷ bytes) mid rest p q = Begins-append cells others bytes mid rest p q
Begins-append (Some c ∷ cells) others (b ∷ bytes) mid rest p q = (p.0, Begins-append cells others bytes mid rest p.1 q)

pub Begins-split : (cells others : Cells) (bytes rest : List ℕ) → Begins (cells ++ others) bytes rest → (mid : List ℕ) × Begins cells bytes mid × Begins others mid rest
Begins-split [] others bytes rest p = (bytes, refl, p)
Begins-split (None ∷ cells) others [] rest p = absurd p
Begins-split (Some c ∷ cells) others [] rest p = absurd p
Begins-split (None ∷ cells) others (b ∷ bytes) rest p = Begins-split cells others bytes rest p
Begins-split (Some c ∷ cells) others (b ∷ bytes) rest p = let h = Begins-split cells others bytes rest p.1 in (h.0, (p.0, h.1), h.2)

pub Begins-known : (text bytes rest : List ℕ) → bytes ≡ text ++ rest → Begins (known text) bytes rest
Begins-known [] bytes rest e = e
Begins-known (c ∷ text) bytes rest e = subst (λ (b : List ℕ). Begins (known (c ∷ text)) b rest) (sym e) (refl, Begins-known text (text ++ rest) rest refl)

pub from_known : (text bytes rest : List ℕ) → Begins (known text) bytes rest → bytes ≡ text ++ rest
from_known [] bytes rest h = h
from_known (c ∷ text) [] rest h = absurd h
from_known (c ∷ text) (b ∷ bytes) rest h = let e = from_known text bytes rest h.1 in rw (h.0, e) refl

pub Begins-free : (n : ℕ) (bytes : List ℕ) → n ≤ length bytes → Begins (free n) bytes (drop n bytes)
Begins-free zero bytes le = refl
Begins-free (suc n) [] le = absurd (omega arith)
Begins-free (suc n) (b ∷ bytes) le = Begins-free n bytes (omega arith)

pub from_free : (n : ℕ) (bytes rest : List ℕ) → Begins (free n) bytes rest → (n ≤ length bytes) × (drop n bytes ≡ rest)
from_free zero bytes rest h = (omega arith, h)
from_free (suc n) [] rest h = absurd h
from_free (suc n) (b ∷ bytes) rest h = let e = from_free n bytes rest h in (omega (arith, e.0), e.1)

pub Begins-zeros : (cells : Cells) (rest : List ℕ) → Begins cells (zeros cells ++ rest) rest
Begins-zeros [] rest = refl
Begins-zeros (None ∷ cells) rest = Begins-zeros cells rest
Begins-zeros (Some c ∷ cells) rest = (refl, Begins-zeros cells rest)

pub Begins-length : (cells : Cells) (bytes rest : List ℕ) → Begins cells bytes rest → length bytes ≡ length cells + length rest
Begins-length [] bytes rest h = let e = ap length h in omega (arith, e)
Begins-length (None ∷ cells) [] rest h = absurd h
Begins-length (Some c ∷ cells) [] rest h = absurd h
Begins-length (None ∷ cells) (b ∷ bytes) rest h = let e = Begins-length cells bytes rest h in omega (arith, e)
Begins-length (Some c ∷ cells) (b ∷ bytes) rest h = let e = Begins-length cells bytes rest h.1 in omega (arith, e)

pub Begins-drop : (cells : Cells) (bytes rest : List ℕ) → Begins cells bytes rest → drop (length cells) bytes ≡ rest
Begins-drop [] bytes rest h = h
Begins-drop (None ∷ cells) [] rest h = absurd h
Begins-drop (Some c ∷ cells) [] rest h = absurd h
Begins-drop (None ∷ cells) (b ∷ bytes) rest h = Begins-drop cells bytes rest h
Begins-drop (Some c ∷ cells) (b ∷ bytes) rest h = Begins-drop cells bytes rest h.1

pub IsBytes-tail : (b : ℕ) (bytes : List ℕ) → IsBytes (b ∷ bytes) → IsBytes bytes
IsBytes-tail b bytes h = λ i. h (suc i)

pub IsBytes-drop : (n : ℕ) (bytes : List ℕ) → IsBytes bytes → IsBytes (drop n bytes)
IsBytes-drop zero bytes h = h
IsBytes-drop (suc n) [] h = h
IsBytes-drop (suc n) (b ∷ bytes) h = IsBytes-drop n bytes (IsBytes-tail b bytes h)

pub Begins-fits : (cells : Cells) (bytes rest : List ℕ) → Begins cells bytes rest → IsBytes bytes → IsBytes rest
Begins-fits cells bytes rest h fits = subst IsBytes (Begins-drop cells bytes rest h) (IsBytes-drop (length cells) bytes fits)

-- a list of free bytes takes any rest of its length
pub all_free : (rest : List ℕ) → Begins (free (length rest)) rest []
all_free [] = refl
all_free (b ∷ rest) = all_free rest

pub zeros-append : (cells others : Cells) → zeros (cells ++ others) ≡ zeros cells ++ zeros others
zeros-append [] others = refl
zeros-append (None ∷ cells) others = ap (λ (l : List ℕ). 0 ∷ l) (zeros-append cells others)
zeros-append (Some c ∷ cells) others = ap (λ (l : List ℕ). c ∷ l) (zeros-append cells others)

pub zeros-known : (text : List ℕ) → zeros (known text) ≡ text
zeros-known [] = refl
zeros-known (c ∷ text) = ap (λ (l : List ℕ). c ∷ l) (zeros-known text)

pub length-known : (text : List ℕ) → length (known text) ≡ length text
length-known [] = refl
length-known (c ∷ text) = ap suc (length-known text)

pub length-free : (n : ℕ) → length (free n) ≡ n
length-free zero = refl
length-free (suc n) = ap suc (length-free n)

pub length-zeros : (cells : Cells) → length (zeros cells) ≡ length cells
length-zeros [] = refl
length-zeros (None ∷ cells) = ap suc (length-zeros cells)
length-zeros (Some c ∷ cells) = ap suc (length-zeros cells)

-- ---- one place in a spelling

-- the spelling with this byte at a place
abbrev pub marked : ℕ → ℕ → Cells → Cells
marked at b [] = []
marked zero b (cell ∷ cells) = Some b ∷ cells
marked (suc at) b (cell ∷ cells) = cell ∷ marked at b cells

-- the spelling with any byte at a place
abbrev pub opened : ℕ → Cells → Cells
opened at [] = []
opened zero (cell ∷ cells) = None ∷ cells
opened (suc at) (cell ∷ cells) = cell ∷ opened at cells

-- what stands at a place
abbrev pub cell_at : ℕ → Cells → Option (Option ℕ)
cell_at at [] = None
cell_at zero (cell ∷ cells) = Some cell
cell_at (suc at) (cell ∷ cells) = cell_at at cells

pub Begins-marked : (at b : ℕ) (cells : Cells) (bytes rest : List ℕ) → slice_index bytes at ≡ b → Begins cells bytes rest → Begins (marked at b cells) bytes rest
Begins-marked at b [] bytes rest e h = h
Begins-marked at b (None ∷ cells) [] rest e h = absurd h
Begins-marked at b (Some c ∷ cells) [] rest e h = absurd h
Begins-marked zero b (None ∷ cells) (x ∷ bytes) rest e h = (e, h)
Begins-marked zero b (Some c ∷ cells) (x ∷ bytes) rest e h = (e, h.1)
Begins-marked (suc at) b (None ∷ cells) (x ∷ bytes) rest e h = Begins-marked at b cells bytes rest e h
Begins-marked (suc at) b (Some c ∷ cells) (x ∷ bytes) rest e h = (h.0, Begins-marked at b cells bytes rest e h.1)

pub Begins-opened : (at : ℕ) (cells : Cells) (bytes rest : List ℕ) → Begins cells bytes rest → Begins (opened at cells) bytes rest
Begins-opened at [] bytes rest h = h
Begins-opened at (None ∷ cells) [] rest h = absurd h
Begins-opened at (Some c ∷ cells) [] rest h = absurd h
Begins-opened zero (None ∷ cells) (x ∷ bytes) rest h = h
Begins-opened zero (Some c ∷ cells) (x ∷ bytes) rest h = h.1
Begins-opened (suc at) (None ∷ cells) (x ∷ bytes) rest h = Begins-opened at cells bytes rest h
Begins-opened (suc at) (Some c ∷ cells) (x ∷ bytes) rest h = (h.0, Begins-opened at cells bytes rest h.1)

-- a byte that is known stands in the bytes
pub Begins-cell : (at b : ℕ) (cells : Cells) (bytes rest : List ℕ) → cell_at at cells ≡ Some (Some b) → Begins cells bytes rest → slice_index bytes at ≡ b
Begins-cell at b [] bytes rest e h = absurd (none_not_some (Some b) e)
Begins-cell at b (None ∷ cells) [] rest e h = absurd h
Begins-cell at b (Some c ∷ cells) [] rest e h = absurd h
Begins-cell zero b (None ∷ cells) (x ∷ bytes) rest e h = absurd cc
Begins-cell zero b (Some c ∷ cells) (x ∷ bytes) rest e h = let same : c ≡ b = cc in h.0 ∙ same
Begins-cell (suc at) b (None ∷ cells) (x ∷ bytes) rest e h = Begins-cell at b cells bytes rest e h
Begins-cell (suc at) b (Some c ∷ cells) (x ∷ bytes) rest e h = Begins-cell at b cells bytes rest e h.1

-- a byte that is free may be any other
pub Begins-set : (at b : ℕ) (cells : Cells) (bytes rest : List ℕ) → cell_at at cells ≡ Some None → Begins cells (slice_set bytes at b) rest → Begins cells bytes rest
Begins-set at b [] bytes rest e h = absurd (none_not_some None e)
Begins-set at b (None ∷ cells) [] rest e h = absurd h
Begins-set at b (Some c ∷ cells) [] rest e h = absurd h
Begins-set zero b (None ∷ cells) (x ∷ bytes) rest e h = h
Begins-set zero b (Some c ∷ cells) (x ∷ bytes) rest e h = absurd cc
Begins-set (suc at) b (None ∷ cells) (x ∷ bytes) rest e h = Begins-set at b cells bytes rest e h
Begins-set (suc at) b (Some c ∷ cells) (x ∷ bytes) rest e h = (h.0, Begins-set at b cells bytes rest e h.1)

-- a free byte may be chosen
pub Begins-chosen : (at b : ℕ) (cells : Cells) (bytes rest : List ℕ) → cell_at at cells ≡ Some None → Begins cells bytes rest → Begins (marked at b cells) (slice_set bytes at b) rest
Begins-chosen at b [] bytes rest e h = absurd (none_not_some None e)
Begins-chosen at b (None ∷ cells) [] rest e h = absurd h
Begins-chosen at b (Some c ∷ cells) [] rest e h = absurd h
Begins-chosen zero b (None ∷ cells) (x ∷ bytes) rest e h = (refl, h)
Begins-chosen zero b (Some c ∷ cells) (x ∷ bytes) rest e h = absurd cc
Begins-chosen (suc at) b (None ∷ cells) (x ∷ bytes) rest e h = Begins-chosen at b cells bytes rest e h
Begins-chosen (suc at) b (Some c ∷ cells) (x ∷ bytes) rest e h = (h.0, Begins-chosen at b cells bytes rest e h.1)
