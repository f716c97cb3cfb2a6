-- The entries that are read one after another.
use Rattle.std.proofs.Common.{◌≡◌, ℕ, ◌<◌, ◌≤◌, false, nat_lt, List, [], ◌∷◌, ◌++◌, length, take, drop, Some, None, refl, sym, ◌∙◌, ap, ap₂, subst, arith, append_assoc}
use Rattle.std.proofs.lemmas.Bool.Decides.{nat_tests}
use Rattle.std.proofs.lemmas.List.{append-nil, length-drop}
use Rattle.ice_values.specs.Reading.{◌>>=◌, card_at, bytes_at}
use Rattle.ice_values.specs.Numbers.{number}
use Rattle.ice_values.specs.declared.numbers.Endian.TheVariants.{Msb}
use Rattle.ice_values.proofs.FieldLaws.{bind_some, guard_some}
use Rattle.ice_cookie.specs.Reading.{field_at}
use Rattle.ice_values.proofs.OptionLaws.{some_is, none_not_some}
use Rattle.display_place.specs.Entries.{entry_at, family_of, Hold}
use Rattle.display_place.specs.Laws.{HoldOne}
use Rattle.display_place.specs.declared.authority.DisplayEntry.{DisplayEntry}

pub hold_one : HoldOne
hold_one bytes [] [] one other = refl
hold_one bytes [] (y ∷ ys) one (rest, is, more) = absurd (none_not_some (y, rest) (sym one ∙ is))
hold_one bytes (x ∷ xs) [] (rest, is, more) other = absurd (none_not_some (x, rest) (sym other ∙ is))
hold_one bytes (x ∷ xs) (y ∷ ys) (rest, is, more) (rest', is', more') =
    let e : ◌≡◌ {A = DisplayEntry × List ℕ} (x, rest) (y, rest') = some_is (x, rest) (y, rest') (sym is ∙ is') in
    let others = hold_one rest xs ys more (subst (λ (b : List ℕ). Hold b ys) (sym (ap (λ (p : DisplayEntry × List ℕ). p.1) e)) more') in
    ap₂ (λ (z : DisplayEntry) (zs : List DisplayEntry). z ∷ zs) (ap (λ (p : DisplayEntry × List ℕ). p.0) e) others

-- What the rest holds, the bytes hold behind these entries.
abbrev pub Goes : List ℕ → List DisplayEntry → List ℕ → Type 0
Goes bytes entries rest = (more : List DisplayEntry) → Hold rest more → Hold bytes (entries ++ more)

pub goes_on : (bytes : List ℕ) (entries : List DisplayEntry) (rest after : List ℕ) (entry : DisplayEntry) → Goes bytes entries rest → entry_at rest ≡ Some (entry, after) → Goes bytes (entries ++ entry ∷ []) after
goes_on bytes entries rest after entry goes is more holds = subst (Hold bytes) (sym (append_assoc entries (entry ∷ []) more)) (goes (entry ∷ more) (after, is, holds))

pub ends : (bytes : List ℕ) (entries : List DisplayEntry) (rest : List ℕ) → Goes bytes entries rest → entry_at rest ≡ None → Hold bytes entries
ends bytes entries rest goes none = subst (Hold bytes) (append-nil entries) (goes [] none)

-- ---- an entry takes bytes away

enough : (n m : ℕ) → nat_lt n m ≡ false → m ≤ n
enough n m e = grind (arith, nat_tests, e)

-- what follows a number of two bytes, and this many bytes
card_shorter : (bytes : List ℕ) (n : ℕ) (rest : List ℕ) → card_at Msb 2 bytes ≡ Some (n, rest) → length rest < length bytes
card_shorter bytes n rest e =
    let taken = guard_some {A = ℕ × List ℕ} (nat_lt (length bytes) 2) (number Msb 2 bytes, drop 2 bytes) (n, rest) e in
    omega (arith, enough (length bytes) 2 taken.0, ap (λ (p : ℕ × List ℕ). length p.1) taken.1, length-drop 2 bytes)

bytes_shorter : (count : ℕ) (bytes field rest : List ℕ) → bytes_at count bytes ≡ Some (field, rest) → length rest ≤ length bytes
bytes_shorter count bytes field rest e =
    let taken = guard_some {A = List ℕ × List ℕ} (nat_lt (length bytes) count) (take count bytes, drop count bytes) (field, rest) e in
    omega (arith, ap (λ (p : List ℕ × List ℕ). length p.1) taken.1, length-drop count bytes)

field_shorter : (bytes field rest : List ℕ) → field_at bytes ≡ Some (field, rest) → length rest ≤ length bytes
unfolding field_at
field_shorter bytes field rest read =
    let p = bind_some (card_at Msb 2 bytes) (λ n. bytes_at n.0 n.1) (field, rest) read in
    let count = card_shorter bytes p.0.0 p.0.1 p.1 in
    let text = bytes_shorter p.0.0 p.0.1 field rest p.2 in
    omega (arith, count, text)

made : ℕ → List ℕ → List ℕ → List ℕ → List ℕ → DisplayEntry
made family address number name proof = record { family = family_of family; address = address; number = number; name = name; proof = proof }

pub entry_shorter : (bytes : List ℕ) (entry : DisplayEntry) (rest : List ℕ) → entry_at bytes ≡ Some (entry, rest) → length rest < length bytes
unfolding entry_at made
entry_shorter bytes entry rest read =
    let p = bind_some (card_at Msb 2 bytes) (λ a. field_at a.1 >>= λ b. field_at b.1 >>= λ c. field_at c.1 >>= λ d. field_at d.1 >>= λ e. Some (made a.0 b.0 c.0 d.0 e.0, e.1)) (entry, rest) read in
    let q = bind_some (field_at p.0.1) (λ b. field_at b.1 >>= λ c. field_at c.1 >>= λ d. field_at d.1 >>= λ e. Some (made p.0.0 b.0 c.0 d.0 e.0, e.1)) (entry, rest) p.2 in
    let r = bind_some (field_at q.0.1) (λ c. field_at c.1 >>= λ d. field_at d.1 >>= λ e. Some (made p.0.0 q.0.0 c.0 d.0 e.0, e.1)) (entry, rest) q.2 in
    let s = bind_some (field_at r.0.1) (λ d. field_at d.1 >>= λ e. Some (made p.0.0 q.0.0 r.0.0 d.0 e.0, e.1)) (entry, rest) r.2 in
    let t = bind_some (field_at s.0.1) (λ e. Some (made p.0.0 q.0.0 r.0.0 s.0.0 e.0, e.1)) (entry, rest) s.2 in
    let a = card_shorter bytes p.0.0 p.0.1 p.1 in
    let b = field_shorter p.0.1 q.0.0 q.0.1 q.1 in
    let c = field_shorter q.0.1 r.0.0 r.0.1 r.1 in
    let d = field_shorter r.0.1 s.0.0 s.0.1 s.1 in
    let e = field_shorter s.0.1 t.0.0 t.0.1 t.1 in
    let same = some_is (made p.0.0 q.0.0 r.0.0 s.0.0 t.0.0, t.0.1) (entry, rest) t.2 in
    omega (arith, a, b, c, d, e, ap (λ (y : DisplayEntry × List ℕ). length y.1) same)
