-- Entries and their bytes determine each other.
use Rattle.std.proofs.Common.{◌≡◌, ℕ, ◌-◌, ◌<◌, List, [], ◌∷◌, ◌++◌, length, Some, None, Result, Ok, Err, refl, sym, ap, ap₂, ◌∙◌, subst, arith, append_assoc, length-append}
use Rattle.std.proofs.lemmas.List.{append-nil}
use Rattle.ice_values.specs.Cells.{known, Begins}
use Rattle.ice_values.specs.Numbers.{number_bytes, card16}
use Rattle.ice_values.specs.Reading.{◌>>=◌, Exact, IsBytes, card_at, bytes_at}
use Rattle.ice_values.specs.declared.numbers.Endian.TheVariants.{Msb}
use Rattle.ice_values.proofs.CellLaws.{Begins-known, from_known, Begins-fits}
use Rattle.ice_values.proofs.FieldLaws.{bind_some, bytes_taken, bytes_again, card2}
use Rattle.ice_values.proofs.NumberLaws.{length-number_bytes}
use Rattle.ice_values.proofs.OptionLaws.{some_is, none_not_some}
use Rattle.ice_cookie.specs.Spelling.{field_bytes, IsField, entry_bytes, HasSpelling, list_bytes, HaveSpelling}
use Rattle.ice_cookie.specs.Reading.{field_at, entry_at}
use Rattle.ice_cookie.specs.Meaning.{Spells, HasNoFront, IsShort, StandFor}
use Rattle.ice_cookie.specs.declared.authority.AuthorityEntry.{AuthorityEntry}

-- ---- one field, and one entry

field_exact : Exact (λ x. known (field_bytes x)) IsField field_at
unfolding field_at
field_exact = record {
  takes = λ bytes x rest fits read.
      let p = bind_some (card_at Msb 2 bytes) (λ n. bytes_at n.0 n.1) (x, rest) read in
      let count = (card2 Msb).takes bytes p.0.0 p.0.1 fits p.1 in
      let text = bytes_taken p.0.0 p.0.1 x rest p.2 in
      let front = subst (λ (n : ℕ). Begins (card16 Msb n) bytes p.0.1) (sym text.1) count.0 in
      let is = from_known (number_bytes Msb 2 (length x)) bytes p.0.1 front ∙ ap (λ (l : List ℕ). number_bytes Msb 2 (length x) ++ l) (from_known x p.0.1 rest text.0) in
      (Begins-known (field_bytes x) bytes rest (is ∙ sym (append_assoc (number_bytes Msb 2 (length x)) x rest)), omega (arith, text.1, count.1));
  again = λ bytes x rest le h.
      let is = from_known (field_bytes x) bytes rest h ∙ append_assoc (number_bytes Msb 2 (length x)) x rest in
      rw ((card2 Msb).again bytes (length x) (x ++ rest) (omega (arith, le)) (Begins-known (number_bytes Msb 2 (length x)) bytes (x ++ rest) is)) (bytes_again (x ++ rest) x rest (Begins-known x (x ++ rest) rest refl));
}

-- the field that is read is spelled at the front
field_taken : (bytes field rest : List ℕ) → IsBytes bytes → field_at bytes ≡ Some (field, rest) → (bytes ≡ field_bytes field ++ rest) × IsField field × IsBytes rest
field_taken bytes field rest fits read =
    let h = field_exact.takes bytes field rest fits read in
    (from_known (field_bytes field) bytes rest h.0, h.1, Begins-fits (known (field_bytes field)) bytes rest h.0 fits)

field_again : (field rest : List ℕ) → IsField field → field_at (field_bytes field ++ rest) ≡ Some (field, rest)
field_again field rest fits = field_exact.again (field_bytes field ++ rest) field rest fits (Begins-known (field_bytes field) (field_bytes field ++ rest) rest refl)

five : (a b c d e rest : List ℕ) → a ++ b ++ c ++ d ++ e ++ rest ≡ a ++ (b ++ (c ++ (d ++ (e ++ rest))))
five a b c d e rest = simp append_assoc

five_parts : (a b c d e rest r0 r1 r2 r3 r4 : List ℕ) → r0 ≡ a ++ r1 → r1 ≡ b ++ r2 → r2 ≡ c ++ r3 → r3 ≡ d ++ r4 → r4 ≡ e ++ rest → r0 ≡ a ++ b ++ c ++ d ++ e ++ rest
five_parts a b c d e rest r0 r1 r2 r3 r4 p q r s t =
    p ∙ ap (λ (l : List ℕ). a ++ l) (q ∙ ap (λ (l : List ℕ). b ++ l) (r ∙ ap (λ (l : List ℕ). c ++ l) (s ∙ ap (λ (l : List ℕ). d ++ l) t))) ∙ sym (five a b c d e rest)

entry_of : List ℕ → List ℕ → List ℕ → List ℕ → List ℕ → AuthorityEntry
entry_of protocol details network name proof = record { protocol = protocol; details = details; network = network; name = name; proof = proof }

-- the entry that is read is spelled at the front
pub entry_taken : (bytes : List ℕ) (entry : AuthorityEntry) (rest : List ℕ) → IsBytes bytes → entry_at bytes ≡ Some (entry, rest) → HasSpelling entry × (bytes ≡ entry_bytes entry ++ rest)
unfolding entry_at entry_of
entry_taken bytes entry rest fits read =
    let p = bind_some (field_at bytes) (λ a. field_at a.1 >>= λ b. field_at b.1 >>= λ c. field_at c.1 >>= λ d. field_at d.1 >>= λ e. Some (entry_of a.0 b.0 c.0 d.0 e.0, e.1)) (entry, rest) read in
    let q = bind_some (field_at p.0.1) (λ b. field_at b.1 >>= λ c. field_at c.1 >>= λ d. field_at d.1 >>= λ e. Some (entry_of p.0.0 b.0 c.0 d.0 e.0, e.1)) (entry, rest) p.2 in
    let r = bind_some (field_at q.0.1) (λ c. field_at c.1 >>= λ d. field_at d.1 >>= λ e. Some (entry_of p.0.0 q.0.0 c.0 d.0 e.0, e.1)) (entry, rest) q.2 in
    let s = bind_some (field_at r.0.1) (λ d. field_at d.1 >>= λ e. Some (entry_of p.0.0 q.0.0 r.0.0 d.0 e.0, e.1)) (entry, rest) r.2 in
    let t = bind_some (field_at s.0.1) (λ e. Some (entry_of p.0.0 q.0.0 r.0.0 s.0.0 e.0, e.1)) (entry, rest) s.2 in
    let a = field_taken bytes p.0.0 p.0.1 fits p.1 in
    let b = field_taken p.0.1 q.0.0 q.0.1 a.2 q.1 in
    let c = field_taken q.0.1 r.0.0 r.0.1 b.2 r.1 in
    let d = field_taken r.0.1 s.0.0 s.0.1 c.2 s.1 in
    let e = field_taken s.0.1 t.0.0 t.0.1 d.2 t.1 in
    let whole = five_parts (field_bytes p.0.0) (field_bytes q.0.0) (field_bytes r.0.0) (field_bytes s.0.0) (field_bytes t.0.0) t.0.1 bytes p.0.1 q.0.1 r.0.1 s.0.1 a.0 b.0 c.0 d.0 e.0 in
    subst (λ (y : AuthorityEntry × List ℕ). HasSpelling y.0 × (bytes ≡ entry_bytes y.0 ++ y.1)) {x = (entry_of p.0.0 q.0.0 r.0.0 s.0.0 t.0.0, t.0.1)} (some_is (entry_of p.0.0 q.0.0 r.0.0 s.0.0 t.0.0, t.0.1) (entry, rest) t.2)
    (record { protocol = a.1; details = b.1; network = c.1; name = d.1; proof = e.1 }, whole)

-- an entry that is spelled at the front is read
pub entry_again : (entry : AuthorityEntry) (rest : List ℕ) → HasSpelling entry → entry_at (entry_bytes entry ++ rest) ≡ Some (entry, rest)
unfolding entry_at
entry_again entry rest fits =
    let e : List ℕ = field_bytes entry.proof ++ rest in
    let d : List ℕ = field_bytes entry.name ++ e in
    let c : List ℕ = field_bytes entry.network ++ d in
    let b : List ℕ = field_bytes entry.details ++ c in
    rw (
      five (field_bytes entry.protocol) (field_bytes entry.details) (field_bytes entry.network) (field_bytes entry.name) (field_bytes entry.proof) rest,
      field_again entry.protocol b fits.protocol,
      field_again entry.details c fits.details,
      field_again entry.network d fits.network,
      field_again entry.name e fits.name,
      field_again entry.proof rest fits.proof,
    ) refl

-- bytes in which no entry is read begin with none
pub none_read : (bytes : List ℕ) → entry_at bytes ≡ None → HasNoFront bytes
none_read bytes e = λ entry after fits is. none_not_some (entry, after) (sym e ∙ ap entry_at is ∙ entry_again entry after fits)

-- ---- lists of entries

entry_once : (x y : AuthorityEntry) (xs ys : List ℕ) → HasSpelling x → HasSpelling y → entry_bytes x ++ xs ≡ entry_bytes y ++ ys → (x ≡ y) × (xs ≡ ys)
entry_once x y xs ys fit_x fit_y is =
    let e : ◌≡◌ {A = AuthorityEntry × List ℕ} (x, xs) (y, ys) = some_is (x, xs) (y, ys) (sym (entry_again x xs fit_x) ∙ ap entry_at is ∙ entry_again y ys fit_y) in
    (ap (λ (p : AuthorityEntry × List ℕ). p.0) e, ap (λ (p : AuthorityEntry × List ℕ). p.1) e)

cons-bytes : (x : AuthorityEntry) (xs : List AuthorityEntry) (r : List ℕ) → list_bytes (x ∷ xs) ++ r ≡ entry_bytes x ++ (list_bytes xs ++ r)
cons-bytes x xs r = append_assoc (entry_bytes x) (list_bytes xs) r

-- what stands before bytes that begin with no entry is the same
same_front : (xs ys : List AuthorityEntry) (r s : List ℕ) → HaveSpelling xs → HaveSpelling ys → HasNoFront r → HasNoFront s → list_bytes xs ++ r ≡ list_bytes ys ++ s → (xs ≡ ys) × (r ≡ s)
same_front [] [] r s fit_xs fit_ys no_r no_s is = (refl, is)
same_front [] (y ∷ ys) r s fit_xs fit_ys no_r no_s is = absurd (no_r y (list_bytes ys ++ s) fit_ys.0 (is ∙ cons-bytes y ys s))
same_front (x ∷ xs) [] r s fit_xs fit_ys no_r no_s is = absurd (no_s x (list_bytes xs ++ r) fit_xs.0 (sym is ∙ cons-bytes x xs r))
same_front (x ∷ xs) (y ∷ ys) r s fit_xs fit_ys no_r no_s is =
    let h = entry_once x y (list_bytes xs ++ r) (list_bytes ys ++ s) fit_xs.0 fit_ys.0 (sym (cons-bytes x xs r) ∙ is ∙ cons-bytes y ys s) in
    let k = same_front xs ys r s fit_xs.1 fit_ys.1 no_r no_s h.1 in
    (ap₂ (λ (z : AuthorityEntry) (l : List AuthorityEntry). z ∷ l) h.0 k.0, k.1)

length-entry : (entry : AuthorityEntry) (rest : List ℕ) → length rest < length (entry_bytes entry ++ rest)
length-entry entry rest =
    let a = ap length (five (field_bytes entry.protocol) (field_bytes entry.details) (field_bytes entry.network) (field_bytes entry.name) (field_bytes entry.proof) rest) in
    let b = length-append (field_bytes entry.protocol) (field_bytes entry.details ++ (field_bytes entry.network ++ (field_bytes entry.name ++ (field_bytes entry.proof ++ rest)))) in
    let c = length-append (number_bytes Msb 2 (length entry.protocol)) entry.protocol in
    let d = length-append (field_bytes entry.details) (field_bytes entry.network ++ (field_bytes entry.name ++ (field_bytes entry.proof ++ rest))) in
    let e = length-append (field_bytes entry.network) (field_bytes entry.name ++ (field_bytes entry.proof ++ rest)) in
    let f = length-append (field_bytes entry.name) (field_bytes entry.proof ++ rest) in
    let g = length-append (field_bytes entry.proof) rest in
    omega (arith, a, b, c, d, e, f, g, length-number_bytes Msb 2 (length entry.protocol))

nothing_left : HasNoFront []
nothing_left = λ entry after fits is. omega (arith, ap length is, length-entry entry after)

-- bytes stand for one answer at most
pub stands_for_one : (bytes : List ℕ) (first second : Result (List AuthorityEntry) ℕ) → StandFor bytes first → StandFor bytes second → first ≡ second
stands_for_one bytes (Ok xs) (Ok ys) a b =
    ap (λ (l : List AuthorityEntry). Ok l) (same_front xs ys [] [] a.fit b.fit nothing_left nothing_left (append-nil (list_bytes xs) ∙ sym a.is ∙ b.is ∙ sym (append-nil (list_bytes ys)))).0
stands_for_one bytes (Ok xs) (Err at) a b = absurd (b.left (sym (same_front xs b.entries [] b.rest a.fit b.fit nothing_left b.no_front (append-nil (list_bytes xs) ∙ sym a.is ∙ b.is)).1))
stands_for_one bytes (Err at) (Ok ys) a b = absurd (a.left (sym (same_front ys a.entries [] a.rest b.fit a.fit nothing_left a.no_front (append-nil (list_bytes ys) ∙ sym b.is ∙ a.is)).1))
stands_for_one bytes (Err at) (Err later) a b =
    let same = same_front a.entries b.entries a.rest b.rest a.fit b.fit a.no_front b.no_front (sym a.is ∙ b.is) in
    ap (λ (n : ℕ). Err n) (a.place ∙ ap (λ (l : List AuthorityEntry). length (list_bytes l)) same.0 ∙ sym b.place)

-- whole entries, and bytes behind them that begin with none
pub is_short : (bytes : List ℕ) (entries : List AuthorityEntry) (rest : List ℕ) → HaveSpelling entries → bytes ≡ list_bytes entries ++ rest → 0 < length rest → HasNoFront rest → IsShort bytes (length bytes - length rest)
is_short bytes entries rest fit is some no_front = record {
  entries = entries;
  rest = rest;
  fit = fit;
  is = is;
  place = omega (arith, ap length is, length-append (list_bytes entries) rest);
  left = λ none. omega (arith, some, ap length none);
  no_front = no_front;
}

-- whole entries, and nothing behind them
pub is_whole : (bytes : List ℕ) (entries : List AuthorityEntry) (rest : List ℕ) → HaveSpelling entries → bytes ≡ list_bytes entries ++ rest → length rest ≡ 0 → Spells bytes entries
is_whole bytes entries [] fit is none = record { fit = fit; is = is ∙ append-nil (list_bytes entries) }
is_whole bytes entries (b ∷ rest) fit is none = absurd (omega (arith, none))
