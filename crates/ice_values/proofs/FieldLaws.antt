-- Readers of fields take exactly what is spelled.
use Rattle.std.proofs.Common.{◌≡◌, ℕ, ◌+◌, ◌^◌, ◌<◌, ◌≤◌, Bool, true, false, List, [], ◌++◌, length, take, drop, Option, Some, None, cond, refl, sym, ap, ◌∙◌, subst, arith, take-append-drop}
use Rattle.std.specs.Prelude.{nat_lt}
use Rattle.std.proofs.lemmas.Bool.{le-ltb, ltb-false}
use Rattle.std.proofs.lemmas.List.{take_at, drop_at, length-take-le}
use Rattle.std.proofs.Common.{length-append}
use Rattle.ice_values.specs.Cells.{Cells, known, free, Begins, pad_len}
use Rattle.ice_values.specs.Numbers.{number, number_bytes, card16, card32}
use Rattle.ice_values.specs.Fields.{text16, IsText16, version, IsVersion, proof_data, IsProofData}
use Rattle.ice_values.specs.Reading.{◌>>=◌, card_at, bytes_at, skip_at, text16_at, version_at, proof_data_at, nothing_at, pair_at, after_at}
use Rattle.ice_values.specs.declared.numbers.Endian.{Endian}
use Rattle.ice_values.specs.declared.version.Version.{Version}
use Rattle.ice_values.proofs.CellLaws.{IsBytes, Begins-append, Begins-split, Begins-known, from_known, Begins-free, from_free, Begins-fits}
pub use Rattle.ice_values.specs.Reading.{Exact}
use Rattle.ice_values.proofs.OptionLaws.{some_is}
use Rattle.ice_values.proofs.NumberLaws.{length-number_bytes, number-again, number-fits, back2, back4}

pub bind_some : {A B : Type 0} (r : Option A) (f : A → Option B) (y : B) → (r >>= f) ≡ Some y → (x : A) × (r ≡ Some x) × (f x ≡ Some y)
bind_some (Some x) f y e = (x, refl, e)
bind_some None f y e = absurd cc

-- a reader that looks whether there are enough bytes
pub guard_some : {A : Type 0} (b : Bool) (x y : A) → cond b None (Some x) ≡ Some y → (b ≡ false) × (x ≡ y)
guard_some true x y e = absurd cc
guard_some false x y e = (refl, some_is x y e)

enough : {A : Type 0} (n : ℕ) (bytes : List ℕ) (x y : A) → cond (nat_lt (length bytes) n) None (Some x) ≡ Some y → (n ≤ length bytes) × (x ≡ y)
enough n bytes x y e = let h = guard_some (nat_lt (length bytes) n) x y e in (ltb-false (length bytes) n h.0, h.1)

pub bytes_taken : (n : ℕ) (bytes text rest : List ℕ) → bytes_at n bytes ≡ Some (text, rest) → Begins (known text) bytes rest × (length text ≡ n)
bytes_taken n bytes text rest e =
    let h = enough n bytes (take n bytes, drop n bytes) (text, rest) e in
    subst (λ (y : List ℕ × List ℕ). Begins (known y.0) bytes y.1 × (length y.0 ≡ n)) h.1
    (Begins-known (take n bytes) bytes (drop n bytes) (sym (take-append-drop n bytes)), length-take-le n bytes h.0)

pub bytes_again : (bytes text rest : List ℕ) → Begins (known text) bytes rest → bytes_at (length text) bytes ≡ Some (text, rest)
bytes_again bytes text rest h =
    let e = from_known text bytes rest h in
    let len : length text ≤ length bytes = omega (arith, ap length e, length-append text rest) in
    let front : take (length text) bytes ≡ text = ap (take (length text)) e ∙ take_at text rest (length text) refl in
    let back : drop (length text) bytes ≡ rest = ap (drop (length text)) e ∙ drop_at text rest (length text) refl in
    rw (le-ltb (length bytes) (length text) len, front, back) refl

pub skip_taken : (n : ℕ) (bytes rest : List ℕ) → skip_at n bytes ≡ Some rest → Begins (free n) bytes rest
skip_taken n bytes rest e =
    let h = enough n bytes (drop n bytes) rest e in
    subst (λ (r : List ℕ). Begins (free n) bytes r) h.1 (Begins-free n bytes h.0)

pub skip_again : (n : ℕ) (bytes rest : List ℕ) → Begins (free n) bytes rest → skip_at n bytes ≡ Some rest
skip_again n bytes rest h =
    let e = from_free n bytes rest h in
    rw (le-ltb (length bytes) n e.0, e.1) refl

-- a number of n bytes, if its bytes are these bytes
card : (e : Endian) (n : ℕ) → ((bytes : List ℕ) → n ≤ length bytes → IsBytes bytes → number_bytes e n (number e n bytes) ≡ take n bytes)
    → Exact (λ x. known (number_bytes e n x)) (λ x. x < 256 ^ n) (card_at e n)
card e n back = record {
  takes = λ bytes x rest fits read.
      let h = enough n bytes (number e n bytes, drop n bytes) (x, rest) read in
      let front : Begins (known (number_bytes e n (number e n bytes))) bytes (drop n bytes) =
      Begins-known (number_bytes e n (number e n bytes)) bytes (drop n bytes) (sym (take-append-drop n bytes) ∙ ap (λ (l : List ℕ). l ++ drop n bytes) (sym (back bytes h.0 fits))) in
      subst (λ (y : ℕ × List ℕ). Begins (known (number_bytes e n y.0)) bytes y.1 × (y.0 < 256 ^ n)) h.1 (front, number-fits e n bytes fits);
  again = λ bytes x rest lt h.
      let is = from_known (number_bytes e n x) bytes rest h in
      let len : n ≤ length bytes = omega (arith, ap length is, length-append (number_bytes e n x) rest, length-number_bytes e n x) in
      let value : number e n bytes ≡ x = ap (number e n) is ∙ number-again e n x rest lt in
      let back : drop n bytes ≡ rest = ap (drop n) is ∙ drop_at (number_bytes e n x) rest n (length-number_bytes e n x) in
      rw (le-ltb (length bytes) n len, value, back) refl;
}

pub card2 : (e : Endian) → Exact (card16 e) (λ x. x < 2 ^ 16) (card_at e 2)
card2 e = card e 2 (back2 e)

pub card4 : (e : Endian) → Exact (card32 e) (λ x. x < 2 ^ 32) (card_at e 4)
card4 e = card e 4 (back4 e)

-- one value, and then another
pub pair : {A B : Type 0} (a : A → Cells) (FitsA : A → Type 0) (read_a : List ℕ → Option (A × List ℕ)) (b : B → Cells) (FitsB : B → Type 0) (read_b : List ℕ → Option (B × List ℕ))
    → Exact a FitsA read_a → Exact b FitsB read_b → Exact (λ x. a x.0 ++ b x.1) (λ x. FitsA x.0 × FitsB x.1) (pair_at read_a read_b)
unfolding pair_at
pair {A} {B} a FitsA read_a b FitsB read_b exact_a exact_b = record {
  takes = λ bytes z rest fits read.
      let p = bind_some (read_a bytes) (λ x. read_b x.1 >>= λ y. Some ((x.0, y.0), y.1)) (z, rest) read in
      let q = bind_some (read_b p.0.1) (λ y. Some ((p.0.0, y.0), y.1)) (z, rest) p.2 in
      let front = exact_a.takes bytes p.0.0 p.0.1 fits p.1 in
      let back = exact_b.takes p.0.1 q.0.0 q.0.1 (Begins-fits (a p.0.0) bytes p.0.1 front.0 fits) q.1 in
      subst (λ (y : (A × B) × List ℕ). Begins (a y.0.0 ++ b y.0.1) bytes y.1 × (FitsA y.0.0 × FitsB y.0.1)) (some_is ((p.0.0, q.0.0), q.0.1) (z, rest) q.2)
      (Begins-append (a p.0.0) (b q.0.0) bytes p.0.1 q.0.1 front.0 back.0, (front.1, back.1));
  again = λ bytes z rest fits h.
      let s = Begins-split (a z.0) (b z.1) bytes rest h in
      rw (exact_a.again bytes z.0 s.0 fits.0 s.1, exact_b.again s.0 z.1 rest fits.1 s.2) refl;
}

-- a value after free bytes
pub after : {A : Type 0} (n : ℕ) (a : A → Cells) (Fits : A → Type 0) (read : List ℕ → Option (A × List ℕ)) → Exact a Fits read → Exact (λ x. free n ++ a x) Fits (after_at n read)
unfolding after_at
after n a Fits read exact = record {
  takes = λ bytes x rest fits e.
      let p = bind_some (skip_at n bytes) read (x, rest) e in
      let front = skip_taken n bytes p.0 p.1 in
      let back = exact.takes p.0 x rest (Begins-fits (free n) bytes p.0 front fits) p.2 in
      (Begins-append (free n) (a x) bytes p.0 rest front back.0, back.1);
  again = λ bytes x rest fits h.
      let s = Begins-split (free n) (a x) bytes rest h in
      rw (skip_again n bytes s.0 s.1) (exact.again s.0 x rest fits s.2);
}

-- a count of w bytes, free bytes, and that many bytes
abbrev counted : Endian → ℕ → ℕ → List ℕ → Cells
counted e w k text = known (number_bytes e w (length text)) ++ known text ++ free (pad_len (w + length text) k)

abbrev counted_at : Endian → ℕ → ℕ → List ℕ → Option (List ℕ × List ℕ)
counted_at e w k bytes = card_at e w bytes >>= λ n. bytes_at n.0 n.1 >>= λ text. skip_at (pad_len (w + n.0) k) text.1 >>= λ rest. Some (text.0, rest)

pub counts : (e : Endian) (w k limit : ℕ) → Exact (λ x. known (number_bytes e w x)) (λ x. x < limit) (card_at e w) → Exact (counted e w k) (λ text. length text < limit) (counted_at e w k)
counts e w k limit number = record {
  takes = λ bytes x rest fits read.
      let a = bind_some (card_at e w bytes) (λ n. bytes_at n.0 n.1 >>= λ text. skip_at (pad_len (w + n.0) k) text.1 >>= λ rest. Some (text.0, rest)) (x, rest) read in
      let b = bind_some (bytes_at a.0.0 a.0.1) (λ text. skip_at (pad_len (w + a.0.0) k) text.1 >>= λ rest. Some (text.0, rest)) (x, rest) a.2 in
      let d = bind_some (skip_at (pad_len (w + a.0.0) k) b.0.1) (λ rest. Some (b.0.0, rest)) (x, rest) b.2 in
      let p = number.takes bytes a.0.0 a.0.1 fits a.1 in
      let q = bytes_taken a.0.0 a.0.1 b.0.0 b.0.1 b.1 in
      let s = skip_taken (pad_len (w + a.0.0) k) b.0.1 d.0 d.1 in
      let front : Begins (known (number_bytes e w (length b.0.0))) bytes a.0.1 = rw q.1 p.0 in
      let back : Begins (free (pad_len (w + length b.0.0) k)) b.0.1 d.0 = rw q.1 s in
      let whole = Begins-append (known (number_bytes e w (length b.0.0)) ++ known b.0.0) (free (pad_len (w + length b.0.0) k)) bytes b.0.1 d.0
      (Begins-append (known (number_bytes e w (length b.0.0))) (known b.0.0) bytes a.0.1 b.0.1 front q.0) back in
      subst (λ (y : List ℕ × List ℕ). Begins (counted e w k y.0) bytes y.1 × (length y.0 < limit)) {x = (b.0.0, d.0)} (some_is (b.0.0, d.0) (x, rest) d.2) (whole, rw q.1 p.1);
  again = λ bytes x rest lt h.
      let a = Begins-split (known (number_bytes e w (length x)) ++ known x) (free (pad_len (w + length x) k)) bytes rest h in
      let b = Begins-split (known (number_bytes e w (length x))) (known x) bytes a.0 a.1 in
      rw (number.again bytes (length x) b.0 lt b.1, bytes_again b.0 x a.0 b.2, skip_again (pad_len (w + length x) k) a.0 rest a.2) refl;
}

pub text16_exact : (e : Endian) → Exact (text16 e) IsText16 (text16_at e)
unfolding text16_at
text16_exact e = counts e 2 4 (2 ^ 16) (card2 e)

version_of : ℕ × ℕ → Version
version_of x = record { major = x.0; minor = x.1 }

pub version_exact : (e : Endian) → Exact (version e) IsVersion (version_at e)
unfolding version_at version_of
version_exact e = record {
  takes = λ bytes x rest fits read.
      let p = bind_some (card_at e 2 bytes) (λ major. card_at e 2 major.1 >>= λ minor. Some (version_of (major.0, minor.0), minor.1)) (x, rest) read in
      let q = bind_some (card_at e 2 p.0.1) (λ minor. Some (version_of (p.0.0, minor.0), minor.1)) (x, rest) p.2 in
      let front = (card2 e).takes bytes p.0.0 p.0.1 fits p.1 in
      let back = (card2 e).takes p.0.1 q.0.0 q.0.1 (Begins-fits (card16 e p.0.0) bytes p.0.1 front.0 fits) q.1 in
      subst (λ (y : Version × List ℕ). Begins (version e y.0) bytes y.1 × IsVersion y.0) (some_is (version_of (p.0.0, q.0.0), q.0.1) (x, rest) q.2)
      (Begins-append (card16 e p.0.0) (card16 e q.0.0) bytes p.0.1 q.0.1 front.0 back.0, (front.1, back.1));
  again = λ bytes x rest fits h.
      let s = Begins-split (card16 e x.major) (card16 e x.minor) bytes rest h in
      rw ((card2 e).again bytes x.major s.0 fits.0 s.1, (card2 e).again s.0 x.minor rest fits.1 s.2) refl;
}

pub proof_data_exact : (e : Endian) → Exact (proof_data e) IsProofData (proof_data_at e)
unfolding proof_data_at
proof_data_exact e = record {
  takes = λ bytes x rest fits read.
      let p = bind_some (card_at e 2 bytes) (λ n. skip_at 6 n.1 >>= λ rest. bytes_at n.0 rest) (x, rest) read in
      let q = bind_some (skip_at 6 p.0.1) (λ rest. bytes_at p.0.0 rest) (x, rest) p.2 in
      let count = (card2 e).takes bytes p.0.0 p.0.1 fits p.1 in
      let gap = skip_taken 6 p.0.1 q.0 q.1 in
      let text = bytes_taken p.0.0 q.0 x rest q.2 in
      let front : Begins (card16 e (length x)) bytes p.0.1 = rw text.1 count.0 in
      (Begins-append (card16 e (length x) ++ free 6) (known x) bytes q.0 rest (Begins-append (card16 e (length x)) (free 6) bytes p.0.1 q.0 front gap) text.0, rw text.1 count.1);
  again = λ bytes x rest lt h.
      let a = Begins-split (card16 e (length x) ++ free 6) (known x) bytes rest h in
      let b = Begins-split (card16 e (length x)) (free 6) bytes a.0 a.1 in
      rw ((card2 e).again bytes (length x) b.0 lt b.1, skip_again 6 b.0 a.0 b.2) (bytes_again a.0 x rest a.2);
}

pub nothing_exact : Exact (λ x. []) (λ x. Unit {0}) nothing_at
unfolding nothing_at
nothing_exact = record {
  takes = λ bytes x rest fits e. (ap (λ (y : Unit {0} × List ℕ). y.1) (some_is (tt, bytes) (x, rest) e), tt);
  again = λ bytes x rest fits h. rw h refl;
}
