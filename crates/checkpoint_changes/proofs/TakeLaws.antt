-- What is taken from the front of bytes.
use Rattle.std.proofs.Common.{◌≡◌, ℕ, ◌<◌, ◌≤◌, ◌^◌, List, ◌++◌, length, Option, Some, None, refl, sym, ap, ap₂, ◌∙◌, subst, arith, length-append, append_assoc}
use Rattle.std.specs.Prelude.{IfSome}
use Rattle.owned_lists.specs.declared.commands.Command.{Command}
use Rattle.ice_values.specs.Cells.{zeros}
use Rattle.ice_values.proofs.CellLaws.{zeros-append}
use Rattle.ice_values.specs.Properties.{array8, IsArray8}
use Rattle.ice_values.specs.declared.numbers.Endian.TheVariants.{Lsb}
use Rattle.checkpoint_records.specs.Finding.{Finds}
use Rattle.checkpoint_records.specs.Rules.{IsCommand, IsEntry, IsName, command_cells}
use Rattle.checkpoint_records.specs.Books.{default_name}
use Rattle.checkpoint_records.specs.Spelling.{entry_cells}
use Rattle.checkpoint_records.specs.declared.records.Entry.{Entry}
use Rattle.checkpoint_records.proofs.FindLaws.{found_is, none_found, nothing, number}
use Rattle.checkpoint_records.specs.declared.head.Format.{Format}
use Rattle.checkpoint_records.specs.declared.head.Format.TheVariants.{Single, Several}
use Rattle.checkpoint_changes.specs.Changes.{IsChange, MayBePut, change_cells, code_of, number_of, part_cells, put_cells, put_code}
use Rattle.ice_values.proofs.LengthLaws.{length-array8}
use Rattle.checkpoint_changes.specs.Taking.{IsOfCode, framed}
use Rattle.checkpoint_changes.specs.declared.changes.Change.{Change}
use Rattle.checkpoint_changes.specs.declared.changes.Change.TheVariants.{Epoch, Pend, Put, Remove, Unpend}
use Rattle.checkpoint_changes.proofs.OnceLaws.{code_fits, number_fits, same_front}

abbrev pub IsNumber : ℕ → Type 0
IsNumber n = n < 2 ^ 32

abbrev pub id_bytes : List ℕ → List ℕ
id_bytes id = zeros (array8 Lsb id)

abbrev pub IsShortId : List ℕ → Type 0
IsShortId id = IsArray8 id × (length (array8 Lsb id) ≤ 65536)

-- the codes of an entry that is put
put_above : (format : Format) → 3 ≤ put_code format
put_above Single = omega arith
put_above Several = omega arith

put_four : (format : Format) → put_code format ≡ 4 → ⊥
put_four Single e = omega (arith, e)
put_four Several e = omega (arith, e)

put_five : (format : Format) → put_code format ≡ 5 → ⊥
put_five Single e = omega (arith, e)
put_five Several e = omega (arith, e)

module _ (format : Format) where
  abbrev pub part : Change → List ℕ
  part change = zeros (part_cells format change)

  -- ---- parts by their codes

  remove_of : (change : Change) → IsOfCode format 2 change → (id : List ℕ) × (IsArray8 id × (length (array8 Lsb id) ≤ 65536)) × (change ≡ Remove id)
  remove_of (Remove id) fits = (id, fits.0, refl)
  remove_of (Epoch n) fits = absurd (omega (arith, fits.1))
  remove_of (Put name entry) fits = absurd (omega (arith, fits.1, put_above format))
  remove_of (Unpend n) fits = absurd (omega (arith, fits.1))
  remove_of (Pend command) fits = absurd (omega (arith, fits.1))

  put_of : (change : Change) → IsOfCode format (put_code format) change → (x : List ℕ × Entry) × (MayBePut format x.0 × IsEntry 4294967295 x.1) × (change ≡ Put x.0 x.1)
  put_of (Put name entry) fits = ((name, entry), fits.0, refl)
  put_of (Epoch n) fits = absurd (omega (arith, fits.1, put_above format))
  put_of (Remove id) fits = absurd (omega (arith, fits.1, put_above format))
  put_of (Unpend n) fits = absurd (put_four format (sym fits.1))
  put_of (Pend command) fits = absurd (put_five format (sym fits.1))

  pend_of : (change : Change) → IsOfCode format 5 change → (command : Command) × IsCommand command × (change ≡ Pend command)
  pend_of (Pend command) fits = (command, fits.0, refl)
  pend_of (Epoch n) fits = absurd (omega (arith, fits.1))
  pend_of (Remove id) fits = absurd (omega (arith, fits.1))
  pend_of (Put name entry) fits = absurd (put_five format fits.1)
  pend_of (Unpend n) fits = absurd (omega (arith, fits.1))

  -- what is found is made a change
  module _ {A : Type 0} (spelled : A → List ℕ) (Fits : A → Type 0) (make : A → Change) (code : ℕ) (fit : (x : A) → Fits x → IsOfCode format code (make x)) (same : (x : A) → part (make x) ≡ spelled x)
      (of : (change : Change) → IsOfCode format code change → (x : A) × Fits x × (change ≡ make x)) where
    front_of : (bytes : List ℕ) (change : Change) (rest : List ℕ) (x : A) → change ≡ make x → bytes ≡ part change ++ rest → bytes ≡ spelled x ++ rest
    front_of bytes change rest x made is = is ∙ ap (λ (c : Change). part c ++ rest) made ∙ ap (λ (l : List ℕ). l ++ rest) (same x)

    found_part : (bytes : List ℕ) (x : A) (left : List ℕ) → Finds spelled Fits bytes (Some (x, left)) → Finds part (IsOfCode format code) bytes (Some (make x, left))
    found_part bytes x left finds = record {
      some = (fit x finds.some.0, finds.some.1 ∙ ap (λ (l : List ℕ). l ++ left) (sym (same x)));
      only = λ change rest fits is.
          let u = of change fits in
          let e = found_is spelled Fits bytes x u.0 left rest finds u.1 (front_of bytes change rest u.0 u.2 is) in
          ap₂ (λ (c : Change) (l : List ℕ). Some (c, l)) (ap make e.0 ∙ sym u.2) e.1;
    }

    no_part : (bytes : List ℕ) → Finds spelled Fits bytes None → Finds part (IsOfCode format code) bytes None
    no_part bytes none = nothing part (IsOfCode format code) bytes (λ change rest fits is.
        let u = of change fits in
        none_found spelled Fits bytes u.0 rest none u.1 (front_of bytes change rest u.0 u.2 is))

  pub remove_found : (bytes id left : List ℕ) → Finds id_bytes IsShortId bytes (Some (id, left)) → Finds part (IsOfCode format 2) bytes (Some (Remove id, left))
  remove_found = found_part id_bytes IsShortId (λ id. Remove id) 2 (λ id fits. (fits, refl)) (λ id. refl) remove_of

  pub no_remove : (bytes : List ℕ) → Finds id_bytes IsShortId bytes None → Finds part (IsOfCode format 2) bytes None
  no_remove = no_part id_bytes IsShortId (λ id. Remove id) 2 (λ id fits. (fits, refl)) (λ id. refl) remove_of

  abbrev pub put_bytes : List ℕ × Entry → List ℕ
  put_bytes x = zeros (put_cells format x.0 x.1)

  abbrev pub IsPut : List ℕ × Entry → Type 0
  IsPut x = MayBePut format x.0 × IsEntry 4294967295 x.1

  abbrev make_put : List ℕ × Entry → Change
  make_put x = Put x.0 x.1

  pub put_found : (bytes : List ℕ) (x : List ℕ × Entry) (left : List ℕ) → Finds put_bytes IsPut bytes (Some (x, left)) → Finds part (IsOfCode format (put_code format)) bytes (Some (make_put x, left))
  put_found = found_part put_bytes IsPut make_put (put_code format) (λ x fits. (fits, refl)) (λ x. refl) put_of

  pub no_put : (bytes : List ℕ) → Finds put_bytes IsPut bytes None → Finds part (IsOfCode format (put_code format)) bytes None
  no_put = no_part put_bytes IsPut make_put (put_code format) (λ x fits. (fits, refl)) (λ x. refl) put_of

  abbrev pub command_bytes : Command → List ℕ
  command_bytes command = zeros (command_cells Lsb command)

  pub pend_found : (bytes : List ℕ) (command : Command) (left : List ℕ) → Finds command_bytes IsCommand bytes (Some (command, left)) → Finds part (IsOfCode format 5) bytes (Some (Pend command, left))
  pend_found = found_part command_bytes IsCommand (λ command. Pend command) 5 (λ command fits. (fits, refl)) (λ command. refl) pend_of

  pub no_pend : (bytes : List ℕ) → Finds command_bytes IsCommand bytes None → Finds part (IsOfCode format 5) bytes None
  no_pend = no_part command_bytes IsCommand (λ command. Pend command) 5 (λ command fits. (fits, refl)) (λ command. refl) pend_of

  -- no change has another code
  code_is : (change : Change) (code : ℕ) → IsOfCode format code change → (code ≡ 1 → ⊥) → (code ≡ 2 → ⊥) → (code ≡ put_code format → ⊥) → (code ≡ 4 → ⊥) → (code ≡ 5 → ⊥) → ⊥
  code_is (Epoch n) code fits a b c d e = a (sym fits.1)
  code_is (Remove id) code fits a b c d e = b (sym fits.1)
  code_is (Put name entry) code fits a b c d e = c (sym fits.1)
  code_is (Unpend n) code fits a b c d e = d (sym fits.1)
  code_is (Pend command) code fits a b c d e = e (sym fits.1)

  pub no_code : (bytes : List ℕ) (code : ℕ) → (code ≡ 1 → ⊥) → (code ≡ 2 → ⊥) → (code ≡ put_code format → ⊥) → (code ≡ 4 → ⊥) → (code ≡ 5 → ⊥) → Finds part (IsOfCode format code) bytes None
  no_code bytes code a b c d e = nothing part (IsOfCode format code) bytes (λ change rest fits is. code_is change code fits a b c d e)

  -- ---- behind a code and a number

  abbrev pub IsBehind : ℕ → ℕ → Change → Type 0
  IsBehind code n change = IsOfCode format code change × (number_of change ≡ n)

  epoch_of : (change : Change) (n : ℕ) → IsBehind 1 n change → change ≡ Epoch n
  epoch_of (Epoch m) n fits = ap (λ (k : ℕ). Epoch k) fits.1
  epoch_of (Remove id) n fits = absurd (omega (arith, fits.0.1))
  epoch_of (Put name entry) n fits = absurd (omega (arith, fits.0.1, put_above format))
  epoch_of (Unpend m) n fits = absurd (omega (arith, fits.0.1))
  epoch_of (Pend command) n fits = absurd (omega (arith, fits.0.1))

  pub epoch_found : (bytes : List ℕ) (code n : ℕ) → code ≡ 1 → n < 2 ^ 32 → Finds part (IsBehind code n) bytes (Some (Epoch n, bytes))
  epoch_found bytes code n is_code lt = subst (λ (k : ℕ). Finds part (IsBehind k n) bytes (Some (Epoch n, bytes))) (sym is_code) (record {
    some = (((lt, refl), refl), refl);
    only = λ change rest fits is. let e = epoch_of change n fits in ap₂ (λ (c : Change) (l : List ℕ). Some (c, l)) (sym e) (is ∙ ap (λ (c : Change). part c ++ rest) e);
  })

  unpend_of : (change : Change) (n : ℕ) → IsBehind 4 n change → change ≡ Unpend n
  unpend_of (Unpend m) n fits = ap (λ (k : ℕ). Unpend k) fits.1
  unpend_of (Epoch m) n fits = absurd (omega (arith, fits.0.1))
  unpend_of (Remove id) n fits = absurd (omega (arith, fits.0.1))
  unpend_of (Put name entry) n fits = absurd (put_four format fits.0.1)
  unpend_of (Pend command) n fits = absurd (omega (arith, fits.0.1))

  pub unpend_found : (bytes : List ℕ) (code n : ℕ) → code ≡ 4 → n < 2 ^ 32 → Finds part (IsBehind code n) bytes (Some (Unpend n, bytes))
  unpend_found bytes code n is_code lt = subst (λ (k : ℕ). Finds part (IsBehind k n) bytes (Some (Unpend n, bytes))) (sym is_code) (record {
    some = (((lt, refl), refl), refl);
    only = λ change rest fits is. let e = unpend_of change n fits in ap₂ (λ (c : Change) (l : List ℕ). Some (c, l)) (sym e) (is ∙ ap (λ (c : Change). part c ++ rest) e);
  })

  -- the others have no number
  no_number : (change : Change) (code : ℕ) → IsOfCode format code change → (code ≡ 1 → ⊥) → (code ≡ 4 → ⊥) → number_of change ≡ 0
  no_number (Epoch n) code fits a b = absurd (a (sym fits.1))
  no_number (Remove id) code fits a b = refl
  no_number (Put name entry) code fits a b = refl
  no_number (Unpend n) code fits a b = absurd (b (sym fits.1))
  no_number (Pend command) code fits a b = refl

  pub numbered : (bytes : List ℕ) (code n : ℕ) → (code ≡ 1 → ⊥) → (code ≡ 4 → ⊥) → (n ≡ 0 → ⊥) → Finds part (IsBehind code n) bytes None
  numbered bytes code n a b other = nothing part (IsBehind code n) bytes (λ change rest fits is. other (sym fits.1 ∙ no_number change code fits.0 a b))

  pub unnumbered : (bytes : List ℕ) (code n : ℕ) (found : Option (Change × List ℕ)) → (code ≡ 1 → ⊥) → (code ≡ 4 → ⊥) → n ≡ 0 → Finds part (IsOfCode format code) bytes found → Finds part (IsBehind code n) bytes found
  unnumbered bytes code n found a b is_zero finds = record {
    some = by found finds.some;
    only = λ change rest fits is. finds.only change rest fits.0 is;
  }
    where
      by : (o : Option (Change × List ℕ)) → IfSome o (λ x. IsOfCode format code x.0 × (bytes ≡ part x.0 ++ x.1)) → IfSome o (λ x. IsBehind code n x.0 × (bytes ≡ part x.0 ++ x.1))
      by None h = h
      by (Some x) h = ((h.0, no_number x.0 code h.0 a b ∙ sym is_zero), h.1)

  -- ---- whole changes

  abbrev pub change_bytes : Change → List ℕ
  change_bytes change = zeros (change_cells format change)

  pub no_first : (bytes : List ℕ) → Finds number IsNumber bytes None → Finds change_bytes (IsChange format) bytes None
  no_first bytes none = nothing change_bytes (IsChange format) bytes (λ change rest fits is. none_found number IsNumber bytes (code_of format change) (number (number_of change) ++ (part change ++ rest)) none (code_fits format change) is)

  pub no_second : (bytes : List ℕ) (code : ℕ) (mid : List ℕ) → Finds number IsNumber bytes (Some (code, mid)) → Finds number IsNumber mid None → Finds change_bytes (IsChange format) bytes None
  no_second bytes code mid first none = nothing change_bytes (IsChange format) bytes (λ change rest fits is.
      let e = found_is number IsNumber bytes code (code_of format change) mid (number (number_of change) ++ (part change ++ rest)) first (code_fits format change) is in
      none_found number IsNumber mid (number_of change) (part change ++ rest) none (number_fits format change fits) e.1)

  pub whole_change : (bytes : List ℕ) (code : ℕ) (mid : List ℕ) (n : ℕ) (left : List ℕ) (found : Option (Change × List ℕ)) → Finds number IsNumber bytes (Some (code, mid)) → Finds number IsNumber mid (Some (n, left)) → Finds part (IsBehind code n) left found
      → Finds change_bytes (IsChange format) bytes found
  whole_change bytes code mid n left found first second behind = record {
    some = by found behind.some;
    only = λ change rest fits is.
        let e = found_is number IsNumber bytes code (code_of format change) mid (number (number_of change) ++ (part change ++ rest)) first (code_fits format change) is in
        let d = found_is number IsNumber mid n (number_of change) left (part change ++ rest) second (number_fits format change fits) e.1 in
        behind.only change rest ((fits, sym e.0), sym d.0) d.1;
  }
    where
      by : (o : Option (Change × List ℕ)) → IfSome o (λ x. IsBehind code n x.0 × (left ≡ part x.0 ++ x.1)) → IfSome o (λ x. IsChange format x.0 × (bytes ≡ change_bytes x.0 ++ x.1))
      by None h = h
      by (Some x) h =
          let one : bytes ≡ number (code_of format x.0) ++ mid = first.some.1 ∙ ap (λ (k : ℕ). number k ++ mid) (sym h.0.0.1) in
          let two : mid ≡ number (number_of x.0) ++ (part x.0 ++ x.1) = second.some.1 ∙ ap₂ (λ (k : ℕ) (l : List ℕ). number k ++ l) (sym h.0.1) h.1 in
          (h.0.0.0, one ∙ ap (λ (l : List ℕ). number (code_of format x.0) ++ l) two)

-- ---- entries that are put

abbrev pub entry_bytes : Entry → List ℕ
entry_bytes entry = zeros (entry_cells entry)

abbrev IsAnyEntry : Entry → Type 0
IsAnyEntry = IsEntry 4294967295

-- an entry of `default`
pub alone_found : (bytes name : List ℕ) (entry : Entry) (left : List ℕ) → name ≡ default_name → Finds entry_bytes IsAnyEntry bytes (Some (entry, left)) → Finds (put_bytes Single) (IsPut Single) bytes (Some ((name, entry), left))
alone_found bytes name entry left is finds = record {
  some = ((is, finds.some.0), finds.some.1);
  only = λ x rest fits at.
      let e = found_is entry_bytes IsAnyEntry bytes entry x.1 left rest finds fits.1 at in
      let same : ◌≡◌ {A = List ℕ × Entry} (name, entry) x = ap₂ (λ (n : List ℕ) (f : Entry). (n, f)) (is ∙ sym fits.0) e.0 in
      ap₂ (λ (y : List ℕ × Entry) (l : List ℕ). Some (y, l)) same e.1;
}

pub none_alone : (bytes : List ℕ) → Finds entry_bytes IsAnyEntry bytes None → Finds (put_bytes Single) (IsPut Single) bytes None
none_alone bytes none = nothing (put_bytes Single) (IsPut Single) bytes (λ x rest fits is. none_found entry_bytes IsAnyEntry bytes x.1 rest none fits.1 is)

-- an entry behind the name of its session
put_is : (x : List ℕ × Entry) (rest : List ℕ) → put_bytes Several x ++ rest ≡ id_bytes x.0 ++ (entry_bytes x.1 ++ rest)
put_is x rest = ap (λ (l : List ℕ). l ++ rest) (zeros-append (array8 Lsb x.0) (entry_cells x.1)) ∙ append_assoc (id_bytes x.0) (entry_bytes x.1) rest

name_short : (name : List ℕ) → IsName name → IsShortId name
name_short name is = (omega (arith, is.few), omega (arith, length-array8 Lsb name, is.few))

pub no_session : (bytes : List ℕ) → Finds id_bytes IsShortId bytes None → Finds (put_bytes Several) (IsPut Several) bytes None
no_session bytes none = nothing (put_bytes Several) (IsPut Several) bytes (λ x rest fits is. none_found id_bytes IsShortId bytes x.0 (entry_bytes x.1 ++ rest) none (name_short x.0 fits.0) (is ∙ put_is x rest))

module _ (bytes name mid : List ℕ) (finds : Finds id_bytes IsShortId bytes (Some (name, mid))) where
  same_session : (x : List ℕ × Entry) (rest : List ℕ) → IsPut Several x → bytes ≡ put_bytes Several x ++ rest → (name ≡ x.0) × (mid ≡ entry_bytes x.1 ++ rest)
  same_session x rest fits is = found_is id_bytes IsShortId bytes name x.0 mid (entry_bytes x.1 ++ rest) finds (name_short x.0 fits.0) (is ∙ put_is x rest)

  pub bad_session : ¬ (IsName name) → Finds (put_bytes Several) (IsPut Several) bytes None
  bad_session bad = nothing (put_bytes Several) (IsPut Several) bytes (λ x rest fits is. bad (subst IsName (sym (same_session x rest fits is).0) fits.0))

  pub no_entry : Finds entry_bytes IsAnyEntry mid None → Finds (put_bytes Several) (IsPut Several) bytes None
  no_entry none = nothing (put_bytes Several) (IsPut Several) bytes (λ x rest fits is. none_found entry_bytes IsAnyEntry mid x.1 rest none fits.1 (same_session x rest fits is).1)

  pub named_found : (entry : Entry) (left : List ℕ) → IsName name → Finds entry_bytes IsAnyEntry mid (Some (entry, left)) → Finds (put_bytes Several) (IsPut Several) bytes (Some ((name, entry), left))
  named_found entry left is_name finds_entry =
      let x : List ℕ × Entry = (name, entry) in
      record {
        some = ((is_name, finds_entry.some.0), finds.some.1 ∙ ap (λ (l : List ℕ). id_bytes name ++ l) finds_entry.some.1 ∙ sym (put_is x left));
        only = λ y rest fits is.
            let s = same_session y rest fits is in
            let e = found_is entry_bytes IsAnyEntry mid entry y.1 left rest finds_entry fits.1 s.1 in
            let same : ◌≡◌ {A = List ℕ × Entry} x y = ap₂ (λ (n : List ℕ) (f : Entry). (n, f)) s.0 e.0 in
            ap₂ (λ (z : List ℕ × Entry) (l : List ℕ). Some (z, l)) same e.1;
      }

-- ---- the frame of a delta

abbrev pub FitsFrame : List ℕ → Type 0
FitsFrame delta = length delta < 2 ^ 32

pub no_gate : (bytes : List ℕ) → Finds number IsNumber bytes None → Finds framed FitsFrame bytes None
no_gate bytes none = nothing framed FitsFrame bytes (λ delta rest fits is. none_found number IsNumber bytes 165 (number (length delta) ++ (delta ++ rest)) none (omega arith) is)

pub other_gate : (bytes : List ℕ) (gate : ℕ) (mid : List ℕ) → Finds number IsNumber bytes (Some (gate, mid)) → (gate ≡ 165 → ⊥) → Finds framed FitsFrame bytes None
other_gate bytes gate mid first other = nothing framed FitsFrame bytes (λ delta rest fits is. other (found_is number IsNumber bytes gate 165 mid (number (length delta) ++ (delta ++ rest)) first (omega arith) is).0)

pub no_count : (bytes : List ℕ) (gate : ℕ) (mid : List ℕ) → Finds number IsNumber bytes (Some (gate, mid)) → Finds number IsNumber mid None → Finds framed FitsFrame bytes None
no_count bytes gate mid first none = nothing framed FitsFrame bytes (λ delta rest fits is.
    let e = found_is number IsNumber bytes gate 165 mid (number (length delta) ++ (delta ++ rest)) first (omega arith) is in
    none_found number IsNumber mid (length delta) (delta ++ rest) none fits e.1)

module _ (bytes : List ℕ) (gate : ℕ) (mid : List ℕ) (count : ℕ) (left : List ℕ) (first : Finds number IsNumber bytes (Some (gate, mid))) (second : Finds number IsNumber mid (Some (count, left))) where
  counted : (delta rest : List ℕ) → FitsFrame delta → bytes ≡ framed delta ++ rest → (count ≡ length delta) × (left ≡ delta ++ rest)
  counted delta rest fits is =
      let e = found_is number IsNumber bytes gate 165 mid (number (length delta) ++ (delta ++ rest)) first (omega arith) is in
      found_is number IsNumber mid count (length delta) left (delta ++ rest) second fits e.1

  pub too_long : length left < count → Finds framed FitsFrame bytes None
  too_long lt = nothing framed FitsFrame bytes (λ delta rest fits is. let e = counted delta rest fits is in omega (arith, lt, e.0, ap length e.1, length-append delta rest))

  pub framed_found : (delta after : List ℕ) → gate ≡ 165 → left ≡ delta ++ after → length delta ≡ count → Finds framed FitsFrame bytes (Some (delta, after))
  framed_found delta after is_gate parts len = record {
    some = (
      omega (arith, len, second.some.0),
      first.some.1 ∙ ap₂ (λ (k : ℕ) (l : List ℕ). number k ++ l) is_gate (second.some.1 ∙ ap₂ (λ (k : ℕ) (l : List ℕ). number k ++ l) (sym len) parts),
    );
    only = λ other rest fits is.
        let e = counted other rest fits is in
        let same = same_front delta other after rest (len ∙ e.0) (sym parts ∙ e.1) in
        ap₂ (λ (x y : List ℕ). Some (x, y)) same.0 same.1;
  }
