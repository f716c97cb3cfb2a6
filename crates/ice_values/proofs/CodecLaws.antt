-- What decoding answers, over all messages of a protocol.
use Rattle.std.proofs.Common.{◌≡◌, ℕ, suc, ◌+◌, ◌*◌, ◌<◌, ◌≤◌, List, [], ◌∷◌, Result, Ok, Err, refl, sym, ap, ◌∙◌, subst, arith, length, drop, slice_index, inl, inr}
use Rattle.std.specs.Prelude.{◌≢◌, ◌↔◌}
use Rattle.std.proofs.lemmas.Bool.{cases_eq, cases_lt, le-leb, lt-leb}
use Rattle.std.proofs.lemmas.List.{append-nil}
use Rattle.ice_values.specs.Cells.{Cells, byte, free, zeros, pad_len, Begins}
use Rattle.ice_values.specs.Numbers.{number}
use Rattle.ice_values.specs.Fields.{spelling}
use Rattle.ice_values.specs.Frames.{◌>>=◌, IsFrame, IsChoice, cut_refusal}
use Rattle.ice_values.specs.declared.numbers.Endian.{Endian}
use Rattle.ice_values.specs.declared.refusals.DecodeRefusal.{DecodeRefusal}
use Rattle.ice_values.specs.declared.refusals.DecodeRefusal.TheVariants.{BadMinor, BadLength, BadValue}
use Rattle.ice_values.proofs.CellLaws.{IsBytes, Begins-zeros, length-zeros}
use Rattle.ice_values.proofs.HeaderLaws.{Header, minor_is, is_frame, is_cut, length-spelling}
use Rattle.ice_values.proofs.BodyLaws.{Whole, ok_not_err}
use Rattle.ice_values.proofs.EnumLaws.{Means, Answered, answered_plain, answered_meant, formed_meant}
use Rattle.ice_values.proofs.ChoiceLaws.{Opens, form_is_choice as choice_is_form}
use Rattle.ice_values.proofs.DecodeLaws.{Caused, caused}

-- What reading the bytes answers, if their minor opcode is that of this message.
pub record Row {M : Type 0} (Spelled Formed : M → Type 0) (places : M → List (ℕ × ℕ)) (bytes : List ℕ) (header : Type 0) (m : M) (answer : Result M DecodeRefusal) : Type 0 where
  pub says : header → Answered Spelled Formed places bytes answer
  pub again : Spelled m → answer ≡ Ok m
  pub formed : Formed m → answer ≡ Err BadLength → ⊥

module _ {M : Type 0} (Spelled Formed : M → Type 0) (places : M → List (ℕ × ℕ)) (bytes : List ℕ) {X : Type 0} (e : Endian) (opcode minor : ℕ) (own body : X → Cells) (Fits : X → Type 0) (read : List ℕ → Result X DecodeRefusal)
    (law : Whole e opcode minor own body Fits read) where
  -- the bytes are a spelling of a body
  abbrev IsBody : X → Type 0
  IsBody x = Fits x × Begins (spelling e opcode minor (own x) (body x)) bytes []

  -- a message without enumerated bytes
  pub plain_row : (make : X → M) (m : M) → ((x : X) → IsBody x → Spelled (make x)) → (Spelled m → (x : X) × IsBody x × (make x ≡ m)) → (Formed m → (x : X) × IsBody x)
      → Row Spelled Formed places bytes (Header e opcode minor bytes) m (read bytes >>= λ x. Ok (make x))
  plain_row make m to of of_form = record {
    says = λ h. answered_plain e opcode minor own body Fits read law Spelled Formed places bytes make h (λ x fits begins. to x (fits, begins));
    again = λ s. let x = of s in rw (law.again bytes x.0 x.1.0 x.1.1) (ap (λ (m : M). Ok m) x.2);
    formed = λ f. let x = of_form f in rw (law.again bytes x.0 x.1.0 x.1.1) (λ is. ok_not_err (make x.0) BadLength is);
  }

  -- a message with enumerated bytes
  pub meant_row : {A : Type 0} (at : List (ℕ × ℕ)) (Has : A → List ℕ → Type 0) (mean : List ℕ → Result A DecodeRefusal) → Means at Has mean → (make : X → A → M) (m : M)
      → ((x : X) (a : A) → IsBody x → Has a bytes → Spelled (make x a)) → ((x : X) → IsBody x → (n : M) × Formed n × (places n ≡ at))
      → (Spelled m → (x : X) × (a : A) × IsBody x × Has a bytes × (make x a ≡ m)) → (Formed m → (x : X) × IsBody x)
      → Row Spelled Formed places bytes (Header e opcode minor bytes) m (read bytes >>= λ x. mean bytes >>= λ a. Ok (make x a))
  meant_row {A} at Has mean means make m to forms of of_form = record {
    says = λ h. answered_meant e opcode minor own body Fits read law Spelled Formed places bytes at Has mean means make h (λ x a fits begins has. to x a (fits, begins) has) (λ x fits begins. forms x (fits, begins));
    again = λ s. let x = of s in rw (law.again bytes x.0 x.2.0 x.2.1, means.again bytes x.1 x.3) (ap (λ (m : M). Ok m) x.4);
    formed = λ f. let x = of_form f in formed_meant e opcode minor own body Fits read law bytes at Has mean means make x.0 x.1.0 x.1.1;
  }

-- messages whose minor opcodes are this one and those after it
abbrev pub Numbered : {M : Type 0} → (M → ℕ) → ℕ → List M → Type 0
Numbered minor_of from [] = Unit {0}
Numbered minor_of from (m ∷ ms) = (minor_of m ≡ from) × Numbered minor_of (suc from) ms

some_at : {M : Type 0} (minor_of : M → ℕ) (from : ℕ) (ms : List M) → Numbered minor_of from ms → (n : ℕ) → from ≤ n → n < from + length ms → (m : M) × (minor_of m ≡ n)
some_at minor_of from [] h n le lt = absurd (omega (arith, le, lt))
some_at minor_of from (m ∷ ms) h n le lt = elim (cases_eq n from) [
  | inl same ↦ (m, h.0 ∙ sym same)
  | inr other ↦ some_at minor_of (suc from) ms h.1 n (omega (arith, le, other)) (omega (arith, lt))
]

-- all of a message, with `mark n` where the enumerated byte n stands
abbrev pub Shape : {M : Type 0} → (M → ℕ) → ((ℕ → Cells) → M → Cells × Cells) → Endian → (ℕ → Cells) → ℕ → M → Cells
Shape minor_of layout e mark opcode m = spelling e opcode (minor_of m) (layout mark m).0 (layout mark m).1

-- How the messages of a protocol are spelled and read: a row for each of them. Its major opcodes are those of K.
pub record Codec {M K : Type 0} (major : K → ℕ) (minor_of : M → ℕ) (layout : (ℕ → Cells) → M → Cells × Cells) (places : M → List (ℕ × ℕ)) (numbers : M → List ℕ) (Fits : M → Type 0) (e : Endian) (samples : List M) (read : List ℕ → Result M DecodeRefusal) : Type 0 where
  pub opens : (k : K) (m : M) → Opens (numbers m) (places m) (Shape minor_of layout e byte (major k) m) (Shape minor_of layout e (λ n. free 1) (major k) m)
  pub own : (mark : ℕ → Cells) → ((n : ℕ) → length (mark n) ≡ 1) → (m : M) → length (layout mark m).0 ≡ 2
  pub row : (k : K) (bytes : List ℕ) (m : M) → slice_index bytes 1 ≡ minor_of m
      → Row (λ m. Fits m × Begins (Shape minor_of layout e byte (major k) m) bytes []) (λ m. Fits m × Begins (Shape minor_of layout e (λ n. free 1) (major k) m) bytes []) places bytes (Header e (major k) (minor_of m) bytes) m (read bytes)
  pub numbered : Numbered minor_of 0 samples
  pub below : (m : M) → minor_of m < length samples
  pub none : (bytes : List ℕ) → length samples ≤ slice_index bytes 1 → read bytes ≡ Err BadMinor

module _ {M K : Type 0} (major : K → ℕ) (minor_of : M → ℕ) (layout : (ℕ → Cells) → M → Cells × Cells) (places : M → List (ℕ × ℕ)) (numbers : M → List ℕ) (Fits : M → Type 0) (e : Endian) (samples : List M) (read : List ℕ → Result M DecodeRefusal)
    (codec : Codec major minor_of layout places numbers Fits e samples read) where
  abbrev shape : (ℕ → Cells) → K → M → Cells
  shape mark k m = Shape minor_of layout e mark (major k) m

  abbrev Spells : K → M → List ℕ → Type 0
  Spells k m bytes = Fits m × Begins (shape byte k m) bytes []

  abbrev HasForm : K → M → List ℕ → Type 0
  HasForm k m bytes = Fits m × Begins (shape (λ n. free 1) k m) bytes []

  abbrev HasChoice : K → M → List ℕ → Type 0
  HasChoice k m bytes = (chosen : List ℕ) × IsChoice (places m) bytes chosen × Spells k m chosen

  pub form_is_choice : (k : K) (m : M) (bytes : List ℕ) → HasForm k m bytes ↔ HasChoice k m bytes
  form_is_choice k m bytes = choice_is_form (numbers m) (places m) (shape byte k m) (shape (λ n. free 1) k m) (codec.opens k m) (Fits m) bytes []

  pub decode_again : (k : K) (bytes : List ℕ) (m : M) → Spells k m bytes → read bytes ≡ Ok m
  decode_again k bytes m h = (codec.row k bytes m (minor_is e (major k) (minor_of m) (layout byte m).0 (layout byte m).1 bytes h.1)).again h

  -- no choice of the enumerated bytes spells what is refused for its length
  no_choice : (bytes : List ℕ) → read bytes ≡ Err BadLength → (k : K) (m : M) → HasChoice k m bytes → ⊥
  no_choice bytes is k m choice =
      let formed = (form_is_choice k m bytes).1 choice in
      (codec.row k bytes m (minor_is e (major k) (minor_of m) (layout (λ n. free 1) m).0 (layout (λ n. free 1) m).1 bytes formed.1)).formed formed is

  -- the spelling with zeros is one, and a frame
  pub canon_spells : (k : K) (m : M) → Fits m → Spells k m (zeros (shape byte k m))
  canon_spells k m fits = (fits, subst (λ (b : List ℕ). Begins (shape byte k m) b []) (append-nil (zeros (shape byte k m))) (Begins-zeros (shape byte k m) []))

  pub canon_is_frame : (k : K) (m : M) → Fits m → length (layout byte m).1 ≤ 65536 → IsFrame e (zeros (shape byte k m))
  canon_is_frame k m fits short =
      let own : Cells = (layout byte m).0 in
      let body : Cells = (layout byte m).1 in
      let two = codec.own byte (λ n. refl) m in
      let count : length (zeros (shape byte k m)) ≡ 8 + length body + pad_len (length body) 8 = length-zeros (shape byte k m) ∙ length-spelling e (major k) (minor_of m) own body two in
      is_frame e (major k) (minor_of m) own body (zeros (shape byte k m)) two (omega (arith, count, short)) (canon_spells k m fits).1

  -- what has fewer units than it states has no message's form
  no_form : (bytes : List ℕ) → IsBytes bytes → length bytes < 8 + 8 * number e 4 (drop 4 bytes) → (k : K) (m : M) → HasChoice k m bytes → ⊥
  no_form bytes fits short k m choice =
      is_cut e (major k) (minor_of m) (layout (λ n. free 1) m).0 (layout (λ n. free 1) m).1 bytes (codec.own (λ n. free 1) (λ n. refl) m) fits short ((form_is_choice k m bytes).1 choice).1

  known : (n : ℕ) → n < length samples → (m : M) × (minor_of m ≡ n)
  known n lt = some_at minor_of 0 samples codec.numbered n (omega arith) (omega (arith, lt))

  pub minors : (last : ℕ) → length samples ≡ suc last → (n : ℕ) → (n ≤ last) ↔ ((m : M) × (minor_of m ≡ n))
  minors last count n = (λ le. known n (omega (arith, le, count)), λ h. omega (arith, codec.below h.0, h.1, count))

  -- which refusal is right, given what each needs
  module _ (bytes : List ℕ) (Refused : DecodeRefusal → Type 0) (unknown : ((m : M) → minor_of m ≢ slice_index bytes 1) → Refused BadMinor)
      (uncut : ((m : M) × (minor_of m ≡ slice_index bytes 1)) → ((k : K) (m : M) → HasChoice k m bytes → ⊥) → Refused BadLength) where
    no_minor : length samples ≤ slice_index bytes 1 → (m : M) → minor_of m ≢ slice_index bytes 1
    no_minor none m is = omega (arith, codec.below m, none, is)

    -- what decoding answers is spelled, or has its cause
    pub decode_caused : (k : K) → IsFrame e bytes → IsBytes bytes → slice_index bytes 0 ≡ major k
        → ((at len : ℕ) → Answered (λ m. Spells k m bytes) (λ m. HasForm k m bytes) places bytes (Err (BadValue at len)) → Refused (BadValue at len)) → Caused (λ m. Spells k m bytes) Refused (read bytes)
    decode_caused k frame fits stated wrong = elim (cases_lt (slice_index bytes 1) (length samples)) [
      | inl lt ↦
          let m = known (slice_index bytes 1) lt in
          let header : Header e (major k) (minor_of m.0) bytes = record { frame = frame; fits = fits; opcode_at = stated; minor_at = sym m.1 } in
          caused (λ m. Spells k m bytes) Refused (λ m. HasForm k m bytes) places bytes (read bytes) (λ long. uncut m (no_choice bytes long)) wrong ((codec.row k bytes m.0 (sym m.1)).says header)
      | inr none ↦ rw (codec.none bytes none) (unknown (no_minor none))
    ]

    pub cut_is_refused : (last : ℕ) → length samples ≡ suc last → IsBytes bytes → length bytes < 8 + 8 * number e 4 (drop 4 bytes) → Refused (cut_refusal last bytes)
    cut_is_refused last count fits short = elim (cases_lt (slice_index bytes 1) (length samples)) [
      | inl lt ↦ rw (le-leb (slice_index bytes 1) last (omega (arith, lt, count))) (uncut (known (slice_index bytes 1) lt) (no_form bytes fits short))
      | inr none ↦ rw (lt-leb (slice_index bytes 1) last (omega (arith, none, count))) (unknown (no_minor none))
    ]
