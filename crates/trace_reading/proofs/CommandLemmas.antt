-- The fields of a command, one after the other.
use Rattle.std.proofs.Common.{◌≡◌, Bool, false, if◌then◌else◌, codes, List, ℕ, suc, [], ◌∷◌, ◌++◌, Result, Ok, Err, refl, sym, ◌∙◌, ap, append_assoc, arith}
use Rattle.std.specs.List.{flat_map}
use Rattle.std.specs.Str.{bytes_eq}
use Rattle.hex.specs.Hex.{decode_of}
use Rattle.hex.specs.declared.error.FromHexError.{FromHexError}
use Rattle.control_lines.specs.Fields.{IsHex}
use Rattle.message_text.specs.Words.{plain_text, quoted}
use Rattle.trace_replay.specs.Commands.{fields_of}
use Rattle.trace_reading.specs.Commands.{command_told, field_told, mark_told, word_told}
use Rattle.std.proofs.lemmas.List.{append-nil}

-- ---- one field

plain_by : (field : List ℕ) (found : Result (List ℕ) FromHexError) → decode_of field ≡ found → ((bytes : List ℕ) → ¬ (IsHex field bytes)) → word_told field found ≡ plain_text field
plain_by field (Ok []) is none = refl
plain_by field (Ok (b ∷ bytes)) is none = absurd (none (b ∷ bytes) (record { spells = is; some = omega arith }))
plain_by field (Err error) is none = refl

no_test : {A : Type 0} (a b c : Bool) (x y z w : A) → a ≡ false → b ≡ false → c ≡ false → (if a then x else if b then y else if c then z else w) ≡ w
no_test a b c x y z w is-a is-b is-c = rw (is-a, is-b, is-c) refl

-- what is neither a mark nor in hex stands as it is
pub plain_mark : (field : List ℕ) → bytes_eq field (codes "@") ≡ false → bytes_eq field (codes "+") ≡ false → bytes_eq field (codes "-") ≡ false → ((bytes : List ℕ) → ¬ (IsHex field bytes)) → mark_told field ≡ plain_text field
plain_mark field no_place no_pair some none =
    no_test (bytes_eq field (codes "@")) (bytes_eq field (codes "+")) (bytes_eq field (codes "-")) (codes "in") (codes "with") (quoted []) (word_told field (decode_of field)) no_place no_pair some
    ∙ plain_by field (decode_of field) refl none

-- ---- all fields

-- In the middle of a command: the text so far and that of the fields that are left are the whole text.
abbrev pub Putting : List ℕ → List ℕ → List ℕ → List ℕ → Type 0
Putting text left old now = now ++ flat_map field_told (fields_of left) ≡ old ++ command_told text

pub one_more : (text left rest field old now new : List ℕ) → Putting text left old now → fields_of left ≡ field ∷ fields_of rest → new ≡ now ++ field_told field → Putting text rest old new
one_more text left rest field old now new putting first line =
    let others : List ℕ = flat_map field_told (fields_of rest) in
    ap (λ front. front ++ others) line ∙ (append_assoc now (field_told field) others ∙ (ap (λ fields. now ++ flat_map field_told fields) (sym first) ∙ putting))

pub the_last : (text left field old now new : List ℕ) → Putting text left old now → fields_of left ≡ field ∷ [] → new ≡ now ++ field_told field → new ≡ old ++ command_told text
the_last text left field old now new putting last line =
    line ∙ (ap (λ tail. now ++ tail) (sym (append-nil (field_told field))) ∙ (ap (λ fields. now ++ flat_map field_told fields) (sym last) ∙ putting))
