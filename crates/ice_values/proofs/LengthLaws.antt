-- How many bytes spell each field.
use Rattle.std.proofs.Common.{◌≡◌, ℕ, ◌+◌, ◌*◌, ◌<◌, ◌≤◌, List, [], ◌∷◌, ◌++◌, length, take, get_or, refl, sym, ap, ◌∙◌, subst, arith, length-append, drop, take-append-drop}
use Rattle.std.specs.Prelude.{flat_map}
use Rattle.std.specs.List.{AllByRecursion}
use Rattle.std.proofs.lemmas.List.{append-nil, take_more}
use Rattle.std.proofs.lemmas.Grind.{flat_map-append}
use Rattle.ice_values.specs.Cells.{Cells, byte, known, free, pad_len}
use Rattle.ice_values.specs.Numbers.{number_bytes, card16, card32}
use Rattle.ice_values.specs.Fields.{text16, version, versions, proof_data, ErrorFields, error_body}
use Rattle.ice_values.specs.Properties.{array8, listed}
use Rattle.ice_values.specs.declared.numbers.Endian.{Endian}
use Rattle.ice_values.specs.declared.version.Version.{Version}
use Rattle.ice_values.proofs.CellLaws.{length-known, length-free}
use Rattle.ice_values.proofs.NumberLaws.{length-number_bytes}

length-card16 : (e : Endian) (x : ℕ) → length (card16 e x) ≡ 2
length-card16 e x = length-known (number_bytes e 2 x) ∙ length-number_bytes e 2 x

pub length-text16 : (e : Endian) (text : List ℕ) → length (text16 e text) ≡ 2 + length text + pad_len (2 + length text) 4
length-text16 e text =
    length-append (card16 e (length text) ++ known text) (free (pad_len (2 + length text) 4)) ∙ rw (length-append (card16 e (length text)) (known text), length-card16 e (length text), length-known text, length-free (pad_len (2 + length text) 4)) refl

pub length-version : (e : Endian) (v : Version) → length (version e v) ≡ 4
length-version e v = length-append (card16 e v.major) (card16 e v.minor) ∙ rw (length-card16 e v.major, length-card16 e v.minor) refl

pub length-versions : (e : Endian) (items : List Version) → length (versions e items) ≡ 4 * length items
length-versions e [] = refl
length-versions e (v ∷ items) = let rest = length-versions e items in omega (arith, length-append (version e v) (versions e items), length-version e v, rest)

pub length-proof_data : (e : Endian) (bytes : List ℕ) → length (proof_data e bytes) ≡ 8 + length bytes
length-proof_data e bytes =
    omega (arith, length-append (card16 e (length bytes) ++ free 6) (known bytes), length-append (card16 e (length bytes)) (free 6), length-card16 e (length bytes), length-free 6, length-known bytes)

pub length-more : {A : Type 0} (cells : A → Cells) (items : List A) (i : ℕ) (x : A) → i < length items → x ≡ get_or items i x → length (flat_map cells (take (i + 1) items)) ≡ length (flat_map cells (take i items)) + length (cells x)
length-more {A} cells items i x lt is =
    let grown : take (i + 1) items ≡ take i items ++ x ∷ [] = take_more items i x lt ∙ ap (λ (y : A). take i items ++ y ∷ []) (sym is) in
    ap (λ (l : List A). length (flat_map cells l)) grown ∙ ap length (flat_map-append cells (take i items) (x ∷ [])) ∙ length-append (flat_map cells (take i items)) (cells x ++ []) ∙ ap (λ (l : Cells). length (flat_map cells (take i items)) + length l) (append-nil (cells x))

-- the first items have no more bytes than all, and neither has one of them
pub part_within : {A : Type 0} (cells : A → Cells) (items : List A) (i : ℕ) → length (flat_map cells (take i items)) ≤ length (flat_map cells items)
part_within {A} cells items i =
    let whole : length (flat_map cells items) ≡ length (flat_map cells (take i items)) + length (flat_map cells (drop i items)) =
    ap (λ (l : List A). length (flat_map cells l)) (sym (take-append-drop i items)) ∙ ap length (flat_map-append cells (take i items) (drop i items)) ∙ length-append (flat_map cells (take i items)) (flat_map cells (drop i items)) in
    omega (arith, whole)

pub item_within : {A : Type 0} (cells : A → Cells) (items : List A) (i : ℕ) (x : A) → i < length items → x ≡ get_or items i x → length (flat_map cells (take i items)) + length (cells x) ≤ length (flat_map cells items)
item_within cells items i x lt is = omega (arith, length-more cells items i x lt is, part_within cells items (i + 1))

length-card32 : (e : Endian) (x : ℕ) → length (card32 e x) ≡ 4
length-card32 e x = length-known (number_bytes e 4 x) ∙ length-number_bytes e 4 x

pub length-array8 : (e : Endian) (bytes : List ℕ) → length (array8 e bytes) ≡ 4 + length bytes + pad_len (4 + length bytes) 8
length-array8 e bytes =
    length-append (card32 e (length bytes) ++ known bytes) (free (pad_len (4 + length bytes) 8)) ∙ rw (length-append (card32 e (length bytes)) (known bytes), length-card32 e (length bytes), length-known bytes, length-free (pad_len (4 + length bytes) 8)) refl

pub length-listed : {A : Type 0} (item : A → Cells) (e : Endian) (items : List A) → length (listed item e items) ≡ 8 + length (flat_map item items)
length-listed item e items =
    omega (arith, length-append (card32 e (length items) ++ free 4) (flat_map item items), length-append (card32 e (length items)) (free 4), length-card32 e (length items), length-free 4)

all-append : {A : Type 0} (P : A → Type 0) (xs ys : List A) → AllByRecursion P xs → AllByRecursion P ys → AllByRecursion P (xs ++ ys)
all-append P [] ys h k = k
all-append P (x ∷ xs) ys h k = (h.0, all-append P xs ys h.1 k)

pub all-more : {A : Type 0} (P : A → Type 0) (items : List A) (i : ℕ) (x : A) → i < length items → x ≡ get_or items i x → AllByRecursion P (take i items) → P x → AllByRecursion P (take (i + 1) items)
all-more {A} P items i x lt is h here =
    let grown : take (i + 1) items ≡ take i items ++ x ∷ [] = take_more items i x lt ∙ ap (λ (y : A). take i items ++ y ∷ []) (sym is) in
    subst (AllByRecursion P) (sym grown) (all-append P (take i items) (x ∷ []) h (here, tt))

pub length-error_body : (e : Endian) (error : ErrorFields) → length (error_body byte e error) ≡ 8 + length error.values
length-error_body e error =
    omega (arith, length-append (card32 e error.sequence) (known error.values), length-known (number_bytes e 4 error.sequence), length-number_bytes e 4 error.sequence, length-known error.values)
