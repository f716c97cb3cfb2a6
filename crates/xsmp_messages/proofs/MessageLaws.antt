-- Every message is decoded where it is spelled, and every refusal has its cause.
use Rattle.std.proofs.Common.{◌≡◌, ℕ, Bool, List, [], ◌∷◌, ◌++◌, Option, Result, Ok, Err, ◌∙◌, refl, slice_index}
use Rattle.ice_values.specs.Cells.{Cells, byte, free, Begins}
use Rattle.ice_values.specs.Fields.{ErrorFields, spelling, bool_number, severity_number}
use Rattle.ice_values.specs.Reading.{nothing_at, after_at, Exact}
use Rattle.ice_values.specs.Frames.{◌>>=◌, body_at, means_at, both_at, bool_meaning, error_at}
use Rattle.ice_values.specs.Saves.{kind_number, kind_meaning, style_number, style_meaning, dialog_number}
use Rattle.ice_values.specs.declared.numbers.Endian.{Endian}
use Rattle.ice_values.specs.declared.numbers.Endian.TheVariants.{Lsb, Msb}
use Rattle.ice_values.specs.declared.refusals.DecodeRefusal.{DecodeRefusal}
use Rattle.ice_values.specs.declared.saves.SaveKind.{SaveKind}
use Rattle.ice_values.specs.declared.saves.SaveStyle.{SaveStyle}
use Rattle.ice_values.proofs.FieldLaws.{after, nothing_exact}
use Rattle.ice_values.proofs.HeaderLaws.{Header, own_first, first_own}
use Rattle.ice_values.proofs.BodyLaws.{Whole, whole, bind_length}
use Rattle.ice_values.proofs.CodecLaws.{Row, plain_row, meant_row}
use Rattle.ice_values.proofs.EnumLaws.{IsEnum, Means, answered_as, means_one, means_both, kind_enum, style_enum, bool_enum}
use Rattle.ice_values.proofs.ErrorLaws.{SpellsError, HasErrorForm, error_answered, error_again, error_formed}
use Rattle.ice_values.proofs.ChoiceLaws.{Opens, Have, form_of, have_of, spelled_of}
use Rattle.xsmp_messages.specs.Messages.{minor_of, shape, enumerated, Spells, HasForm}
use Rattle.xsmp_messages.specs.Reading.{valued_at, flagged_at, save_yourself_at, save_yourself_request_at, xsmp_error_at}
use Rattle.xsmp_messages.specs.declared.message.XsmpMessage.{XsmpMessage}
use Rattle.xsmp_messages.specs.declared.message.XsmpMessage.TheVariants.{Error, SaveYourself, SaveYourselfRequest, InteractRequest, InteractDone, SaveYourselfDone}

-- what is shown of a message whose minor opcode is read so
abbrev pub RowOf : Endian → ℕ → List ℕ → XsmpMessage → Result XsmpMessage DecodeRefusal → Type 0
RowOf e opcode bytes m answer = Row (λ m. Spells e opcode m bytes) (λ m. HasForm e opcode m bytes) enumerated bytes (Header e opcode (minor_of m) bytes) m answer

-- ---- a body that is one value

module _ {X : Type 0} (cells : X → Cells) (Fits : X → Type 0) (read : List ℕ → Option (X × List ℕ)) (exact : Exact cells Fits read) (e : Endian) (opcode minor : ℕ) (make : X → XsmpMessage) (bytes : List ℕ) where
  abbrev IsBody : X → Type 0
  IsBody x = Fits x × Begins (spelling e opcode minor (free 2) (cells x)) bytes []

  pub valued : (x : X) → ((x : X) → IsBody x → Spells e opcode (make x) bytes) → (Spells e opcode (make x) bytes → IsBody x) → (HasForm e opcode (make x) bytes → IsBody x)
      → Row (λ m. Spells e opcode m bytes) (λ m. HasForm e opcode m bytes) enumerated bytes (Header e opcode minor bytes) (make x) (valued_at read make bytes)
  unfolding valued_at
  valued x to of of_form =
      plain_row (λ m. Spells e opcode m bytes) (λ m. HasForm e opcode m bytes) enumerated bytes e opcode minor (λ x. free 2) cells Fits (body_at read) (whole cells Fits read e opcode minor exact) make (make x) to (λ s. (x, of s, refl)) (λ f. (x, of_form f))

-- ---- no body, and an enumerated byte in the header

nothing_law : (e : Endian) (opcode minor : ℕ) → Whole e opcode minor (λ x. free 2) (λ x. []) (λ x. Unit {0}) (body_at nothing_at)
nothing_law e opcode minor = whole (λ x. []) (λ x. Unit {0}) nothing_at e opcode minor nothing_exact

module _ {A : Type 0} (meaning : ℕ → Option A) (number : A → ℕ) (k : ℕ) (law : IsEnum meaning number k) (e : Endian) (opcode minor : ℕ) (make : A → XsmpMessage) (bytes : List ℕ) where
  abbrev Begin : Cells → Type 0
  Begin own = Begins (spelling e opcode minor own []) bytes []

  pub flagged : (a : A) → ((a : A) → Begin (byte (number a) ++ free 1) → Spells e opcode (make a) bytes) → (Begin (free 2) → HasForm e opcode (make a) bytes × (enumerated (make a) ≡ (2, k) ∷ []))
      → (Spells e opcode (make a) bytes → Begin (byte (number a) ++ free 1)) → (HasForm e opcode (make a) bytes → Begin (free 2))
      → Row (λ m. Spells e opcode m bytes) (λ m. HasForm e opcode m bytes) enumerated bytes (Header e opcode minor bytes) (make a) (flagged_at meaning make bytes)
  unfolding flagged_at
  flagged a to forms of of_form =
      meant_row (λ m. Spells e opcode m bytes) (λ m. HasForm e opcode m bytes) enumerated bytes e opcode minor (λ x. free 2) (λ x. []) (λ x. Unit {0}) (body_at nothing_at) (nothing_law e opcode minor)
      ((2, k) ∷ []) (λ a bytes. slice_index bytes 2 ≡ number a) (λ bytes. means_at meaning bytes 2) (means_one meaning number k 2 law) (λ x a. make a) (make a)
      (λ x b body at. to b (own_first e opcode minor [] bytes (number b) at body.1)) (λ x body. let form = forms body.1 in (make a, form.0, form.1))
      (λ s. let own = first_own e opcode minor [] bytes (number a) (of s) in (tt, a, (tt, own.1), own.0, refl)) (λ f. (tt, (tt, of_form f)))

-- ---- the two messages that ask for a save

-- 8 bytes that are read by their places
unit_law : (e : Endian) (opcode minor : ℕ) → Whole e opcode minor (λ x. free 2) (λ x. free 8 ++ []) (λ x. Unit {0}) (body_at (after_at 8 nothing_at))
unit_law e opcode minor = whole (λ x. free 8 ++ []) (λ x. Unit {0}) (after_at 8 nothing_at) e opcode minor (after 8 (λ x. []) (λ x. Unit {0}) nothing_at nothing_exact)

abbrev pub Asked : Type 0
Asked = (SaveKind × Bool) × (SaveStyle × Bool)

abbrev pub save_of : Asked → XsmpMessage
save_of x = SaveYourself x.0.0 x.0.1 x.1.0 x.1.1

abbrev pub request_of : Asked × Bool → XsmpMessage
request_of x = SaveYourselfRequest x.0.0.0 x.0.0.1 x.0.1.0 x.0.1.1 x.1

abbrev asked_at : List ℕ → Result Asked DecodeRefusal
asked_at = both_at (both_at (λ bytes. means_at kind_meaning bytes 8) (λ bytes. means_at bool_meaning bytes 9)) (both_at (λ bytes. means_at style_meaning bytes 10) (λ bytes. means_at bool_meaning bytes 11))

abbrev asked_of_all_at : List ℕ → Result (Asked × Bool) DecodeRefusal
asked_of_all_at = both_at asked_at (λ bytes. means_at bool_meaning bytes 12)

abbrev paired : {A B : Type 0} → Result A DecodeRefusal → Result B DecodeRefusal → Result (A × B) DecodeRefusal
paired a b = a >>= λ x. b >>= λ y. Ok (x, y)

-- read one after the other, and read as pairs of pairs
four_are : {A B C D : Type 0} (a : Result A DecodeRefusal) (b : Result B DecodeRefusal) (c : Result C DecodeRefusal) (d : Result D DecodeRefusal) (then_do : A → B → C → D → Result XsmpMessage DecodeRefusal)
    → (a >>= λ x. b >>= λ y. c >>= λ z. d >>= λ w. then_do x y z w) ≡ (paired (paired a b) (paired c d) >>= λ x. then_do x.0.0 x.0.1 x.1.0 x.1.1)
four_are (Err r) b c d then_do = refl
four_are (Ok x) (Err r) c d then_do = refl
four_are (Ok x) (Ok y) (Err r) d then_do = refl
four_are (Ok x) (Ok y) (Ok z) (Err r) then_do = refl
four_are (Ok x) (Ok y) (Ok z) (Ok w) then_do = refl

one_more : {A B : Type 0} (a : Result A DecodeRefusal) (b : Result B DecodeRefusal) (then_do : A → B → Result XsmpMessage DecodeRefusal) → (a >>= λ x. b >>= λ y. then_do x y) ≡ (paired a b >>= λ p. then_do p.0 p.1)
one_more (Err r) b then_do = refl
one_more (Ok x) (Err r) then_do = refl
one_more (Ok x) (Ok y) then_do = refl

after_end : {X : Type 0} (r : Result X DecodeRefusal) (f g : Result XsmpMessage DecodeRefusal) → f ≡ g → (r >>= λ x. f) ≡ (r >>= λ x. g)
after_end (Err r) f g e = refl
after_end (Ok x) f g e = e

save_is : (bytes : List ℕ) → save_yourself_at bytes ≡ (body_at (after_at 8 nothing_at) bytes >>= λ x. asked_at bytes >>= λ y. Ok (save_of y))
unfolding save_yourself_at both_at
save_is bytes = after_end (body_at (after_at 8 nothing_at) bytes) _ _ (four_are (means_at kind_meaning bytes 8) (means_at bool_meaning bytes 9) (means_at style_meaning bytes 10) (means_at bool_meaning bytes 11) (λ k s t f. Ok (SaveYourself k s t f)))

request_is : (bytes : List ℕ) → save_yourself_request_at bytes ≡ (body_at (after_at 8 nothing_at) bytes >>= λ x. asked_of_all_at bytes >>= λ y. Ok (request_of y))
unfolding save_yourself_request_at both_at
request_is bytes =
    after_end (body_at (after_at 8 nothing_at) bytes) _ _
    (four_are (means_at kind_meaning bytes 8) (means_at bool_meaning bytes 9) (means_at style_meaning bytes 10) (means_at bool_meaning bytes 11) (λ k s t f. means_at bool_meaning bytes 12 >>= λ g. Ok (SaveYourselfRequest k s t f g))
    ∙ one_more (asked_at bytes) (means_at bool_meaning bytes 12) (λ x g. Ok (SaveYourselfRequest x.0.0 x.0.1 x.1.0 x.1.1 g)))

abbrev HasAsked : Asked → List ℕ → Type 0
HasAsked x bytes = ((slice_index bytes 8 ≡ kind_number x.0.0) × (slice_index bytes 9 ≡ bool_number x.0.1)) × ((slice_index bytes 10 ≡ style_number x.1.0) × (slice_index bytes 11 ≡ bool_number x.1.1))

asked_means : Means ((8, 3) ∷ (9, 2) ∷ (10, 3) ∷ (11, 2) ∷ []) HasAsked asked_at
asked_means =
    means_both ((8, 3) ∷ (9, 2) ∷ []) ((10, 3) ∷ (11, 2) ∷ []) (λ x bytes. (slice_index bytes 8 ≡ kind_number x.0) × (slice_index bytes 9 ≡ bool_number x.1)) (λ x bytes. (slice_index bytes 10 ≡ style_number x.0) × (slice_index bytes 11 ≡ bool_number x.1))
    (both_at (λ bytes. means_at kind_meaning bytes 8) (λ bytes. means_at bool_meaning bytes 9)) (both_at (λ bytes. means_at style_meaning bytes 10) (λ bytes. means_at bool_meaning bytes 11))
    (means_both ((8, 3) ∷ []) ((9, 2) ∷ []) (λ x bytes. slice_index bytes 8 ≡ kind_number x) (λ x bytes. slice_index bytes 9 ≡ bool_number x) (λ bytes. means_at kind_meaning bytes 8) (λ bytes. means_at bool_meaning bytes 9)
    (means_one kind_meaning kind_number 3 8 kind_enum) (means_one bool_meaning bool_number 2 9 bool_enum))
    (means_both ((10, 3) ∷ []) ((11, 2) ∷ []) (λ x bytes. slice_index bytes 10 ≡ style_number x) (λ x bytes. slice_index bytes 11 ≡ bool_number x) (λ bytes. means_at style_meaning bytes 10) (λ bytes. means_at bool_meaning bytes 11)
    (means_one style_meaning style_number 3 10 style_enum) (means_one bool_meaning bool_number 2 11 bool_enum))

abbrev HasAskedOfAll : Asked × Bool → List ℕ → Type 0
HasAskedOfAll x bytes = HasAsked x.0 bytes × (slice_index bytes 12 ≡ bool_number x.1)

asked_of_all_means : Means ((8, 3) ∷ (9, 2) ∷ (10, 3) ∷ (11, 2) ∷ (12, 2) ∷ []) HasAskedOfAll asked_of_all_at
asked_of_all_means =
    means_both ((8, 3) ∷ (9, 2) ∷ (10, 3) ∷ (11, 2) ∷ []) ((12, 2) ∷ []) HasAsked (λ x bytes. slice_index bytes 12 ≡ bool_number x) asked_at (λ bytes. means_at bool_meaning bytes 12) asked_means (means_one bool_meaning bool_number 2 12 bool_enum)

-- the bytes that stand for a message's enumerated values
unfoldable pub numbers_of : XsmpMessage → List ℕ
numbers_of (Error error) = severity_number error.severity ∷ []
numbers_of (SaveYourself kind shutdown style fast) = kind_number kind ∷ bool_number shutdown ∷ style_number style ∷ bool_number fast ∷ []
numbers_of (SaveYourselfRequest kind shutdown style fast global) = kind_number kind ∷ bool_number shutdown ∷ style_number style ∷ bool_number fast ∷ bool_number global ∷ []
numbers_of (InteractRequest dialog) = dialog_number dialog ∷ []
numbers_of (InteractDone cancel) = bool_number cancel ∷ []
numbers_of (SaveYourselfDone success) = bool_number success ∷ []
numbers_of m = []

-- the form of a message is its spelling with free bytes for them
abbrev pub HasOpenForm : Endian → ℕ → XsmpMessage → Type 0
HasOpenForm e opcode m = Opens (numbers_of m) (enumerated m) (shape byte e opcode m) (shape (λ n. free 1) e opcode m)

-- with these bytes at their places, and without them
spelled_as : (e : Endian) (opcode : ℕ) (m : XsmpMessage) → HasOpenForm e opcode m → (bytes : List ℕ) → Have (numbers_of m) (enumerated m) bytes → Begins (shape (λ n. free 1) e opcode m) bytes [] → Begins (shape byte e opcode m) bytes []
spelled_as e opcode m opens bytes have h = spelled_of (numbers_of m) (enumerated m) (shape byte e opcode m) (shape (λ n. free 1) e opcode m) opens bytes [] have h

opened_as : (e : Endian) (opcode : ℕ) (m : XsmpMessage) → HasOpenForm e opcode m → (bytes : List ℕ) → Begins (shape byte e opcode m) bytes [] → Have (numbers_of m) (enumerated m) bytes × Begins (shape (λ n. free 1) e opcode m) bytes []
opened_as e opcode m opens bytes h =
    (have_of (numbers_of m) (enumerated m) (shape byte e opcode m) (shape (λ n. free 1) e opcode m) opens bytes [] h, form_of (numbers_of m) (enumerated m) (shape byte e opcode m) (shape (λ n. free 1) e opcode m) opens bytes [] h)

pub save_opens : (e : Endian) (opcode : ℕ) (x : Asked) → HasOpenForm e opcode (save_of x)
unfolding numbers_of
save_opens Lsb opcode x = record { opens = refl; marks = refl; are_free = (refl, (refl, (refl, (refl, tt)))); are_known = (refl, (refl, (refl, (refl, tt)))) }
save_opens Msb opcode x = record { opens = refl; marks = refl; are_free = (refl, (refl, (refl, (refl, tt)))); are_known = (refl, (refl, (refl, (refl, tt)))) }

pub request_opens : (e : Endian) (opcode : ℕ) (x : Asked × Bool) → HasOpenForm e opcode (request_of x)
unfolding numbers_of
request_opens Lsb opcode x = record { opens = refl; marks = refl; are_free = (refl, (refl, (refl, (refl, (refl, tt))))); are_known = (refl, (refl, (refl, (refl, (refl, tt))))) }
request_opens Msb opcode x = record { opens = refl; marks = refl; are_free = (refl, (refl, (refl, (refl, (refl, tt))))); are_known = (refl, (refl, (refl, (refl, (refl, tt))))) }

pub save_row : (e : Endian) (opcode : ℕ) (bytes : List ℕ) (x : Asked) → RowOf e opcode bytes (save_of x) (save_yourself_at bytes)
unfolding numbers_of
save_row e opcode bytes x =
    rw (save_is bytes) (meant_row (λ m. Spells e opcode m bytes) (λ m. HasForm e opcode m bytes) enumerated bytes e opcode 3 (λ x. free 2) (λ x. free 8 ++ []) (λ x. Unit {0}) (body_at (after_at 8 nothing_at)) (unit_law e opcode 3)
    ((8, 3) ∷ (9, 2) ∷ (10, 3) ∷ (11, 2) ∷ []) HasAsked asked_at asked_means (λ y asked. save_of asked) (save_of x)
    (λ y a body has. (tt, spelled_as e opcode (save_of a) (save_opens e opcode a) bytes (has.0.0, (has.0.1, (has.1.0, (has.1.1, tt)))) body.1)) (λ y body. (save_of x, (tt, body.1), refl))
    (λ s. let is = opened_as e opcode (save_of x) (save_opens e opcode x) bytes s.1 in (tt, x, (tt, is.1), ((is.0.0, is.0.1.0), (is.0.1.1.0, is.0.1.1.1.0)), refl)) (λ f. (tt, f)))

pub request_row : (e : Endian) (opcode : ℕ) (bytes : List ℕ) (x : Asked × Bool) → RowOf e opcode bytes (request_of x) (save_yourself_request_at bytes)
unfolding numbers_of
request_row e opcode bytes x =
    rw (request_is bytes) (meant_row (λ m. Spells e opcode m bytes) (λ m. HasForm e opcode m bytes) enumerated bytes e opcode 4 (λ x. free 2) (λ x. free 8 ++ []) (λ x. Unit {0}) (body_at (after_at 8 nothing_at)) (unit_law e opcode 4)
    ((8, 3) ∷ (9, 2) ∷ (10, 3) ∷ (11, 2) ∷ (12, 2) ∷ []) HasAskedOfAll asked_of_all_at asked_of_all_means (λ y asked. request_of asked) (request_of x)
    (λ y a body has. (tt, spelled_as e opcode (request_of a) (request_opens e opcode a) bytes (has.0.0.0, (has.0.0.1, (has.0.1.0, (has.0.1.1, (has.1, tt))))) body.1)) (λ y body. (request_of x, (tt, body.1), refl))
    (λ s. let is = opened_as e opcode (request_of x) (request_opens e opcode x) bytes s.1 in (tt, x, (tt, is.1), (((is.0.0, is.0.1.0), (is.0.1.1.0, is.0.1.1.1.0)), is.0.1.1.1.1.0), refl)) (λ f. (tt, f)))

-- ---- an Error

pub error_row : (e : Endian) (opcode : ℕ) (bytes : List ℕ) (error : ErrorFields) → RowOf e opcode bytes (Error error) (xsmp_error_at e bytes)
unfolding xsmp_error_at
error_row e opcode bytes error = record {
  says = λ h.
      answered_as (SpellsError e opcode bytes) (HasErrorForm e opcode bytes) (λ error. (9, 3) ∷ []) (λ m. Spells e opcode m bytes) (λ m. HasForm e opcode m bytes) enumerated bytes (λ error. Error error) (λ error s. s) (λ error f. (f, refl)) (error_at e bytes)
      (error_answered e opcode bytes h);
  again = λ s. rw (error_again e opcode bytes error s) refl;
  formed = λ f is. error_formed e opcode bytes error f (bind_length (error_at e bytes) (λ error. Error error) is);
}
