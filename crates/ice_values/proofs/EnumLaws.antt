-- Enumerated bytes: one law for all of them, and what a message's reading answers.
use Rattle.std.proofs.Common.{◌≡◌, ℕ, ◌<◌, ◌≤◌, true, false, List, [], ◌∷◌, ◌++◌, Option, Some, None, Result, Ok, Err, cond, refl, sym, ap, ◌∙◌, subst, arith, inl, inr}
use Rattle.std.specs.Prelude.{slice_index, ◌⊎◌, eqb, ◌==◌, if◌then◌else◌}
use Rattle.std.proofs.lemmas.Bool.{lt-ltb, le-ltb, eq-eqb, ne_eqb, cases_eq, cases_lt}
use Rattle.ice_values.specs.Cells.{Cells, Begins}
use Rattle.ice_values.specs.Fields.{spelling, bool_number, order_number, severity_number}
use Rattle.ice_values.specs.Frames.{◌>>=◌, or_bad, means_at, both_at, bool_meaning, order_meaning, severity_meaning, first_wrong}
use Rattle.ice_values.specs.Saves.{kind_number, style_number, dialog_number, kind_meaning, style_meaning, dialog_meaning}
use Rattle.ice_values.specs.declared.saves.SaveKind.TheVariants.{Global, Local, Both}
use Rattle.ice_values.specs.declared.saves.SaveStyle.TheVariants.{Nothing, Errors, Any}
use Rattle.ice_values.specs.declared.saves.Dialog.TheVariants.{Error as ErrorDialog, Normal}
use Rattle.ice_values.specs.declared.numbers.Endian.{Endian}
use Rattle.ice_values.specs.declared.numbers.Endian.TheVariants.{Lsb, Msb}
use Rattle.ice_values.specs.declared.severity.Severity.TheVariants.{CanContinue, FatalToProtocol, FatalToConnection}
use Rattle.ice_values.specs.declared.refusals.DecodeRefusal.{DecodeRefusal}
use Rattle.ice_values.specs.declared.refusals.DecodeRefusal.TheVariants.{BadMinor, BadLength, BadValue, NoMemory}
use Rattle.ice_values.proofs.OptionLaws.{none_not_some, some_not_none, some_is}
use Rattle.ice_values.proofs.HeaderLaws.{Header}
use Rattle.ice_values.proofs.BodyLaws.{Whole, ok_is, err_is, ok_not_err, err_not_ok, bind_ok}

-- k numbers from 0 on have a meaning, each its own
pub record IsEnum {A : Type 0} (meaning : ℕ → Option A) (number : A → ℕ) (k : ℕ) : Type 0 where
  pub ok : (n : ℕ) (a : A) → meaning n ≡ Some a → n ≡ number a
  pub again : (a : A) → meaning (number a) ≡ Some a
  pub bad : (n : ℕ) → meaning n ≡ None → k ≤ n
  pub below : (a : A) → number a < k

-- a reading of enumerated bytes at places, which have the numbers that Has says, or the first wrong one is named
pub record Means {A : Type 0} (places : List (ℕ × ℕ)) (Has : A → List ℕ → Type 0) (mean : List ℕ → Result A DecodeRefusal) : Type 0 where
  pub takes : (bytes : List ℕ) (a : A) → mean bytes ≡ Ok a → Has a bytes × (first_wrong places bytes ≡ None)
  pub again : (bytes : List ℕ) (a : A) → Has a bytes → mean bytes ≡ Ok a
  pub bad : (bytes : List ℕ) (d : DecodeRefusal) → mean bytes ≡ Err d → (at : ℕ) × (d ≡ BadValue at 1) × (first_wrong places bytes ≡ Some at)

or_bad_ok : {A : Type 0} (o : Option A) (at : ℕ) (a : A) → or_bad o at ≡ Ok a → o ≡ Some a
or_bad_ok (Some b) at a e = ap (λ x. Some x) (ok_is b a e)
or_bad_ok None at a e = absurd (err_not_ok (BadValue at 1) a e)

or_bad_err : {A : Type 0} (o : Option A) (at : ℕ) (d : DecodeRefusal) → or_bad o at ≡ Err d → (o ≡ None) × (d ≡ BadValue at 1)
or_bad_err (Some b) at d e = absurd (ok_not_err b d e)
or_bad_err {A} None at d e = (refl, sym (err_is {B = A} (BadValue at 1) d e))

-- one enumerated byte
pub means_one : {A : Type 0} (meaning : ℕ → Option A) (number : A → ℕ) (k at : ℕ) → IsEnum meaning number k → Means ((at, k) ∷ []) (λ a bytes. slice_index bytes at ≡ number a) (λ bytes. means_at meaning bytes at)
unfolding means_at
means_one meaning number k at law = record {
  takes = λ bytes a e.
      let is = law.ok (slice_index bytes at) a (or_bad_ok (meaning (slice_index bytes at)) at a e) in
      let lt : slice_index bytes at < k = rw is (law.below a) in
      (is, rw (lt-ltb (slice_index bytes at) k lt) refl);
  again = λ bytes a is. rw (is, law.again a) refl;
  bad = λ bytes d e.
      let h = or_bad_err (meaning (slice_index bytes at)) at d e in
      (at, h.1, rw (le-ltb (slice_index bytes at) k (law.bad (slice_index bytes at) h.0)) refl);
}

first_wrong-append_none : (places others : List (ℕ × ℕ)) (bytes : List ℕ) → first_wrong places bytes ≡ None → first_wrong (places ++ others) bytes ≡ first_wrong others bytes
first_wrong-append_none [] others bytes e = refl
first_wrong-append_none (place ∷ places) others bytes e = elim (cases_lt (slice_index bytes place.0) place.1) [
  | inr le ↦ absurd (some_not_none place.0 (sym (rw (le-ltb (slice_index bytes place.0) place.1 le) refl) ∙ e))
  | inl lt ↦
      let here = lt-ltb (slice_index bytes place.0) place.1 lt in
      let rest : first_wrong places bytes ≡ None = sym (rw here refl) ∙ e in
      rw here (first_wrong-append_none places others bytes rest)
]

first_wrong-append_some : (places others : List (ℕ × ℕ)) (bytes : List ℕ) (at : ℕ) → first_wrong places bytes ≡ Some at → first_wrong (places ++ others) bytes ≡ Some at
first_wrong-append_some [] others bytes at e = absurd (none_not_some at e)
first_wrong-append_some (place ∷ places) others bytes at e = elim (cases_lt (slice_index bytes place.0) place.1) [
  | inr le ↦
      let here = le-ltb (slice_index bytes place.0) place.1 le in
      let first : ◌≡◌ {A = Option ℕ} (Some place.0) (Some at) = sym (rw here refl) ∙ e in
      rw here first
  | inl lt ↦
      let here = lt-ltb (slice_index bytes place.0) place.1 lt in
      let rest : first_wrong places bytes ≡ Some at = sym (rw here refl) ∙ e in
      rw here (first_wrong-append_some places others bytes at rest)
]

bind_err : {A B : Type 0} (r : Result A DecodeRefusal) (f : A → Result B DecodeRefusal) (d : DecodeRefusal) → (r >>= f) ≡ Err d → (r ≡ Err d) ⊎ ((x : A) × (r ≡ Ok x) × (f x ≡ Err d))
bind_err (Ok x) f d e = inr (x, refl, e)
bind_err {A} {B} (Err c) f d e = inl (ap (λ (d : DecodeRefusal). Err d) (err_is {B = B} c d e))

-- several enumerated bytes, one after the other
pub means_both : {A B : Type 0} (p q : List (ℕ × ℕ)) (HasA : A → List ℕ → Type 0) (HasB : B → List ℕ → Type 0) (a : List ℕ → Result A DecodeRefusal) (b : List ℕ → Result B DecodeRefusal) → Means p HasA a → Means q HasB b
    → Means {A = A × B} (p ++ q) (λ x bytes. HasA x.0 bytes × HasB x.1 bytes) (both_at a b)
unfolding both_at
means_both {A} {B} p q HasA HasB a b first second = record {
  takes = λ bytes z e.
      let h = bind_ok (a bytes) (λ x. b bytes >>= λ y. Ok (x, y)) z e in
      let k = bind_ok (b bytes) (λ y. Ok (h.0, y)) z h.2 in
      let front = first.takes bytes h.0 h.1 in
      let back = second.takes bytes k.0 k.1 in
      subst (λ (z : A × B). (HasA z.0 bytes × HasB z.1 bytes) × (first_wrong (p ++ q) bytes ≡ None)) (ok_is (h.0, k.0) z k.2)
      ((front.0, back.0), first_wrong-append_none p q bytes front.1 ∙ back.1);
  again = λ bytes z has. rw (first.again bytes z.0 has.0, second.again bytes z.1 has.1) refl;
  bad = λ bytes d e. elim (bind_err (a bytes) (λ x. b bytes >>= λ y. Ok (x, y)) d e) [
    | inl h ↦ let wrong = first.bad bytes d h in (wrong.0, wrong.1, first_wrong-append_some p q bytes wrong.0 wrong.2)
    | inr h ↦ elim (bind_err (b bytes) (λ y. Ok (h.0, y)) d h.2) [
      | inl k ↦ let wrong = second.bad bytes d k in (wrong.0, wrong.1, first_wrong-append_none p q bytes (first.takes bytes h.0 h.1).1 ∙ wrong.2)
      | inr k ↦ absurd (ok_not_err (h.0, k.0) d k.2)
    ]
  ];
}

-- a choice by a test of two numbers
choice : {A : Type 0} (n k : ℕ) (x y z : A) → cond (eqb n k) x y ≡ z → ((n ≡ k) × (x ≡ z)) ⊎ ((n ≡ k → ⊥) × (y ≡ z))
choice n k x y z e = elim (cases_eq n k) [
  | inl same ↦ inl (same, sym (rw (eq-eqb n k same) refl) ∙ e)
  | inr other ↦ inr (other, sym (rw (ne_eqb n k other) refl) ∙ e)
]

-- the numbers 0 and 1 alone have a meaning
two_enum : {A : Type 0} (a b : A) (number : A → ℕ) → number a ≡ 0 → number b ≡ 1 → ((x : A) → (x ≡ a) ⊎ (x ≡ b)) → IsEnum (λ n. if n == 0 then Some a else if n == 1 then Some b else None) number 2
two_enum a b number is_0 is_1 all = record {
  ok = λ n x e. elim (choice n 0 (Some a) _ (Some x) e) [
    | inl h ↦ h.0 ∙ sym is_0 ∙ ap number (some_is a x h.1)
    | inr h ↦ elim (choice n 1 (Some b) None (Some x) h.1) [ inl k ↦ k.0 ∙ sym is_1 ∙ ap number (some_is b x k.1) | inr k ↦ absurd (none_not_some x k.1) ]
  ];
  again = λ x. elim (all x) [ inl h ↦ rw (h, is_0) refl | inr h ↦ rw (h, is_1) refl ];
  bad = λ n e. elim (choice n 0 (Some a) _ None e) [
    | inl h ↦ absurd (some_not_none a h.1)
    | inr h ↦ elim (choice n 1 (Some b) None None h.1) [ inl k ↦ absurd (some_not_none b k.1) | inr k ↦ omega (arith, h.0, k.0) ]
  ];
  below = λ x. elim (all x) [ inl h ↦ rw (h, is_0) (omega arith) | inr h ↦ rw (h, is_1) (omega arith) ];
}

-- the numbers 0, 1 and 2 alone
three_enum : {A : Type 0} (a b c : A) (number : A → ℕ) → number a ≡ 0 → number b ≡ 1 → number c ≡ 2 → ((x : A) → (x ≡ a) ⊎ ((x ≡ b) ⊎ (x ≡ c)))
    → IsEnum (λ n. if n == 0 then Some a else if n == 1 then Some b else if n == 2 then Some c else None) number 3
three_enum a b c number is_0 is_1 is_2 all = record {
  ok = λ n x e. elim (choice n 0 (Some a) _ (Some x) e) [
    | inl h ↦ h.0 ∙ sym is_0 ∙ ap number (some_is a x h.1)
    | inr h ↦ elim (choice n 1 (Some b) _ (Some x) h.1) [
      | inl k ↦ k.0 ∙ sym is_1 ∙ ap number (some_is b x k.1)
      | inr k ↦ elim (choice n 2 (Some c) None (Some x) k.1) [ inl l ↦ l.0 ∙ sym is_2 ∙ ap number (some_is c x l.1) | inr l ↦ absurd (none_not_some x l.1) ]
    ]
  ];
  again = λ x. elim (all x) [ inl h ↦ rw (h, is_0) refl | inr h ↦ elim h [ inl k ↦ rw (k, is_1) refl | inr k ↦ rw (k, is_2) refl ] ];
  bad = λ n e. elim (choice n 0 (Some a) _ None e) [
    | inl h ↦ absurd (some_not_none a h.1)
    | inr h ↦ elim (choice n 1 (Some b) _ None h.1) [
      | inl k ↦ absurd (some_not_none b k.1)
      | inr k ↦ elim (choice n 2 (Some c) None None k.1) [ inl l ↦ absurd (some_not_none c l.1) | inr l ↦ omega (arith, h.0, k.0, l.0) ]
    ]
  ];
  below = λ x. elim (all x) [ inl h ↦ rw (h, is_0) (omega arith) | inr h ↦ elim h [ inl k ↦ rw (k, is_1) (omega arith) | inr k ↦ rw (k, is_2) (omega arith) ] ];
}

pub bool_enum : IsEnum bool_meaning bool_number 2
bool_enum = two_enum false true bool_number refl refl (λ x. elim x as (λ x. (x ≡ false) ⊎ (x ≡ true)) [ false ↦ inl refl | true ↦ inr refl ])

pub order_enum : IsEnum order_meaning order_number 2
order_enum = two_enum Lsb Msb order_number refl refl (λ x. elim x as (λ x. (x ≡ Lsb) ⊎ (x ≡ Msb)) [ Lsb ↦ inl refl | Msb ↦ inr refl ])

pub severity_enum : IsEnum severity_meaning severity_number 3
severity_enum =
    three_enum CanContinue FatalToProtocol FatalToConnection severity_number refl refl refl
    (λ x. elim x as (λ x. (x ≡ CanContinue) ⊎ ((x ≡ FatalToProtocol) ⊎ (x ≡ FatalToConnection))) [ CanContinue ↦ inl refl | FatalToProtocol ↦ inr (inl refl) | FatalToConnection ↦ inr (inr refl) ])

pub kind_enum : IsEnum kind_meaning kind_number 3
kind_enum = three_enum Global Local Both kind_number refl refl refl (λ x. elim x as (λ x. (x ≡ Global) ⊎ ((x ≡ Local) ⊎ (x ≡ Both))) [ Global ↦ inl refl | Local ↦ inr (inl refl) | Both ↦ inr (inr refl) ])

pub style_enum : IsEnum style_meaning style_number 3
style_enum =
    three_enum Nothing Errors Any style_number refl refl refl (λ x. elim x as (λ x. (x ≡ Nothing) ⊎ ((x ≡ Errors) ⊎ (x ≡ Any))) [ Nothing ↦ inl refl | Errors ↦ inr (inl refl) | Any ↦ inr (inr refl) ])

pub dialog_enum : IsEnum dialog_meaning dialog_number 2
dialog_enum = two_enum ErrorDialog Normal dialog_number refl refl (λ x. elim x as (λ x. (x ≡ ErrorDialog) ⊎ (x ≡ Normal)) [ ErrorDialog ↦ inl refl | Normal ↦ inr refl ])

-- ---- what reading a message answers

-- A message that is spelled, or BadLength, or BadValue with the first wrong byte of a message that has the form.
abbrev pub Answered : {M : Type 0} → (M → Type 0) → (M → Type 0) → (M → List (ℕ × ℕ)) → List ℕ → Result M DecodeRefusal → Type 0
Answered Spelled Formed places bytes (Ok m) = Spelled m
Answered Spelled Formed places bytes (Err BadMinor) = ⊥
Answered Spelled Formed places bytes (Err BadLength) = Unit {0}
Answered {M} Spelled Formed places bytes (Err (BadValue at len)) = (len ≡ 1) × ((m : M) × Formed m × (first_wrong (places m) bytes ≡ Some at))
Answered Spelled Formed places bytes (Err NoMemory) = ⊥

-- the same of a message made of what is read
pub answered_as : {M N : Type 0} (SpelledM FormedM : M → Type 0) (places_m : M → List (ℕ × ℕ)) (SpelledN FormedN : N → Type 0) (places_n : N → List (ℕ × ℕ)) (bytes : List ℕ) (make : M → N)
    → ((m : M) → SpelledM m → SpelledN (make m)) → ((m : M) → FormedM m → FormedN (make m) × (places_n (make m) ≡ places_m m))
    → (r : Result M DecodeRefusal) → Answered SpelledM FormedM places_m bytes r → Answered SpelledN FormedN places_n bytes (r >>= λ m. Ok (make m))
answered_as SpelledM FormedM places_m SpelledN FormedN places_n bytes make spells forms (Ok m) h = spells m h
answered_as SpelledM FormedM places_m SpelledN FormedN places_n bytes make spells forms (Err BadMinor) h = absurd h
answered_as SpelledM FormedM places_m SpelledN FormedN places_n bytes make spells forms (Err BadLength) h = tt
answered_as SpelledM FormedM places_m SpelledN FormedN places_n bytes make spells forms (Err NoMemory) h = absurd h
answered_as SpelledM FormedM places_m SpelledN FormedN places_n bytes make spells forms (Err (BadValue at len)) h =
    let form = forms h.1.0 h.1.1 in
    (h.0, (make h.1.0, form.0, rw form.1 h.1.2))

module _ {X : Type 0} (e : Endian) (opcode minor : ℕ) (own body : X → Cells) (Fits : X → Type 0) (read : List ℕ → Result X DecodeRefusal) (law : Whole e opcode minor own body Fits read) where
  -- of a message without enumerated bytes
  pub answered_plain : {M : Type 0} (Spelled Formed : M → Type 0) (places : M → List (ℕ × ℕ)) (bytes : List ℕ) (make : X → M) → Header e opcode minor bytes
      → ((x : X) → Fits x → Begins (spelling e opcode minor (own x) (body x)) bytes [] → Spelled (make x)) → Answered Spelled Formed places bytes (read bytes >>= λ x. Ok (make x))
  answered_plain {M} Spelled Formed places bytes make h spells = cases (read bytes) refl
    where
      cases : (r : Result X DecodeRefusal) → read bytes ≡ r → Answered Spelled Formed places bytes (r >>= λ x. Ok (make x))
      cases (Ok x) is = let got = law.takes bytes x h is in spells x got.0 got.1
      cases (Err d) is = subst (λ (d : DecodeRefusal). Answered {M = M} Spelled Formed places bytes (Err d)) (sym (law.cuts bytes d is)) tt

  -- of a message with enumerated bytes
  pub answered_meant : {M A : Type 0} (Spelled Formed : M → Type 0) (places : M → List (ℕ × ℕ)) (bytes : List ℕ) (at : List (ℕ × ℕ)) (Has : A → List ℕ → Type 0) (mean : List ℕ → Result A DecodeRefusal) → Means at Has mean
      → (make : X → A → M) → Header e opcode minor bytes
      → ((x : X) (a : A) → Fits x → Begins (spelling e opcode minor (own x) (body x)) bytes [] → Has a bytes → Spelled (make x a))
      → ((x : X) → Fits x → Begins (spelling e opcode minor (own x) (body x)) bytes [] → (m : M) × Formed m × (places m ≡ at))
      → Answered Spelled Formed places bytes (read bytes >>= λ x. mean bytes >>= λ a. Ok (make x a))
  answered_meant {M} {A} Spelled Formed places bytes at Has mean means make h spells forms = cases (read bytes) refl
    where
      meant : (x : X) → Fits x → Begins (spelling e opcode minor (own x) (body x)) bytes [] → (r : Result A DecodeRefusal) → mean bytes ≡ r → Answered Spelled Formed places bytes (r >>= λ a. Ok (make x a))
      meant x fits begins (Ok a) is = spells x a fits begins (means.takes bytes a is).0
      meant x fits begins (Err d) is =
          let wrong = means.bad bytes d is in
          let form = forms x fits begins in
          subst (λ (d : DecodeRefusal). Answered {M = M} Spelled Formed places bytes (Err d)) (sym wrong.1) (refl, (form.0, form.1, rw form.2 wrong.2))

      cases : (r : Result X DecodeRefusal) → read bytes ≡ r → Answered Spelled Formed places bytes (r >>= λ x. mean bytes >>= λ a. Ok (make x a))
      cases (Ok x) is = let got = law.takes bytes x h is in meant x got.0 got.1 (mean bytes) refl
      cases (Err d) is = subst (λ (d : DecodeRefusal). Answered {M = M} Spelled Formed places bytes (Err d)) (sym (law.cuts bytes d is)) tt

  -- what has the form isn't refused for its length
  pub formed_meant : {M A : Type 0} (bytes : List ℕ) (at : List (ℕ × ℕ)) (Has : A → List ℕ → Type 0) (mean : List ℕ → Result A DecodeRefusal) → Means at Has mean → (make : X → A → M)
      → (x : X) → Fits x → Begins (spelling e opcode minor (own x) (body x)) bytes [] → (read bytes >>= λ x. mean bytes >>= λ a. Ok (make x a)) ≡ Err BadLength → ⊥
  formed_meant {M} {A} bytes at Has mean means make x fits begins =
      rw (law.again bytes x fits begins) (λ e. elim (bind_err (mean bytes) (λ a. Ok (make x a)) BadLength e) [
        | inl h ↦ not_length (means.bad bytes BadLength h).0 (means.bad bytes BadLength h).1
        | inr h ↦ ok_not_err (make x h.0) BadLength h.2
      ])
    where
      not_length : (at : ℕ) → BadLength ≡ BadValue at 1 → ⊥
      not_length at e = absurd cc
