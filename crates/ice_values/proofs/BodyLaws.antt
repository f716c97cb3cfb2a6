-- Whole bodies are read exactly.
use Rattle.std.proofs.Common.{◌≡◌, ℕ, ◌<◌, Bool, true, false, List, [], length, drop, cond, Option, Some, None, Result, Ok, Err, refl, sym, ap, subst, arith, inl, inr}
use Rattle.std.specs.Prelude.{nat_lt, ◌⊎◌}
use Rattle.std.proofs.lemmas.Bool.{lt-ltb, ltb-true}
use Rattle.ice_values.specs.Cells.{Cells, free, Begins}
use Rattle.ice_values.specs.Fields.{spelling}
use Rattle.ice_values.specs.Frames.{◌>>=◌, cut, ended, body_at}
use Rattle.ice_values.specs.declared.numbers.Endian.{Endian}
use Rattle.ice_values.specs.declared.refusals.DecodeRefusal.{DecodeRefusal}
use Rattle.ice_values.specs.declared.refusals.DecodeRefusal.TheVariants.{BadLength}
use Rattle.ice_values.proofs.CellLaws.{IsBytes-drop}
use Rattle.ice_values.proofs.FieldLaws.{Exact}
use Rattle.ice_values.proofs.HeaderLaws.{Header, spelled, parts_of, free_own}

abbrev done : {A : Type 0} → A → Result A DecodeRefusal
done x = Ok x

pub ok_is : {A : Type 0} (x y : A) → done x ≡ done y → x ≡ y
ok_is x y e = cc

pub err_is : {B : Type 0} (c d : DecodeRefusal) → ◌≡◌ {A = Result B DecodeRefusal} (Err c) (Err d) → c ≡ d
err_is c d e = cc

pub ok_not_err : {A : Type 0} (x : A) (d : DecodeRefusal) → ◌≡◌ {A = Result A DecodeRefusal} (Ok x) (Err d) → ⊥
ok_not_err x d e = absurd cc

pub err_not_ok : {A : Type 0} (d : DecodeRefusal) (x : A) → ◌≡◌ {A = Result A DecodeRefusal} (Err d) (Ok x) → ⊥
err_not_ok d x e = absurd cc

pub bind_ok : {A B : Type 0} (r : Result A DecodeRefusal) (f : A → Result B DecodeRefusal) (y : B) → (r >>= f) ≡ Ok y → (x : A) × (r ≡ Ok x) × (f x ≡ Ok y)
bind_ok (Ok x) f y e = (x, refl, e)
bind_ok (Err d) f y e = absurd cc

pub bind_length : {A B : Type 0} (r : Result A DecodeRefusal) (make : A → B) → (r >>= λ x. Ok (make x)) ≡ Err BadLength → r ≡ Err BadLength
bind_length (Ok x) make e = absurd cc
bind_length (Err d) make e = let same : d ≡ BadLength = cc in ap (λ (d : DecodeRefusal). Err d) same

ended_cases : {A : Type 0} (rest : List ℕ) (x : A) (b : Bool) (r : Result A DecodeRefusal) → nat_lt (length rest) 8 ≡ b → (◌≡◌ {A = Result A DecodeRefusal} ((cond b (Ok tt) (Err BadLength)) >>= λ (end : Unit {0}). Ok x) r)
    → ((length rest < 8) × (r ≡ Ok x)) ⊎ (r ≡ Err BadLength)
ended_cases rest x true r is e = inl (ltb-true (length rest) 8 is, sym e)
ended_cases rest x false r is e = inr (sym e)

-- what reading a whole body may answer
body_cases : {X : Type 0} (read : List ℕ → Option (X × List ℕ)) (bytes : List ℕ) (r : Result X DecodeRefusal) → body_at read bytes ≡ r
    → ((y : X × List ℕ) × (read (drop 8 bytes) ≡ Some y) × (length y.1 < 8) × (r ≡ Ok y.0)) ⊎ (r ≡ Err BadLength)
unfolding body_at cut ended
body_cases {X} read bytes r e = cases (read (drop 8 bytes)) refl e
  where
    cases : (o : Option (X × List ℕ)) → read (drop 8 bytes) ≡ o → (cut o >>= λ x. ended x.1 >>= λ end. Ok x.0) ≡ r
        → ((y : X × List ℕ) × (read (drop 8 bytes) ≡ Some y) × (length y.1 < 8) × (r ≡ Ok y.0)) ⊎ (r ≡ Err BadLength)
    cases None is e = inr (sym e)
    cases (Some y) is e = elim (ended_cases y.1 y.0 (nat_lt (length y.1) 8) r refl e) [ inl h ↦ inl (y, is, h.0, h.1) | inr h ↦ inr h ]

-- A reader of frames takes the spellings of what fits, and refuses by BadLength alone.
pub record Whole {X : Type 0} (e : Endian) (opcode minor : ℕ) (own body : X → Cells) (Fits : X → Type 0) (read : List ℕ → Result X DecodeRefusal) : Type 0 where
  pub takes : (bytes : List ℕ) (x : X) → Header e opcode minor bytes → read bytes ≡ Ok x → Fits x × Begins (spelling e opcode minor (own x) (body x)) bytes []
  pub again : (bytes : List ℕ) (x : X) → Fits x → Begins (spelling e opcode minor (own x) (body x)) bytes [] → read bytes ≡ Ok x
  pub cuts : (bytes : List ℕ) (d : DecodeRefusal) → read bytes ≡ Err d → d ≡ BadLength

-- a body after two free bytes
pub whole : {X : Type 0} (cells : X → Cells) (Fits : X → Type 0) (read : List ℕ → Option (X × List ℕ)) (e : Endian) (opcode minor : ℕ) → Exact cells Fits read → Whole e opcode minor (λ x. free 2) cells Fits (body_at read)
unfolding body_at cut ended
whole {X} cells Fits read e opcode minor exact = record {
  takes = λ bytes x h is. elim (body_cases read bytes (Ok x) is) [
    | inl got ↦
        let same : got.0.0 ≡ x = ok_is got.0.0 x (sym got.3) in
        let part = exact.takes (drop 8 bytes) got.0.0 got.0.1 (IsBytes-drop 8 bytes h.fits) got.1 in
        subst (λ (y : X). Fits y × Begins (spelling e opcode minor (free 2) (cells y)) bytes []) same
        (part.1, spelled e opcode minor (free 2) (cells got.0.0) bytes got.0.1 h (free_own bytes h.frame.header) part.0 got.2)
    | inr none ↦ absurd (ok_not_err x BadLength none)
  ];
  again = λ bytes x fits h.
      let parts = parts_of e opcode minor (free 2) (cells x) bytes refl h in
      let short : length parts.0 < 8 = omega (arith, parts.1.left) in
      rw (exact.again (drop 8 bytes) x parts.0 fits parts.1.body_at, lt-ltb (length parts.0) 8 short) refl;
  cuts = λ bytes d is. elim (body_cases read bytes (Err d) is) [
    | inl got ↦ absurd (err_not_ok d got.0.0 got.3)
    | inr none ↦ err_is {B = X} d BadLength none
  ];
}
