-- Looking up one connection after a change of another.
use Rattle.std.proofs.Common.{◌≡◌, ◌+◌, suc, length, ap, inl, inr, ℕ, true, false, nat_eq, List, [], ◌∷◌, ◌++◌, Some, None, refl, sym, ◌∙◌, arith, if◌then◌else◌, eq-eqb}
use Rattle.std.specs.Option.{option_map, is_some}
use Rattle.std.proofs.lemmas.Bool.{cases_eq}
use Rattle.std.proofs.lemmas.Bool.Decides.{nat_tests}
use Rattle.session_engine.specs.Machine.{Connection, connection_of, changed, without}
use Rattle.session_engine.specs.Shown.{AreDistinct}

pub same : (a b : ℕ) → a ≡ b → nat_eq a b ≡ true
same a b e = eq-eqb a b e

pub other : (a b : ℕ) → (a ≡ b → ⊥) → nat_eq a b ≡ false
other a b apart = grind (arith, nat_tests)

-- only the connection with the number changes, where the change keeps its number
pub connection_of-changed : (f : Connection → Connection) → ((k : Connection) → (f k).number ≡ k.number) → (c q : ℕ) (ks : List Connection) → connection_of q (changed f c ks) ≡ (if nat_eq q c then option_map f (connection_of q ks) else connection_of q ks)
connection_of-changed f keeps c q [] = grind (arith, nat_tests)
connection_of-changed f keeps c q (k ∷ ks) =
    let rest = connection_of-changed f keeps c q ks in
    elim (cases_eq k.number c) [
      | inl at_c ↦ elim (cases_eq k.number q) [
        | inl at_q ↦ rw (same k.number c at_c, same (f k).number q (keeps k ∙ at_q), same k.number q at_q, same q c (sym at_q ∙ at_c)) refl
        | inr not_q ↦ let q_apart : q ≡ c → ⊥ = λ e. not_q (at_c ∙ sym e) in
            rw (same k.number c at_c, other (f k).number q (λ e. not_q (sym (keeps k) ∙ e)), other k.number q not_q) rest
      ]
      | inr not_c ↦ elim (cases_eq k.number q) [
        | inl at_q ↦ rw (other k.number c not_c, same k.number q at_q, other q c (λ e. not_c (at_q ∙ e))) refl
        | inr not_q ↦ rw (other k.number c not_c, other k.number q not_q) rest
      ]
    ]

pub connection_of-without : (c q : ℕ) (ks : List Connection) → connection_of q (without c ks) ≡ (if nat_eq q c then None else connection_of q ks)
connection_of-without c q [] = grind (arith, nat_tests)
connection_of-without c q (k ∷ ks) =
    let rest = connection_of-without c q ks in
    elim (cases_eq k.number c) [
      | inl at_c ↦ elim (cases_eq k.number q) [
        | inl at_q ↦ rw (same k.number c at_c, same k.number q at_q) (rest ∙ rw (same q c (sym at_q ∙ at_c)) refl)
        | inr not_q ↦ rw (same k.number c at_c, other k.number q not_q) rest
      ]
      | inr not_c ↦ elim (cases_eq k.number q) [
        | inl at_q ↦ rw (other k.number c not_c, same k.number q at_q, other q c (λ e. not_c (at_q ∙ e))) refl
        | inr not_q ↦ rw (other k.number c not_c, other k.number q not_q) rest
      ]
    ]

pub connection_of-append : (q : ℕ) (ks : List Connection) (k : Connection) → connection_of k.number ks ≡ None → connection_of q (ks ++ k ∷ []) ≡ (if nat_eq q k.number then Some k else connection_of q ks)
connection_of-append q [] k absent = elim (cases_eq q k.number) [
  | inl e ↦ rw (same q k.number e, same k.number q (sym e)) refl
  | inr apart ↦ rw (other q k.number apart, other k.number q (λ e. apart (sym e))) refl
]
connection_of-append q (x ∷ ks) k absent = elim (cases_eq x.number k.number) [
  | inl e ↦ let found : Some x ≡ None = rw (same x.number k.number e) at absent in cc
  | inr apart ↦ let rest = connection_of-append q ks k (rw (other x.number k.number apart) at absent) in
      elim (cases_eq x.number q) [
        | inl at_q ↦ rw (same x.number q at_q, other q k.number (λ e. apart (at_q ∙ e))) refl
        | inr not_q ↦ rw (other x.number q not_q) rest
      ]
]

-- how many there are, and that no number stands twice
pub length-changed : (f : Connection → Connection) (c : ℕ) (ks : List Connection) → length (changed f c ks) ≡ length ks
length-changed f c [] = refl
length-changed f c (k ∷ ks) = ap suc (length-changed f c ks)

changed_number : (f : Connection → Connection) → ((k : Connection) → (f k).number ≡ k.number) → (c : ℕ) (k : Connection) → (if nat_eq k.number c then f k else k).number ≡ k.number
changed_number f keeps c k = elim (cases_eq k.number c) [
  | inl e ↦ rw (same k.number c e) (keeps k)
  | inr apart ↦ rw (other k.number c apart) refl
]

none_changed : (f : Connection → Connection) → ((k : Connection) → (f k).number ≡ k.number) → (c q : ℕ) (ks : List Connection) → connection_of q ks ≡ None → connection_of q (changed f c ks) ≡ None
none_changed f keeps c q ks absent = elim (cases_eq q c) [
  | inl e ↦ rw (connection_of-changed f keeps c q ks, same q c e, absent) refl
  | inr apart ↦ rw (connection_of-changed f keeps c q ks, other q c apart) absent
]

pub distinct-changed : (f : Connection → Connection) → ((k : Connection) → (f k).number ≡ k.number) → (c : ℕ) (ks : List Connection) → AreDistinct ks → AreDistinct (changed f c ks)
distinct-changed f keeps c [] distinct = tt
distinct-changed f keeps c (k ∷ ks) distinct = (rw (changed_number f keeps c k) (none_changed f keeps c k.number ks distinct.0), distinct-changed f keeps c ks distinct.1)

none_without : (c q : ℕ) (ks : List Connection) → connection_of q ks ≡ None → connection_of q (without c ks) ≡ None
none_without c q ks absent = elim (cases_eq q c) [
  | inl e ↦ rw (connection_of-without c q ks, same q c e) refl
  | inr apart ↦ rw (connection_of-without c q ks, other q c apart) absent
]

pub distinct-without : (c : ℕ) (ks : List Connection) → AreDistinct ks → AreDistinct (without c ks)
distinct-without c [] distinct = tt
distinct-without c (k ∷ ks) distinct = elim (cases_eq k.number c) [
  | inl e ↦ rw (same k.number c e) (distinct-without c ks distinct.1)
  | inr apart ↦ rw (other k.number c apart) (none_without c k.number ks distinct.0, distinct-without c ks distinct.1)
]

without_absent : (c : ℕ) (ks : List Connection) → connection_of c ks ≡ None → without c ks ≡ ks
without_absent c [] absent = refl
without_absent c (k ∷ ks) absent = elim (cases_eq k.number c) [
  | inl e ↦ let found : Some k ≡ None = rw (same k.number c e) at absent in cc
  | inr apart ↦ rw (other k.number c apart) (ap (λ xs. k ∷ xs) (without_absent c ks (rw (other k.number c apart) at absent)))
]

-- a change of one that isn't there changes nothing
pub changed_absent : (f : Connection → Connection) (c : ℕ) (ks : List Connection) → connection_of c ks ≡ None → changed f c ks ≡ ks
changed_absent f c [] absent = refl
changed_absent f c (k ∷ ks) absent = elim (cases_eq k.number c) [
  | inl e ↦ let found : Some k ≡ None = rw (same k.number c e) at absent in cc
  | inr apart ↦ rw (other k.number c apart) (ap (λ xs. k ∷ xs) (changed_absent f c ks (rw (other k.number c apart) at absent)))
]

pub length-without : (c : ℕ) (ks : List Connection) → AreDistinct ks → length (without c ks) + (if is_some (connection_of c ks) then 1 else 0) ≡ length ks
length-without c [] distinct = refl
length-without c (k ∷ ks) distinct = elim (cases_eq k.number c) [
  | inl e ↦ let absent : connection_of c ks ≡ None = rw e at distinct.0 in rw (same k.number c e, without_absent c ks absent) (omega arith)
  | inr apart ↦ rw (other k.number c apart) (omega (arith, length-without c ks distinct.1))
]

pub distinct-append : (ks : List Connection) (k : Connection) → AreDistinct ks → connection_of k.number ks ≡ None → AreDistinct (ks ++ k ∷ [])
distinct-append [] k distinct absent = (refl, tt)
distinct-append (x ∷ ks) k distinct absent = elim (cases_eq x.number k.number) [
  | inl e ↦ let found : Some x ≡ None = rw (same x.number k.number e) at absent in cc
  | inr apart ↦ let rest : connection_of k.number ks ≡ None = rw (other x.number k.number apart) at absent in
      (rw (connection_of-append x.number ks k rest, other x.number k.number apart) distinct.0, distinct-append ks k distinct.1 rest)
]
