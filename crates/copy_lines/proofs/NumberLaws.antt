-- What follows the name of a file and a dot, and which numbers the copies have.
use Rattle.std.proofs.Common.{◌≡◌, ◌≢◌, ◌<◌, ◌≤◌, ◌^◌, ◌+◌, ◌∙◌, ◌⊎◌, ℕ, List, [], ◌∷◌, ◌++◌, Bor, Option, None, Some, Result, Ok, Err, IfOk, MatchOption, ap, arith, drop, get_or, inl, inr, length, map, refl, subst, sym, take}
use Rattle.std.specs.Fmt.{decimal}
use Rattle.std.proofs.lemmas.Fmt.{decimal_injective}
use Rattle.std.proofs.lemmas.List.{append_cancel_left, map-append, take_more}
use Rattle.std.proofs.lemmas.List.Elements.{Contains-append_left, Contains-push, Contains-push_cases}
use Rattle.copy_lines.specs.Numbers.{IsCopy, IsHighest, Lies}

-- Where the name isn't in front, nothing follows it.
pub not_behind : (entry name bytes front : List ℕ) → bytes ≡ entry → front ≡ name → ((rest : List ℕ) → bytes ≢ front ++ rest) → (rest : List ℕ) → entry ≢ name ++ (46 ∷ rest)
not_behind entry name bytes front is are none rest e = none (46 ∷ rest) (is ∙ e ∙ ap (λ (l : List ℕ). l ++ (46 ∷ rest)) (sym are))

-- What follows the name begins with a dot, or nothing follows it and a dot.
pub parted : (entry name rest : List ℕ) (r : Option (Bor (List ℕ))) → entry ≡ name ++ rest → MatchOption r ((more : List ℕ) → rest ≢ (46 ∷ []) ++ more) (λ x. rest ≡ (46 ∷ []) ++ x.now) → MatchOption r ((more : List ℕ) → entry ≢ name ++ (46 ∷ more)) (λ x. entry ≡ name ++ (46 ∷ x.now))
parted entry name rest None is none = λ more e. none more (append_cancel_left name rest (46 ∷ more) (sym is ∙ e))
parted entry name rest (Some x) is some = is ∙ ap (λ (l : List ℕ). name ++ l) some

-- An entry without a number of 32 bits behind the dot is no copy.
pub no_copy : (name entry digits : List ℕ) → entry ≡ name ++ (46 ∷ digits) → ((n : ℕ) → 0 < n → n < 2 ^ 32 → digits ≢ decimal n) → (n : ℕ) → ¬ (IsCopy name entry n)
no_copy name entry digits is none n copy = none n copy.some copy.small (ap (λ (l : List ℕ). drop 1 l) (append_cancel_left name (46 ∷ digits) (46 ∷ decimal n) (sym is ∙ copy.is)))

pub a_copy : (name entry digits : List ℕ) (n : ℕ) → entry ≡ name ++ (46 ∷ digits) → 0 < n → n < 2 ^ 32 → digits ≡ decimal n → IsCopy name entry n
a_copy name entry digits n is some small same = record { is = is ∙ ap (λ (l : List ℕ). name ++ (46 ∷ l)) same; some = some; small = small }

-- the same of what reading the number answers
pub numbered : (E : Type 0) (name entry digits : List ℕ) (r : Result (Option ℕ) E) → entry ≡ name ++ (46 ∷ digits) → IfOk r (λ number. MatchOption number ((n : ℕ) → 0 < n → n < 2 ^ 32 → digits ≢ decimal n) (λ n. (0 < n) × (n < 2 ^ 32) × (digits ≡ decimal n))) → IfOk r (λ number. MatchOption number ((n : ℕ) → ¬ (IsCopy name entry n)) (IsCopy name entry))
numbered E name entry digits (Ok None) is none = no_copy name entry digits is none
numbered E name entry digits (Ok (Some n)) is some = a_copy name entry digits n is some.0 some.1 some.2
numbered E name entry digits (Err e) is none = tt

-- An entry is the copy of one number.
one_number : (name entry : List ℕ) (n m : ℕ) → IsCopy name entry n → IsCopy name entry m → n ≡ m
one_number name entry n m one two = decimal_injective n m (omega (arith, one.small)) (omega (arith, two.small)) (ap (λ (l : List ℕ). drop 1 l) (append_cancel_left name (46 ∷ decimal n) (46 ∷ decimal m) (sym one.is ∙ two.is)))

pub none_lie : (name : List ℕ) → IsHighest name [] 0
none_lie name = record { above = λ n lies. absurd (omega (arith, lies.among.1)); one = inl refl }

-- What is so of a copy among these and of this entry is so of each copy among all.
lies_push : (name : List ℕ) (seen : List (List ℕ)) (entry : List ℕ) (h n : ℕ) → IsHighest name seen h → (next : ℕ) → h ≤ next → (IsCopy name entry n → n ≤ next) → Lies name (seen ++ entry ∷ []) n → n ≤ next
lies_push name seen entry h n highest next more here lies =
    elim (Contains-push_cases seen entry lies.entry lies.among) [
      | inl among ↦ omega (arith, more, highest.above n (record { entry = lies.entry; among = among; copy = lies.copy }))
      | inr is ↦ here (subst (λ (e : List ℕ). IsCopy name e n) (sym is) lies.copy)
    ]

still_one : (name : List ℕ) (seen : List (List ℕ)) (entry : List ℕ) (h : ℕ) → (h ≡ 0) ⊎ Lies name seen h → (h ≡ 0) ⊎ Lies name (seen ++ entry ∷ []) h
still_one name seen entry h (inl none) = inl none
still_one name seen entry h (inr lies) = inr (record { entry = lies.entry; among = Contains-append_left seen (entry ∷ []) lies.entry lies.among; copy = lies.copy })

-- An entry that is no copy changes nothing.
pub not_one : (name : List ℕ) (seen : List (List ℕ)) (entry : List ℕ) (h : ℕ) → IsHighest name seen h → ((n : ℕ) → ¬ (IsCopy name entry n)) → IsHighest name (seen ++ entry ∷ []) h
not_one name seen entry h highest none = record { above = λ n. lies_push name seen entry h n highest h (omega arith) (λ copy. absurd (none n copy)); one = still_one name seen entry h highest.one }

-- Nor does one that isn't higher.
pub not_higher : (name : List ℕ) (seen : List (List ℕ)) (entry : List ℕ) (h m : ℕ) → IsHighest name seen h → IsCopy name entry m → m ≤ h → IsHighest name (seen ++ entry ∷ []) h
not_higher name seen entry h m highest copy below = record { above = λ n. lies_push name seen entry h n highest h (omega arith) (λ other. omega (arith, below, one_number name entry n m other copy)); one = still_one name seen entry h highest.one }

-- A higher one is the highest.
pub higher : (name : List ℕ) (seen : List (List ℕ)) (entry : List ℕ) (h m : ℕ) → IsHighest name seen h → IsCopy name entry m → h < m → IsHighest name (seen ++ entry ∷ []) m
higher name seen entry h m highest copy more = record { above = λ n. lies_push name seen entry h n highest m (omega (arith, more)) (λ other. omega (arith, one_number name entry n m other copy)); one = inr (record { entry = entry; among = Contains-push seen entry; copy = copy }) }

-- the entries that were seen, with one more
pub one_more : (A : Type 0) (f : A → List ℕ) (es : List A) (i : ℕ) (e : A) → i < length es → e ≡ get_or es i e → map f (take (i + 1) es) ≡ map f (take i es) ++ f e ∷ []
one_more A f es i e small is = ap (λ (l : List A). map f l) (take_more es i e small ∙ ap (λ (x : A). take i es ++ x ∷ []) (sym is)) ∙ map-append f (take i es) (e ∷ [])
