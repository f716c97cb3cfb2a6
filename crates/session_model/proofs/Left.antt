-- After the discards no more commands are pending than clients are registered, and no more than 64 are.
use Rattle.std.proofs.Common.{◌≡◌, refl, ℕ, suc, ◌≤◌, Bool, true, false, cond, not, ◌||◌, List, [], ◌∷◌, length, sym, ap, ◌∙◌, arith}
use Rattle.std.specs.Prelude.{Option, Some, IsSome, nat_eq}
use Rattle.std.specs.List.{AllByRecursion, IsDistinct, list_any}
use Rattle.std.specs.Map.{lookup}
use Rattle.std.specs.Cmp.{IsEquivalence, nat_eq_equiv}
use Rattle.std.proofs.lemmas.Bool.Decides.{nat_tests}
use Rattle.std.proofs.lemmas.Map.Steps.{length-le_from_keys}
use Rattle.owned_lists.specs.declared.commands.Command.{Command}
use Rattle.checkpoint_records.specs.Books.{same_command}
use Rattle.interact_queue.specs.Queue.{is_in}
use Rattle.discard_ledger.specs.Discards.{is_among, discard_of, without_commands, issuable}
use Rattle.session_model.specs.Reading.{Clients}
use Rattle.session_model.specs.Books.{standing}
use Rattle.session_model.proofs.Lists.{Once}
use Rattle.session_model.proofs.Sound.{or-true, or-either}
use Rattle.session_model.proofs.Ruled.{differ}
use Rattle.session_model.proofs.Pending.{command_equiv, distinct-filter, map-len}

-- A list without twins whose items are all in another is no longer

abbrev pairs : {K : Type 0} → List K → List (K × ℕ)
pairs [] = []
pairs (y ∷ ys) = (y, 0) ∷ pairs ys

paired-at : (b a : Bool) (o : Option ℕ) → (a ≡ true → IsSome o) → (b || a) ≡ true → IsSome (cond b (Some 0) o)
paired-at true a o k e = refl
paired-at false a o k e = k e

paired : {K : Type 0} (test : K → Bool) (ys : List K) → list_any test ys ≡ true → IsSome (lookup test (pairs ys))
paired test [] e = absurd (grind arith)
paired test (y ∷ ys) e = paired-at (test y) (list_any test ys) (lookup test (pairs ys)) (paired test ys) e

length-paired : {K : Type 0} (ys : List K) → length (pairs ys) ≡ length ys
length-paired [] = refl
length-paired (y ∷ ys) = ap suc (length-paired ys)

pub within-by : {K : Type 0} (eq : K → K → Bool) → IsEquivalence eq → (xs ys : List K) → IsDistinct eq xs → ((q : K) → list_any (eq q) xs ≡ true → list_any (eq q) ys ≡ true) → length xs ≤ length ys
within-by eq laws xs ys d k = omega (arith, length-le_from_keys laws xs (pairs ys) d (λ q e. paired (eq q) ys (k q e)), length-paired ys)

-- The commands that stay pending

-- the same commands are among a list or not
among-same : (q c : Command) (list : List Command) → same_command q c ≡ true → is_among q list ≡ is_among c list
among-same q c [] e = refl
among-same q c (d ∷ list) e = ap (λ (b : Bool). b || is_among q list) (command_equiv.congr q c d e) ∙ ap (λ (b : Bool). same_command c d || b) (among-same q c list e)

-- a command that passes a test which the same ones pass is kept
among-filter : (q : Command) (gone list : List Command) → is_among q gone ≡ false → is_among q list ≡ true → is_among q (without_commands gone list) ≡ true
among-filter q gone [] n e = e
among-filter q gone (c ∷ list) n e = filter-at (same_command q c) (is_among c gone) refl refl e (among-filter q gone list n) where
  filter-at : (b a : Bool) → same_command q c ≡ b → is_among c gone ≡ a → (b || is_among q list) ≡ true → (is_among q list ≡ true → is_among q (without_commands gone list) ≡ true)
      → is_among q (cond (not a) (c ∷ without_commands gone list) (without_commands gone list)) ≡ true
  filter-at true true s t e g = absurd (differ (among-same q c gone s ∙ t) n)
  filter-at true false s t e g = ap (λ (b : Bool). b || is_among q (without_commands gone list)) s
  filter-at false true s t e g = g e
  filter-at false false s t e g = ap (λ (b : Bool). same_command q c || b) (g e) ∙ or-true (same_command q c)

-- a command that is kept was there, and none of those that are gone is the same
filter-among : (q : Command) (gone list : List Command) → is_among q (without_commands gone list) ≡ true → (is_among q list ≡ true) × (is_among q gone ≡ false)
filter-among q gone [] e = absurd (grind arith)
filter-among q gone (c ∷ list) e = kept-at (is_among c gone) refl e (filter-among q gone list) where
  kept-at : (a : Bool) → is_among c gone ≡ a → is_among q (cond (not a) (c ∷ without_commands gone list) (without_commands gone list)) ≡ true → (is_among q (without_commands gone list) ≡ true → (is_among q list ≡ true) × (is_among q gone ≡ false))
      → ((same_command q c || is_among q list) ≡ true) × (is_among q gone ≡ false)
  kept-at true t e g = let k : (is_among q list ≡ true) × (is_among q gone ≡ false) = g e in (ap (λ (b : Bool). same_command q c || b) k.0 ∙ or-true (same_command q c), k.1)
  kept-at false t e g = or-either (same_command q c) (is_among q (without_commands gone list)) (λ s. (ap (λ (b : Bool). b || is_among q list) s, among-same q c gone s ∙ t))
      (λ s. let k : (is_among q list ≡ true) × (is_among q gone ≡ false) = g s in (ap (λ (b : Bool). same_command q c || b) k.0 ∙ or-true (same_command q c), k.1)) e

-- what is left after the issuable ones are gone stands in a table
left-stands : (stand pending : List Command) (q : Command) → is_among q (without_commands (issuable stand pending) pending) ≡ true → is_among q stand ≡ true
left-stands stand pending q e = stands-at (is_among q stand) refl where
  stands-at : (b : Bool) → is_among q stand ≡ b → is_among q stand ≡ true
  stands-at true s = s
  stands-at false s =
      let k : (is_among q pending ≡ true) × (is_among q (issuable stand pending) ≡ false) = filter-among q (issuable stand pending) pending e in
      absurd (differ (among-filter q stand pending s k.0) k.1)

pub left-few : (stand pending : List Command) → IsDistinct same_command pending → length (without_commands (issuable stand pending) pending) ≤ length stand
left-few stand pending d =
    within-by same_command command_equiv (without_commands (issuable stand pending) pending) stand (distinct-filter same_command (λ c. not (is_among c (issuable stand pending))) pending d) (left-stands stand pending)

pub without-none : (pending : List Command) → without_commands [] pending ≡ pending
without-none [] = refl
without-none (c ∷ pending) = ap (λ (xs : List Command). c ∷ xs) (without-none pending)

-- Registered clients are live

flips : (c : ℕ) (cs : List ℕ) → is_in c cs ≡ list_any (nat_eq c) cs
flips c [] = refl
flips c (d ∷ cs) = ap (λ (b : Bool). b || is_in c cs) (nat_eq_equiv.symm d c) ∙ ap (λ (b : Bool). nat_eq c d || b) (flips c cs)

once-all : (c : ℕ) (cs : List ℕ) → is_in c cs ≡ false → AllByRecursion (λ d. nat_eq c d ≡ false) cs
once-all c [] e = tt
once-all c (d ∷ cs) e = (grind (arith, nat_tests), once-all c cs (grind (arith, nat_tests)))

once-distinct : (cs : List ℕ) → Once cs → IsDistinct nat_eq cs
unfolding IsDistinct
once-distinct [] o = tt
once-distinct (c ∷ cs) o = (once-all c cs o.0, once-distinct cs o.1)

pub fewer-conns : (xs ys : List ℕ) → Once xs → ((c : ℕ) → is_in c xs ≡ true → is_in c ys ≡ true) → length xs ≤ length ys
fewer-conns xs ys o k = within-by nat_eq nat_eq_equiv xs ys (once-distinct xs o) (λ q e. sym (flips q ys) ∙ k q (flips q xs ∙ e))

pub few-standing : (clients : Clients) → length (standing clients) ≤ length clients.registered
few-standing clients = map-len (λ c. discard_of (clients.table c)) clients.registered
