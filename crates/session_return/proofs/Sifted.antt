-- Commands that are left where others are gone.
use Rattle.std.proofs.Common.{◌≡◌, ◌≤◌, Bool, true, false, cond, not, ◌&&◌, List, [], ◌∷◌, filter, length, refl, sym, ap, ap₂, arith}
use Rattle.std.specs.List.{AllByRecursion, IsDistinct, list_any}
use Rattle.std.specs.Str.{bytes_eq}
use Rattle.std.specs.Cmp.Lexicographic.{pointwise}
use Rattle.std.proofs.lemmas.Map.Keys.{IsDistinct-cons, IsDistinct-head, IsDistinct-tail}
use Rattle.std.proofs.lemmas.Map.Views.{any-filter_same}
use lib.Pointwise.{bytes_decides, pointwise_decides}
use Rattle.owned_lists.specs.declared.commands.Command.{Command}
use Rattle.checkpoint_records.specs.Books.{same_command}
use Rattle.discard_ledger.specs.Discards.{is_among, without_commands}

-- ---- items that pass a test

module _ {A : Type 0} (test : A → Bool) where
  pub all_left : (P : A → Type 0) (xs : List A) → AllByRecursion P xs → AllByRecursion P (filter test xs)
  all_left P [] h = tt
  all_left P (x ∷ xs) h = by (test x) (all_left P xs h.1)
    where
      by : (b : Bool) → AllByRecursion P (filter test xs) → AllByRecursion P (cond b (x ∷ filter test xs) (filter test xs))
      by true rest = (h.0, rest)
      by false rest = rest

  pub passed : (xs : List A) → AllByRecursion (λ x. test x ≡ true) (filter test xs)
  passed [] = tt
  passed (x ∷ xs) = by (test x) refl (passed xs)
    where
      by : (b : Bool) → test x ≡ b → AllByRecursion (λ y. test y ≡ true) (filter test xs) → AllByRecursion (λ y. test y ≡ true) (cond b (x ∷ filter test xs) (filter test xs))
      by true e rest = (e, rest)
      by false e rest = rest

  pub distinct_left : (eq : A → A → Bool) (xs : List A) → IsDistinct eq xs → IsDistinct eq (filter test xs)
  distinct_left eq [] d = d
  distinct_left eq (x ∷ xs) d = by (test x) (distinct_left eq xs (IsDistinct-tail eq x xs d))
    where
      by : (b : Bool) → IsDistinct eq (filter test xs) → IsDistinct eq (cond b (x ∷ filter test xs) (filter test xs))
      by true rest = IsDistinct-cons eq x (filter test xs) (all_left (λ k. eq x k ≡ false) xs (IsDistinct-head eq x xs d)) rest
      by false rest = rest

  pub no_more : (xs : List A) → length (filter test xs) ≤ length xs
  no_more [] = omega arith
  no_more (x ∷ xs) = by (test x) (no_more xs)
    where
      by : (b : Bool) → length (filter test xs) ≤ length xs → length (cond b (x ∷ filter test xs) (filter test xs)) ≤ length (x ∷ xs)
      by true rest = omega (arith, rest)
      by false rest = omega (arith, rest)

-- ---- commands of which others are gone

-- the same command is among them or isn't
same_among : (command other : Command) (gone : List Command) → same_command command other ≡ true → not (is_among other gone) ≡ not (is_among command gone)
same_among command other gone same = ap (λ (words : List (List _)). not (list_any (λ (c : Command). pointwise bytes_eq words c.words) gone)) (sym ((pointwise_decides bytes_decides command.words other.words).0 same))

pub among_left : (command : Command) (gone commands : List Command) → is_among command (without_commands gone commands) ≡ (not (is_among command gone) && is_among command commands)
among_left command gone commands = any-filter_same (same_command command) (λ (c : Command). not (is_among c gone)) (not (is_among command gone)) (λ other same. same_among command other gone same) commands

-- where the same commands are gone, the same are left
pub left_alike : (gone other : List Command) → ((command : Command) → is_among command gone ≡ is_among command other) → (commands : List Command) → without_commands gone commands ≡ without_commands other commands
left_alike gone other same [] = refl
left_alike gone other same (c ∷ commands) = ap₂ (λ (b : Bool) (rest : List Command). cond (not b) (c ∷ rest) rest) (same c) (left_alike gone other same commands)

-- once more changes nothing
pub left_again : (gone commands : List Command) → without_commands gone (without_commands gone commands) ≡ without_commands gone commands
left_again gone [] = refl
left_again gone (c ∷ commands) = by (is_among c gone) refl (left_again gone commands)
  where
    by : (b : Bool) → is_among c gone ≡ b → without_commands gone (without_commands gone commands) ≡ without_commands gone commands
        → without_commands gone (cond (not b) (c ∷ without_commands gone commands) (without_commands gone commands)) ≡ cond (not b) (c ∷ without_commands gone commands) (without_commands gone commands)
    by true e rest = rest
    by false e rest = ap₂ (λ (b : Bool) (left : List Command). cond (not b) (c ∷ left) left) e rest

-- the commands that go first are those that would go at all, and none goes after them
pub left_twice : (first second gone commands : List Command) → AllByRecursion (λ c. (is_among c second ≡ false) × (is_among c first ≡ is_among c gone)) commands
    → without_commands second (without_commands first commands) ≡ without_commands gone commands
left_twice first second gone [] h = refl
left_twice first second gone (c ∷ commands) h = by (is_among c first) (is_among c gone) h.0.1 (left_twice first second gone commands h.1)
  where
    by : (b g : Bool) → b ≡ g → without_commands second (without_commands first commands) ≡ without_commands gone commands
        → without_commands second (cond (not b) (c ∷ without_commands first commands) (without_commands first commands)) ≡ cond (not g) (c ∷ without_commands gone commands) (without_commands gone commands)
    by true true e rest = rest
    by true false e rest = absurd cc
    by false true e rest = absurd cc
    by false false e rest = ap₂ (λ (b : Bool) (left : List Command). cond (not b) (c ∷ left) left) h.0.0 rest
