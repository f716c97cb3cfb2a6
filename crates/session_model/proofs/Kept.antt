-- What a client says of itself and what is kept of it stays within its limits.
use Rattle.std.proofs.Common.{◌≡◌, refl, ℕ, Bool, true, false, cond, not, List, [], ◌∷◌, map, filter, sym, subst, arith, inl, inr}
use Rattle.std.specs.List.{AllByRecursion, IsDistinct, list_any}
use Rattle.std.specs.Str.{bytes_eq}
use Rattle.std.proofs.lemmas.Bool.Decides.{nat_tests}
use Rattle.ice_values.specs.declared.property.Property.{Property}
use Rattle.xsmp_properties.specs.Tables.{is_named, set_one, set_all, without_names, IsTableFull, AreNamesDistinct}
use Rattle.xsmp_properties.proofs.TableLaws.{differs, kept-fits}
use Rattle.std.specs.Cmp.Lexicographic.{same_text}
use Rattle.checkpoint_records.specs.Rules.{IsTable}
use Rattle.session_model.specs.Tables.{is_full, set_table}

-- Tables

pub empty-table : IsTable []
unfolding IsDistinct
empty-table = record { limits = λ f. not-full f; names = tt } where
  not-full : IsTableFull [] → ⊥
  not-full (inl e) = omega arith
  not-full (inr e) = omega arith

full-test : (table : List Property) → is_full table ≡ false → ¬ (IsTableFull table)
full-test table e (inl f) = absurd (grind (arith, nat_tests))
full-test table e (inr f) = absurd (grind (arith, nat_tests))

-- the names of a list
abbrev names_of : List Property → List (List ℕ)
names_of items = map (λ (p : Property). p.name) items

-- no property of the list has this name
abbrev Lacks : List ℕ → List Property → Type 0
Lacks name items = AllByRecursion (λ other. bytes_eq name other ≡ false) (names_of items)

-- a property that is set brings no other name than its own
lacks-at : (b : Bool) (name : List ℕ) (p q : Property) (items rest : List Property) → bytes_eq name p.name ≡ false → bytes_eq name q.name ≡ false → Lacks name items → Lacks name rest → Lacks name (cond b (p ∷ items) (q ∷ rest))
lacks-at true name p q items rest e f k l = (e, k)
lacks-at false name p q items rest e f k l = (f, l)

lacks-set : (name : List ℕ) (p : Property) (items : List Property) → bytes_eq name p.name ≡ false → Lacks name items → Lacks name (set_one items p)
lacks-set name p [] e k = (e, tt)
lacks-set name p (q ∷ items) e k = lacks-at (is_named p.name q) name p q items (set_one items p) e k.0 k.1 (lacks-set name p items e k.1)

-- who lacks a name lacks it however it is spelled
lacks-same : (a b : List ℕ) (items : List Property) → bytes_eq a b ≡ true → Lacks b items → Lacks a items
lacks-same a b items e k = subst (λ (x : List ℕ). Lacks x items) (sym (same_text a b (sym e))) k

set-at : (b : Bool) (p q : Property) (items rest : List Property) → is_named p.name q ≡ b → Lacks q.name items → AreNamesDistinct items → (b ≡ false → Lacks q.name rest) → AreNamesDistinct rest → AreNamesDistinct (cond b (p ∷ items) (q ∷ rest))
unfolding IsDistinct
set-at true p q items rest e k d l r = (lacks-same p.name q.name items e k, d)
set-at false p q items rest e k d l r = (l refl, r)

names-set : (p : Property) (items : List Property) → AreNamesDistinct items → AreNamesDistinct (set_one items p)
unfolding IsDistinct
names-set p [] d = (tt, tt)
names-set p (q ∷ items) d = set-at (is_named p.name q) p q items (set_one items p) refl d.0 d.1 (λ e. lacks-set q.name p items (differs p.name q.name e) d.0) (names-set p items d.1)

names-set_all : (list items : List Property) → AreNamesDistinct items → AreNamesDistinct (set_all items list)
names-set_all [] items d = d
names-set_all (p ∷ list) items d = names-set_all list (set_one items p) (names-set p items d)

table-set-at : (b : Bool) (list table : List Property) → is_full (set_all table list) ≡ b → IsTable table → IsTable (cond b table (set_all table list))
table-set-at true list table e t = t
table-set-at false list table e t = record { limits = full-test (set_all table list) e; names = names-set_all list table t.names }

pub table-set : (list table : List Property) → IsTable table → IsTable (set_table list table)
table-set list table t = table-set-at (is_full (set_all table list)) list table refl t

lacks-kept-at : (b : Bool) (name : List ℕ) (p : Property) (rest : List Property) → bytes_eq name p.name ≡ false → Lacks name rest → Lacks name (cond b (p ∷ rest) rest)
lacks-kept-at true name p rest e k = (e, k)
lacks-kept-at false name p rest e k = k

lacks-kept : (test : Property → Bool) (name : List ℕ) (items : List Property) → Lacks name items → Lacks name (filter test items)
lacks-kept test name [] k = tt
lacks-kept test name (p ∷ items) k = lacks-kept-at (test p) name p (filter test items) k.0 (lacks-kept test name items k.1)

kept-at : (b : Bool) (p : Property) (rest : List Property) → Lacks p.name rest → AreNamesDistinct rest → AreNamesDistinct (cond b (p ∷ rest) rest)
unfolding IsDistinct
kept-at true p rest k d = (k, d)
kept-at false p rest k d = d

names-kept : (test : Property → Bool) (items : List Property) → AreNamesDistinct items → AreNamesDistinct (filter test items)
unfolding IsDistinct
names-kept test [] d = tt
names-kept test (p ∷ items) d = kept-at (test p) p (filter test items) (lacks-kept test p.name items d.0) (names-kept test items d.1)

pub table-without : (names : List (List ℕ)) (table : List Property) → IsTable table → IsTable (without_names names table)
table-without names table t = record {
  limits = kept-fits (λ p. not (list_any (λ name. is_named name p) names)) table t.limits;
  names = names-kept (λ p. not (list_any (λ name. is_named name p) names)) table t.names;
}
