-- Which DiscardCommand a table has, and when it goes on standing.
use Rattle.std.proofs.Common.{◌≡◌, refl, ℕ, Bool, true, false, cond, not, ◌&&◌, ◌||◌, List, [], ◌∷◌, sym, ap, subst, ◌∙◌, arith, inl, inr}
use Rattle.std.specs.Prelude.{Option, Some, None, codes, option_and_then, if◌then◌else◌, ◌⊎◌}
use Rattle.std.specs.List.{list_any}
use Rattle.std.specs.Str.{bytes_eq}
use Rattle.std.specs.Cmp.{IsEquivalence, nat_eq_equiv}
use Rattle.std.proofs.lemmas.Bool.{true≢false}
use Rattle.std.specs.Cmp.Lexicographic.{same_text, lists_equiv}
use Rattle.owned_lists.specs.declared.commands.Command.{Command}
use Rattle.ice_values.specs.declared.property.Property.{Property}
use Rattle.xsmp_properties.specs.Tables.{is_named, find_property, set_one, set_all, without_names}
use Rattle.xsmp_properties.specs.Readers.{values_of_kind, values_of, are_words, command_with, directory_of, environment_of}
use Rattle.checkpoint_records.specs.Books.{same_command}
use Rattle.discard_ledger.specs.Discards.{discard_of}
use Rattle.session_model.specs.Tables.{is_same, stopped}
use Rattle.session_model.proofs.Pending.{command_equiv}

-- The property under a name

pub find-set : (name : List ℕ) (p : Property) (items : List Property) → find_property name (set_one items p) ≡ cond (is_named name p) (Some p) (find_property name items)
find-set name p [] = refl
find-set name p (q ∷ items) = set-at (is_named p.name q) refl (find-set name p items) where
  both : (b c : Bool) → b ≡ c → cond b (Some p) (find_property name items) ≡ cond b (Some p) (cond c (Some q) (find_property name items))
  both true c e = refl
  both false c e = ap (λ (b : Bool). cond b (Some q) (find_property name items)) e

  -- q has the name of p, so they fit the same names
  same : is_named p.name q ≡ true → is_named name p ≡ is_named name q
  same e = ap (λ (x : List ℕ). bytes_eq name x) (same_text p.name q.name (sym e))

  -- q has another name than p, so the name fits one of them at most
  swap : (b c : Bool) → (b ≡ true → c ≡ true → ⊥) → cond c (Some q) (cond b (Some p) (find_property name items)) ≡ cond b (Some p) (cond c (Some q) (find_property name items))
  swap true true k = absurd (k refl refl)
  swap true false k = refl
  swap false c k = refl

  apart : is_named p.name q ≡ false → is_named name p ≡ true → is_named name q ≡ true → ⊥
  apart e f g = let k : name ≡ p.name = same_text name p.name (sym f) in let l : is_named p.name q ≡ true = subst (λ (x : List ℕ). is_named x q ≡ true) k g in grind arith

  set-at : (b : Bool) → is_named p.name q ≡ b → find_property name (set_one items p) ≡ cond (is_named name p) (Some p) (find_property name items)
      → find_property name (cond b (p ∷ items) (q ∷ set_one items p)) ≡ cond (is_named name p) (Some p) (cond (is_named name q) (Some q) (find_property name items))
  set-at true e k = both (is_named name p) (is_named name q) (same e)
  set-at false e k = ap (λ (o : Option Property). cond (is_named name q) (Some q) o) k ∙ swap (is_named name p) (is_named name q) (apart e)

-- the last property of a list with this name, and what there was where there is none
abbrev pub last_named : List ℕ → List Property → Option Property → Option Property
last_named name [] o = o
last_named name (p ∷ list) o = last_named name list (cond (is_named name p) (Some p) o)

pub find-all : (name : List ℕ) (list items : List Property) → find_property name (set_all items list) ≡ last_named name list (find_property name items)
find-all name [] items = refl
find-all name (p ∷ list) items = find-all name list (set_one items p) ∙ ap (λ (o : Option Property). last_named name list o) (find-set name p items)

-- the list has the name, or it changes nothing under it
pub last-either : (name : List ℕ) (list : List Property) (o : Option Property) → (last_named name list o ≡ last_named name list None) ⊎ (last_named name list o ≡ o)
last-either name [] o = inr refl
last-either name (p ∷ list) o = either-at (is_named name p) (last-either name list o) where
  either-at : (b : Bool) → (last_named name list o ≡ last_named name list None) ⊎ (last_named name list o ≡ o)
      → (last_named name list (cond b (Some p) o) ≡ last_named name list (cond b (Some p) None)) ⊎ (last_named name list (cond b (Some p) o) ≡ o)
  either-at true k = inl refl
  either-at false k = k

-- The command in a property

abbrev words_in : Command → Option (List (List ℕ)) → Bool
words_in command None = false
words_in command (Some words) = are_words words && same_command command (record { words = words; directory = []; environment = [] })

abbrev pub tells : Command → Option Property → Bool
tells command o = words_in command (option_and_then (values_of_kind (codes "LISTofARRAY8")) o)

same-words : (command : Command) (items : List Property) (o : Option (List (List ℕ))) → is_same command (option_and_then (command_with items) o) ≡ words_in command o
same-words command items None = refl
same-words command items (Some words) = words-at (are_words words) where
  words-at : (b : Bool) → is_same command (if b then Some (record { words = words; directory = directory_of items; environment = environment_of items }) else None) ≡ (b && same_command command (record { words = words; directory = []; environment = [] }))
  words-at true = refl
  words-at false = refl

-- whether a table's DiscardCommand is the same goes by the property of this name alone
pub same-tells : (command : Command) (items : List Property) → is_same command (discard_of items) ≡ tells command (find_property (codes "DiscardCommand") items)
same-tells command items = same-words command items (values_of (codes "DiscardCommand") (codes "LISTofARRAY8") items)

-- When it goes on standing

-- a list without the name leaves what stands under it
pub find-beside : (name : List ℕ) (list items : List Property) → list_any (is_named name) list ≡ false → find_property name (set_all items list) ≡ find_property name items
find-beside name [] items e = refl
find-beside name (p ∷ list) items e = beside-at (is_named name p) refl e (find-beside name list (set_one items p)) where
  beside-at : (b : Bool) → is_named name p ≡ b → (b || list_any (is_named name) list) ≡ false
      → (list_any (is_named name) list ≡ false → find_property name (set_all (set_one items p) list) ≡ find_property name (set_one items p))
      → find_property name (set_all (set_one items p) list) ≡ find_property name items
  beside-at true n f k = absurd (true≢false f)
  beside-at false n f k = k f ∙ find-set name p items ∙ ap (λ (b : Bool). cond b (Some p) (find_property name items)) n

-- so do names that are taken out
pub find-left : (name : List ℕ) (names : List (List ℕ)) (items : List Property) → list_any (bytes_eq name) names ≡ false → find_property name (without_names names items) ≡ find_property name items
find-left name names [] e = refl
find-left name names (p ∷ items) e = left-at (list_any (λ other. is_named other p) names) refl (find-left name names items e) where
  left-at : (b : Bool) → list_any (λ other. is_named other p) names ≡ b → find_property name (without_names names items) ≡ find_property name items
      → find_property name (cond (not b) (p ∷ without_names names items) (without_names names items)) ≡ cond (is_named name p) (Some p) (find_property name items)
  left-at false n k = ap (λ (o : Option Property). cond (is_named name p) (Some p) o) k
  left-at true n k = named-at (is_named name p) refl where
    named-at : (c : Bool) → is_named name p ≡ c → find_property name (without_names names items) ≡ cond c (Some p) (find_property name items)
    named-at false f = k
    named-at true f = absurd (true≢false (sym n ∙ ap (λ (x : List ℕ). list_any (λ other. bytes_eq other x) names) (sym (same_text name p.name (sym f))) ∙ turned names ∙ e)) where
      turned : (others : List (List ℕ)) → list_any (λ other. bytes_eq other name) others ≡ list_any (bytes_eq name) others
      turned [] = refl
      turned (other ∷ others) = λ i. IsEquivalence.symm (lists_equiv nat_eq_equiv) other name i || turned others i

-- a command goes on standing where the property of its name stays
pub stands-on : (before after : List Property) → find_property (codes "DiscardCommand") after ≡ find_property (codes "DiscardCommand") before → stopped (discard_of before) (discard_of after) ≡ None
stands-on before after e = on-at (discard_of before) refl where
  on-at : (o : Option Command) → discard_of before ≡ o → stopped o (discard_of after) ≡ None
  on-at None f = refl
  on-at (Some command) f =
      let same : is_same command (discard_of after) ≡ true =
      same-tells command after ∙ ap (λ (o : Option Property). tells command o) e ∙ sym (same-tells command before) ∙ ap (is_same command) f ∙ command_equiv.refl command in
      ap (λ (b : Bool). cond b None (Some command)) same
