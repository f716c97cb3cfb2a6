-- Lists of properties that are tables.
use Rattle.std.proofs.Common.{◌≡◌, ℕ, true, false, List, [], ◌∷◌, ◌++◌, map, sym, ap, ◌∙◌, subst, append_assoc}
use Rattle.std.specs.List.{list_any}
use Rattle.std.specs.Str.{bytes_eq}
use Rattle.ice_values.specs.declared.property.Property.{Property}
use Rattle.std.proofs.lemmas.List.{append-nil}
use Rattle.xsmp_properties.specs.Tables.{set_all, AreNamesDistinct}
use Rattle.xsmp_properties.proofs.TableLaws.{set_one-new}
use Rattle.checkpoint_records.proofs.DistinctLaws.{distinct_cons, distinct_tail, any_map}

-- the names of a list
abbrev names_of : List Property → List (List ℕ)
names_of items = map (λ (p : Property). p.name) items

abbrev name_of : Property → List ℕ
name_of p = p.name

pub apart_more : (name : List ℕ) (p : Property) (others : List Property) → name ≡ p.name → list_any (λ (property : Property). bytes_eq name property.name) others ≡ false → AreNamesDistinct others → AreNamesDistinct (p ∷ others)
apart_more name p others is e d =
    distinct_cons bytes_eq p.name (names_of others) (sym (any_map (bytes_eq p.name) name_of others) ∙ ap (λ (n : List ℕ). list_any (λ (property : Property). bytes_eq n property.name) others) (sym is) ∙ e) d

pub apart_less : (p : Property) (others : List Property) → AreNamesDistinct (p ∷ others) → AreNamesDistinct others
apart_less p others d = (distinct_tail bytes_eq p.name (names_of others) d).0

pub not_apart : (name : List ℕ) (p : Property) (others : List Property) → name ≡ p.name → list_any (λ (property : Property). bytes_eq name property.name) others ≡ true → AreNamesDistinct (p ∷ others) → ⊥
not_apart name p others is e d =
    let none : list_any (λ (property : Property). bytes_eq name property.name) others ≡ false = ap (λ (n : List ℕ). list_any (λ (property : Property). bytes_eq n property.name) others) is ∙ any_map (bytes_eq p.name) name_of others ∙ (distinct_tail bytes_eq p.name (names_of others) d).1 in
    let t : true ≡ false = sym e ∙ none in
    absurd cc

-- properties of different names are set one behind the other
set_all-from : (list items : List Property) → AreNamesDistinct (items ++ list) → set_all items list ≡ items ++ list
set_all-from [] items d = sym (append-nil items)
set_all-from (p ∷ list) items d =
    ap (λ (l : List Property). set_all l list) (set_one-new items p list d) ∙ set_all-from list (items ++ p ∷ []) (subst AreNamesDistinct (sym (append_assoc items (p ∷ []) list)) d) ∙ append_assoc items (p ∷ []) list

pub set_all-new : (list : List Property) → AreNamesDistinct list → set_all [] list ≡ list
set_all-new list d = set_all-from list [] d
