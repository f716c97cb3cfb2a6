-- Which IDs the entries of a book have.
use Rattle.std.proofs.Common.{◌≡◌, Bool, true, false, cond, ◌||◌, List, [], ◌∷◌, ◌++◌, refl, sym, ap, ◌∙◌}
use Rattle.std.specs.Prelude.{Some, find, is_some}
use Rattle.std.specs.List.{list_any}
use Rattle.checkpoint_records.specs.Books.{entries_in}
use Rattle.checkpoint_records.specs.declared.records.Entry.{Entry}
use Rattle.checkpoint_records.specs.declared.records.Named.{Named}
use Rattle.checkpoint_records.proofs.PlaceLaws.{any_in_book}

-- one is found where there is one
any-found : (test : Entry → Bool) (entries : List Entry) → list_any test entries ≡ is_some (find test entries)
any-found test [] = refl
any-found test (e ∷ entries) = found-at (test e) (any-found test entries) where
  found-at : (b : Bool) → list_any test entries ≡ is_some (find test entries) → (b || list_any test entries) ≡ is_some (cond b (Some e) (find test entries))
  found-at true k = refl
  found-at false k = k

found-in-book : (test : Entry → Bool) (entries items : List Entry) (others rest : List Named) → items ≡ entries → rest ≡ others
    → (list_any test items || list_any (λ (s : Named). list_any test s.entries) rest) ≡ is_some (find test (entries ++ entries_in others))
found-in-book test entries items others rest is_items is_rest = any_in_book test entries items others rest is_items is_rest ∙ any-found test (entries ++ entries_in others)

-- the ID is that of an entry of the chosen session,
pub kept_by_chosen : (test : Entry → Bool) (entries items : List Entry) (others : List Named) (result : Bool) → items ≡ entries → result ≡ list_any test items → true ≡ list_any test items → result ≡ is_some (find test (entries ++ entries_in others))
kept_by_chosen test entries items others result is_items is some =
    is ∙ sym some ∙ ap (λ (b : Bool). b || list_any (λ (s : Named). list_any test s.entries) others) some ∙ found-in-book test entries items others others is_items refl

-- or of none of them, and is kept where it is that of one of another's
pub kept_by_other : (test : Entry → Bool) (entries items : List Entry) (others rest : List Named) (result : Bool) → items ≡ entries → rest ≡ others → false ≡ list_any test items → result ≡ list_any (λ (s : Named). list_any test s.entries) rest
    → result ≡ is_some (find test (entries ++ entries_in others))
kept_by_other test entries items others rest result is_items is_rest none is =
    is ∙ ap (λ (b : Bool). b || list_any (λ (s : Named). list_any test s.entries) rest) none ∙ found-in-book test entries items others rest is_items is_rest
