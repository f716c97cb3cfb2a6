-- Entries, as they are read.
use Rattle.std.proofs.Common.{◌≡◌, ℕ, ◌≤◌, Bool, true, false, ◌||◌, List, [], ◌∷◌, ◌++◌, length, Some, None, refl, sym, ap, ◌∙◌, subst, append_assoc}
use Rattle.std.specs.List.{IsDistinct, list_any}
use Rattle.std.specs.Str.{bytes_eq}
use Rattle.std.proofs.lemmas.List.{map-append}
use Rattle.std.proofs.lemmas.List.Folds.{list_any-append}
use Rattle.ice_values.specs.Cells.{zeros}
use Rattle.ice_values.specs.Properties.{array8, IsArray8, property_list, IsListed, IsProperty}
use Rattle.ice_values.specs.declared.numbers.Endian.TheVariants.{Lsb}
use Rattle.ice_values.specs.declared.property.Property.{Property}
use Rattle.ice_values.proofs.CellLaws.{zeros-append}
use Rattle.checkpoint_records.specs.Finding.{Finds, IsStuck}
use Rattle.checkpoint_records.specs.Books.{entries_in}
use Rattle.checkpoint_records.specs.Parts.{AreEntries, AreEntriesBehind}
use Rattle.checkpoint_records.specs.Rules.{ids_of, IsClientId, IsTable, IsEntry}
use Rattle.checkpoint_records.specs.Spelling.{entry_cells}
use Rattle.checkpoint_records.specs.declared.records.Entry.{Entry}
use Rattle.checkpoint_records.specs.declared.records.Named.{Named}
use Rattle.checkpoint_records.proofs.FindLaws.{nothing, found_is, none_found}
use Rattle.checkpoint_records.proofs.DistinctLaws.{all_more, all_front, all_last, any_map, distinct_more, distinct_last, distinct_front, distinct_nil}
use Rattle.checkpoint_records.proofs.SpellLaws.{id_short, table_short}

abbrev pub id_bytes : List ℕ → List ℕ
id_bytes id = zeros (array8 Lsb id)

abbrev pub IsShortId : List ℕ → Type 0
IsShortId id = IsArray8 id × (length (array8 Lsb id) ≤ 65536)

abbrev pub table_bytes : List Property → List ℕ
table_bytes items = zeros (property_list Lsb items)

abbrev pub IsShortTable : List Property → Type 0
IsShortTable items = IsListed IsProperty items × (length (property_list Lsb items) ≤ 65536)

abbrev pub entry_bytes : Entry → List ℕ
entry_bytes entry = zeros (entry_cells entry)

-- an entry is its ID and its table
pub entry_is : (entry : Entry) (rest : List ℕ) → entry_bytes entry ++ rest ≡ id_bytes entry.id ++ (table_bytes entry.table ++ rest)
entry_is entry rest = ap (λ (l : List ℕ). l ++ rest) (zeros-append (array8 Lsb entry.id) (property_list Lsb entry.table)) ∙ append_assoc (id_bytes entry.id) (table_bytes entry.table) rest

module _ (epoch : ℕ) (bytes : List ℕ) where
  -- there is no entry where there is no ID
  pub no_id : Finds id_bytes IsShortId bytes None → Finds entry_bytes (IsEntry epoch) bytes None
  no_id finds = nothing entry_bytes (IsEntry epoch) bytes (λ entry rest is_entry is.
      none_found id_bytes IsShortId bytes entry.id (table_bytes entry.table ++ rest) finds (id_short epoch entry.id is_entry.id) (is ∙ entry_is entry rest))

  module _ (id mid : List ℕ) (finds : Finds id_bytes IsShortId bytes (Some (id, mid))) where
    same_id : (entry : Entry) (rest : List ℕ) → IsEntry epoch entry → bytes ≡ entry_bytes entry ++ rest → (id ≡ entry.id) × (mid ≡ table_bytes entry.table ++ rest)
    same_id entry rest is_entry is =
        found_is id_bytes IsShortId bytes id entry.id mid (table_bytes entry.table ++ rest) finds (id_short epoch entry.id is_entry.id) (is ∙ entry_is entry rest)

    pub bad_id : ¬ (IsClientId epoch id) → Finds entry_bytes (IsEntry epoch) bytes None
    bad_id bad = nothing entry_bytes (IsEntry epoch) bytes (λ entry rest is_entry is.
        bad (subst (IsClientId epoch) (sym (same_id entry rest is_entry is).0) is_entry.id))

    pub no_table : Finds table_bytes IsShortTable mid None → Finds entry_bytes (IsEntry epoch) bytes None
    no_table none = nothing entry_bytes (IsEntry epoch) bytes (λ entry rest is_entry is.
        none_found table_bytes IsShortTable mid entry.table rest none (table_short entry.table is_entry.table.limits) (same_id entry rest is_entry is).1)

    module _ (items : List Property) (tail : List ℕ) (finds_table : Finds table_bytes IsShortTable mid (Some (items, tail))) where
      same_table : (entry : Entry) (rest : List ℕ) → IsEntry epoch entry → bytes ≡ entry_bytes entry ++ rest → (items ≡ entry.table) × (tail ≡ rest)
      same_table entry rest is_entry is =
          found_is table_bytes IsShortTable mid items entry.table tail rest finds_table (table_short entry.table is_entry.table.limits) (same_id entry rest is_entry is).1

      pub bad_table : ¬ (IsTable items) → Finds entry_bytes (IsEntry epoch) bytes None
      bad_table bad = nothing entry_bytes (IsEntry epoch) bytes (λ entry rest is_entry is.
          bad (subst IsTable (sym (same_table entry rest is_entry is).0) is_entry.table))

      pub entry_found : (table : List Property) → IsClientId epoch id → (table ≡ items) × IsTable items → Finds entry_bytes (IsEntry epoch) bytes (Some (record { id = id; table = table }, tail))
      entry_found table is_id is_table =
          let it : Entry = record { id = id; table = table } in
          let whole : bytes ≡ entry_bytes it ++ tail =
          finds.some.1 ∙ ap (λ (l : List ℕ). id_bytes id ++ l) (finds_table.some.1 ∙ ap (λ (t : List Property). table_bytes t ++ tail) (sym is_table.0)) ∙ sym (entry_is it tail) in
          record {
            some = (record { id = is_id; table = subst IsTable (sym is_table.0) is_table.1 }, whole);
            only = λ entry rest is_entry is.
                let a = same_id entry rest is_entry is in
                let b = same_table entry rest is_entry is in
                rw (is_table.0, a.0, b.0, b.1) refl;
          }

-- ---- entries one after the other

ids-more : (entries : List Entry) (entry : Entry) → ids_of (entries ++ entry ∷ []) ≡ ids_of entries ++ entry.id ∷ []
ids-more entries entry = map-append (λ (e : Entry). e.id) entries (entry ∷ [])

pub entries_more : (epoch : ℕ) (entries : List Entry) (entry : Entry) (id : List ℕ) → AreEntries epoch entries → IsEntry epoch entry → id ≡ entry.id → list_any (λ (e : Entry). bytes_eq e.id id) entries ≡ false → AreEntries epoch (entries ++ entry ∷ [])
entries_more epoch entries entry id are is_entry is_id new = record {
  each = all_more (IsEntry epoch) entries entry are.each is_entry;
  ids_differ = subst (IsDistinct bytes_eq) (sym (ids-more entries entry)) (distinct_more bytes_eq (ids_of entries) entry.id are.ids_differ
      (sym (any_map (λ (k : List ℕ). bytes_eq k entry.id) (λ (e : Entry). e.id) entries) ∙ ap (λ (k : List ℕ). list_any (λ (e : Entry). bytes_eq e.id k) entries) (sym is_id) ∙ new));
}

pub entries_less : (epoch : ℕ) (entries more : List Entry) → AreEntries epoch (entries ++ more) → AreEntries epoch entries
entries_less epoch entries more are = record {
  each = all_front (IsEntry epoch) entries more are.each;
  ids_differ = distinct_front bytes_eq (ids_of entries) (ids_of more) (subst (IsDistinct bytes_eq) (map-append (λ (e : Entry). e.id) entries more) are.ids_differ);
}

pub last_entry : (epoch : ℕ) (entries : List Entry) (entry : Entry) → AreEntries epoch (entries ++ entry ∷ []) → IsEntry epoch entry × (list_any (λ (e : Entry). bytes_eq e.id entry.id) entries ≡ false)
last_entry epoch entries entry are = (
  all_last (IsEntry epoch) entries entry are.each,
  any_map (λ (k : List ℕ). bytes_eq k entry.id) (λ (e : Entry). e.id) entries ∙ distinct_last bytes_eq (ids_of entries) entry.id (subst (IsDistinct bytes_eq) (ids-more entries entry) are.ids_differ),
)

pub none_next : (epoch : ℕ) (entries : List Entry) (bytes : List ℕ) → Finds entry_bytes (IsEntry epoch) bytes None → IsStuck entry_cells (AreEntries epoch) entries bytes
none_next epoch entries bytes finds entry after is are = none_found entry_bytes (IsEntry epoch) bytes entry after finds (last_entry epoch entries entry are).0 is

pub old_id : (epoch : ℕ) (entries : List Entry) (bytes : List ℕ) (entry : Entry) (rest id : List ℕ) → Finds entry_bytes (IsEntry epoch) bytes (Some (entry, rest)) → id ≡ entry.id → list_any (λ (e : Entry). bytes_eq e.id id) entries ≡ true
    → IsStuck entry_cells (AreEntries epoch) entries bytes
old_id epoch entries bytes entry rest id finds is_id old other after is are =
    let h = last_entry epoch entries other are in
    let same = found_is entry_bytes (IsEntry epoch) bytes entry other rest after finds h.0 is in
    let new : list_any (λ (e : Entry). bytes_eq e.id id) entries ≡ false = ap (λ (k : List ℕ). list_any (λ (e : Entry). bytes_eq e.id k) entries) (is_id ∙ ap (λ (e : Entry). e.id) same.0) ∙ h.1 in
    let t : true ≡ false = sym old ∙ new in
    absurd cc

pub no_entries : (epoch : ℕ) → AreEntries epoch []
no_entries epoch = record { each = tt; ids_differ = distinct_nil bytes_eq }

-- ---- behind other sessions

pub stuck_behind : (epoch : ℕ) (before : List Named) (items : List Entry) (bytes : List ℕ) → IsStuck entry_cells (AreEntries epoch) (entries_in before ++ items) bytes → IsStuck entry_cells (AreEntriesBehind epoch before) items bytes
stuck_behind epoch before items bytes stuck entry after is are = stuck entry after is (subst (AreEntries epoch) (sym (append_assoc (entries_in before) items (entry ∷ []))) are)

pub any_before : (test : Entry → Bool) (before : List Named) → list_any (λ (session : Named). list_any test session.entries) before ≡ list_any test (entries_in before)
any_before test [] = refl
any_before test (s ∷ before) = ap (λ (b : Bool). list_any test s.entries || b) (any_before test before) ∙ sym (list_any-append test s.entries (entries_in before))

pub any_either : (test : Entry → Bool) (before : List Named) (items : List Entry) → (list_any (λ (session : Named). list_any test session.entries) before || list_any test items) ≡ list_any test (entries_in before ++ items)
any_either test before items = ap (λ (b : Bool). b || list_any test items) (any_before test before) ∙ sym (list_any-append test (entries_in before) items)

-- an ID is taken before, or else where it is taken here
pub taken_before : (test : Entry → Bool) (before : List Named) (items : List Entry) (r : Bool) → r ≡ list_any (λ (session : Named). list_any test session.entries) before → true ≡ list_any (λ (session : Named). list_any test session.entries) before
    → r ≡ list_any test (entries_in before ++ items)
taken_before test before items r is taken = is ∙ sym taken ∙ ap (λ (b : Bool). b || list_any test items) taken ∙ any_either test before items

pub taken_here : (test : Entry → Bool) (before : List Named) (items : List Entry) (r : Bool) → false ≡ list_any (λ (session : Named). list_any test session.entries) before → r ≡ list_any test items → r ≡ list_any test (entries_in before ++ items)
taken_here test before items r free is = is ∙ ap (λ (b : Bool). b || list_any test items) free ∙ any_either test before items
