-- At every move of a run, whatever is kept of clients keeps the rules for it, and whatever is sent fits into a message.
use Rattle.std.proofs.Common.{◌≡◌, ℕ, ◌≤◌, Bool, true, false, cond, List, [], ◌∷◌, length, eqb}
use Rattle.std.specs.Prelude.{Option, Some, None, find}
use Rattle.std.specs.List.{AllByRecursion}
use Rattle.ice_values.specs.declared.property.Property.{Property}
use Rattle.checkpoint_records.specs.Books.{all_entries, entries_in}
use Rattle.checkpoint_records.specs.declared.records.Entry.{Entry}
use Rattle.checkpoint_records.specs.Rules.{IsClientId, IsTable, IsEntry}
use Rattle.xsmp_properties.specs.Tables.{without_names}
use Rattle.xsmp_messages.specs.declared.message.XsmpMessage.{XsmpMessage}
use Rattle.xsmp_messages.specs.declared.message.XsmpMessage.TheVariants.{RegisterClientReply, SaveYourself, Interact, SaveYourselfDone, Die, ShutdownCancelled, SetProperties, DeleteProperties, GetPropertiesReply, SaveYourselfPhase2, SaveComplete}
use Rattle.session_model.specs.declared.phase.Phase.{Phase}
use Rattle.session_model.specs.declared.events.SessionEvent.{SessionEvent}
use Rattle.session_model.specs.declared.events.SessionEvent.TheVariants.{Joined, Ready, Said, Left, Operator, Tick}
use Rattle.session_model.specs.Phases.{is_bound, is_saving}
use Rattle.session_model.specs.Tables.{set_table, table_said, is_of, table_in, first_table}
use Rattle.session_model.specs.Moves.{Move, Outside, Gave, Blamed, Closed, Committed, History, ◌▷◌}
use Rattle.session_model.specs.Readings as of
use Rattle.checkpoint_records.proofs.DistinctLaws.{all_behind, all_front}
use Rattle.session_model.proofs.Kept.{empty-table, table-set, table-without}

pub either : {A : Type 0} (P : A → Type 0) (b : Bool) (x y : A) → P x → P y → P (cond b x y)
either P true x y p q = p
either P false x y p q = q

-- What a history keeps, in a run of an epoch

abbrev pub IsSnapshot : Option (List Property) → Type 0
IsSnapshot None = Unit {0}
IsSnapshot (Some table) = IsTable table

abbrev pub HasId : ℕ → Option (List ℕ) → Type 0
HasId epoch None = Unit {0}
HasId epoch (Some id) = IsClientId epoch id

pub record Tidy (epoch : ℕ) (h : History) : Type 0 where
  pub tables : (c : ℕ) → IsTable (of.table_of c h)
  pub snapshots : (c : ℕ) → IsSnapshot (of.saved_of c h)
  pub ids : (c : ℕ) → HasId epoch (of.id_of c h)
  pub entries : AllByRecursion (IsEntry epoch) (all_entries (of.book h))

-- those of the chosen session, and those of the others
pub chosen-tidy : (epoch : ℕ) (h : History) → Tidy epoch h → AllByRecursion (IsEntry epoch) (of.book h).entries
chosen-tidy epoch h t = all_front (IsEntry epoch) (of.book h).entries (entries_in (of.book h).others) t.entries

pub others-tidy : (epoch : ℕ) (h : History) → Tidy epoch h → AllByRecursion (IsEntry epoch) (entries_in (of.book h).others)
others-tidy epoch h t = all_behind (IsEntry epoch) (of.book h).entries (entries_in (of.book h).others) t.entries

-- the messages that are as short as can be
abbrev pub is_small : XsmpMessage → Bool
is_small (SaveYourself kind shutdown style fast) = true
is_small Interact = true
is_small Die = true
is_small ShutdownCancelled = true
is_small SaveYourselfPhase2 = true
is_small SaveComplete = true
is_small m = false

-- what a move asks for itself
abbrev pub Proper : ℕ → Move → Type 0
Proper epoch (Gave c (RegisterClientReply id)) = IsClientId epoch id
Proper epoch (Gave c (GetPropertiesReply table)) = IsTable table
Proper epoch (Gave c m) = is_small m ≡ true
Proper epoch (Blamed c error) = length error.values ≤ 65528
Proper epoch (Committed book) = (book.epoch ≡ epoch) × AllByRecursion (IsEntry epoch) (all_entries book)
Proper epoch m = Unit {0}

-- Tables

table-of-said : (c : ℕ) (m : XsmpMessage) (phase : ℕ → Option Phase) (table : List Property) → IsTable table → IsTable (table_said c m phase table)
table-of-said c (SetProperties list) phase table t = either IsTable (is_bound (phase c)) (set_table list table) table (table-set list table t) t
table-of-said c (DeleteProperties names) phase table t = either IsTable (is_bound (phase c)) (without_names names table) table (table-without names table t) t
table-of-said c m phase table t = t

found-table : (epoch : ℕ) (test : Entry → Bool) (entries : List Entry) → AllByRecursion (IsEntry epoch) entries → IsTable (table_in (find test entries))
found-table epoch test [] a = empty-table
found-table epoch test (entry ∷ entries) a = either (λ o. IsTable (table_in o)) (test entry) (Some entry) (find test entries) a.0.table (found-table epoch test entries a.1)

tables-heard : (epoch : ℕ) (event : SessionEvent) (h : History) → Tidy epoch h → (c : ℕ) → IsTable (of.table_of c (Outside event ▷ h))
tables-heard epoch (Joined d) h t c = t.tables c
tables-heard epoch (Ready d) h t c = t.tables c
tables-heard epoch (Said d m sequence frame) h t c = either IsTable (eqb d c) (table_said c m (λ x. of.phase_of x h) (of.table_of c h)) (of.table_of c h) (table-of-said c m (λ x. of.phase_of x h) (of.table_of c h) (t.tables c)) (t.tables c)
tables-heard epoch (Left d) h t c = either IsTable (eqb d c) [] (of.table_of c h) empty-table (t.tables c)
tables-heard epoch (Operator order) h t c = t.tables c
tables-heard epoch (Tick milliseconds) h t c = t.tables c

tables-given : (epoch d : ℕ) (m : XsmpMessage) (h : History) → Tidy epoch h → (c : ℕ) → IsTable (of.table_of c (Gave d m ▷ h))
tables-given epoch d (RegisterClientReply id) h t c = either IsTable (eqb d c) (first_table (of.book h) id) (of.table_of c h) (found-table epoch (is_of id) (of.book h).entries (chosen-tidy epoch h t)) (t.tables c)
tables-given epoch d m h t c = t.tables c

tables-step : (epoch : ℕ) (m : Move) (h : History) → Tidy epoch h → (c : ℕ) → IsTable (of.table_of c (m ▷ h))
tables-step epoch (Outside event) h t c = tables-heard epoch event h t c
tables-step epoch (Gave d m) h t c = tables-given epoch d m h t c
tables-step epoch (Closed d) h t c = either IsTable (eqb d c) [] (of.table_of c h) empty-table (t.tables c)
tables-step epoch m h t c = t.tables c

-- Snapshots

snapshot-gone : (c : ℕ) (gone : Option ℕ) (saved : Option (List Property)) → IsSnapshot saved → IsSnapshot (of.unless_left c gone None saved)
snapshot-gone c None saved s = s
snapshot-gone c (Some d) saved s = either IsSnapshot (eqb d c) None saved tt s

snapshot-of-said : (c : ℕ) (m : XsmpMessage) (phase : ℕ → Option Phase) (table : ℕ → List Property) (saved : Option (List Property)) → IsTable (table c) → IsSnapshot saved → IsSnapshot (of.saved_said c m phase table saved)
snapshot-of-said c (SaveYourselfDone true) phase table saved t s = either IsSnapshot (is_saving (phase c)) (Some (table c)) saved t s
snapshot-of-said c (SaveYourselfDone false) phase table saved t s = s
snapshot-of-said c m phase table saved t s = s

snapshot-given : (m : XsmpMessage) (saved : Option (List Property)) → IsSnapshot saved → IsSnapshot (of.saved_given m saved)
snapshot-given (SaveYourself kind shutdown style fast) saved s = tt
snapshot-given ShutdownCancelled saved s = tt
snapshot-given m saved s = s

snapshots-heard : (epoch : ℕ) (event : SessionEvent) (h : History) → Tidy epoch h → (c : ℕ) → IsSnapshot (of.saved_of c (Outside event ▷ h))
snapshots-heard epoch (Said d m sequence frame) h t c =
    either IsSnapshot (eqb d c) (of.saved_said c m (λ x. of.phase_of x h) (λ x. of.table_of x h) (of.saved_of c h)) (of.saved_of c h)
    (snapshot-of-said c m (λ x. of.phase_of x h) (λ x. of.table_of x h) (of.saved_of c h) (t.tables c) (t.snapshots c)) (t.snapshots c)
snapshots-heard epoch (Left d) h t c = snapshot-gone c (Some d) (of.saved_of c h) (t.snapshots c)
snapshots-heard epoch event h t c = t.snapshots c

snapshots-step : (epoch : ℕ) (m : Move) (h : History) → Tidy epoch h → (c : ℕ) → IsSnapshot (of.saved_of c (m ▷ h))
snapshots-step epoch (Outside event) h t c = snapshots-heard epoch event h t c
snapshots-step epoch (Gave d m) h t c = either IsSnapshot (eqb d c) (of.saved_given m (of.saved_of c h)) (of.saved_of c h) (snapshot-given m (of.saved_of c h) (t.snapshots c)) (t.snapshots c)
snapshots-step epoch (Closed d) h t c = snapshot-gone c (Some d) (of.saved_of c h) (t.snapshots c)
snapshots-step epoch m h t c = t.snapshots c

-- IDs

id-gone : (epoch c : ℕ) (gone : Option ℕ) (id : Option (List ℕ)) → HasId epoch id → HasId epoch (of.unless_left c gone None id)
id-gone epoch c None id i = i
id-gone epoch c (Some d) id i = either (HasId epoch) (eqb d c) None id tt i

ids-given : (epoch d : ℕ) (m : XsmpMessage) (h : History) → Proper epoch (Gave d m) → Tidy epoch h → (c : ℕ) → HasId epoch (of.id_of c (Gave d m ▷ h))
ids-given epoch d (RegisterClientReply id) h p t c = either (HasId epoch) (eqb d c) (Some id) (of.id_of c h) p (t.ids c)
ids-given epoch d m h p t c = t.ids c

ids-heard : (epoch : ℕ) (event : SessionEvent) (h : History) → Tidy epoch h → (c : ℕ) → HasId epoch (of.id_of c (Outside event ▷ h))
ids-heard epoch (Left d) h t c = id-gone epoch c (Some d) (of.id_of c h) (t.ids c)
ids-heard epoch event h t c = t.ids c

ids-step : (epoch : ℕ) (m : Move) (h : History) → Proper epoch m → Tidy epoch h → (c : ℕ) → HasId epoch (of.id_of c (m ▷ h))
ids-step epoch (Outside event) h p t c = ids-heard epoch event h t c
ids-step epoch (Gave d m) h p t c = ids-given epoch d m h p t c
ids-step epoch (Closed d) h p t c = id-gone epoch c (Some d) (of.id_of c h) (t.ids c)
ids-step epoch m h p t c = t.ids c

-- Entries

entries-step : (epoch : ℕ) (m : Move) (h : History) → Proper epoch m → Tidy epoch h → AllByRecursion (IsEntry epoch) (all_entries (of.book (m ▷ h)))
entries-step epoch (Committed book) h p t = p.1
entries-step epoch m h p t = t.entries

pub tidy-step : (epoch : ℕ) (m : Move) (h : History) → Proper epoch m → Tidy epoch h → Tidy epoch (m ▷ h)
tidy-step epoch m h p t = record { tables = tables-step epoch m h t; snapshots = snapshots-step epoch m h t; ids = ids-step epoch m h p t; entries = entries-step epoch m h p t }

-- The epoch of the run is that of its book

pub epoch-step : (epoch : ℕ) (m : Move) (h : History) → Proper epoch m → (of.book h).epoch ≡ epoch → (of.book (m ▷ h)).epoch ≡ epoch
epoch-step epoch (Committed book) h p e = p.0
epoch-step epoch m h p e = e

abbrev pub AllProper : ℕ → List Move → Type 0
AllProper epoch moves = AllByRecursion (Proper epoch) moves
