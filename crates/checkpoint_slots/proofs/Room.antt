-- A book that keeps the rules has whole units, and there is room for it in a slot.
use Rattle.std.proofs.Common.{◌≡◌, ◌+◌, ◌*◌, ◌≤◌, ◌%◌, ℕ, suc, List, [], ◌∷◌, ◌++◌, length, map, refl, ap, ◌∙◌, arith, length-append}
use Rattle.std.specs.Prelude.{flat_map}
use Rattle.std.specs.List.{AllByRecursion}
use Rattle.std.proofs.lemmas.Grind.{flat_map-append}
use Rattle.owned_lists.specs.declared.commands.Command.{Command}
use Rattle.ice_values.proofs.CellLaws.{length-zeros}
use Rattle.ice_values.proofs.LengthLaws.{length-array8, length-listed}
use Rattle.ice_values.specs.Cells.{Cells, free}
use Rattle.ice_values.specs.Numbers.{card32}
use Rattle.ice_values.specs.Properties.{array8, array8_list, property, property_list}
use Rattle.ice_values.specs.declared.numbers.Endian.TheVariants.{Lsb}
use Rattle.ice_values.specs.declared.property.Property.{Property}
use Rattle.checkpoint_records.proofs.SpellLaws.{held_cells, length-id, not_full, parts-cells, session_cells}
use Rattle.checkpoint_records.specs.Books.{entries_in, sessions}
use Rattle.checkpoint_records.specs.Rules.{IsCommand, IsEntry, IsStored, KeepsRules, command_cells, in_turn}
use Rattle.checkpoint_records.specs.Spelling.{Holds, book_bytes, entry_cells, head_cells, head_of, head_of_session, part_cells, parts_of, session_head_cells}
use Rattle.checkpoint_records.specs.declared.records.Book.{Book}
use Rattle.checkpoint_records.specs.declared.records.Entry.{Entry}
use Rattle.checkpoint_records.specs.declared.records.Named.{Named}
use Rattle.checkpoint_records.specs.declared.head.Format.TheVariants.{Several}
use Rattle.checkpoint_records.proofs.ChoiceLaws.{ordered}
use Rattle.checkpoint_slots.proofs.Bodies.{HasRoom}

-- Whole units

abbrev Units : Cells → Type 0
Units cells = length cells % 8 ≡ 0

units-append : (xs ys : Cells) → Units xs → Units ys → Units (xs ++ ys)
units-append xs ys a b = omega (arith, a, b, length-append xs ys)

units-all : {A : Type 0} (cells : A → Cells) → ((x : A) → Units (cells x)) → (items : List A) → Units (flat_map cells items)
units-all cells each [] = refl
units-all cells each (x ∷ items) = units-append (cells x) (flat_map cells items) (each x) (units-all cells each items)

units-array8 : (bytes : List ℕ) → Units (array8 Lsb bytes)
units-array8 bytes = omega (arith, length-array8 Lsb bytes)

units-list : (items : List (List ℕ)) → Units (array8_list Lsb items)
units-list items = let all : Units (flat_map (array8 Lsb) items) = units-all (array8 Lsb) units-array8 items in omega (arith, all, length-listed (array8 Lsb) Lsb items)

units-property : (p : Property) → Units (property Lsb p)
units-property p = units-append (array8 Lsb p.name ++ array8 Lsb p.kind) (array8_list Lsb p.values) (units-append (array8 Lsb p.name) (array8 Lsb p.kind) (units-array8 p.name) (units-array8 p.kind)) (units-list p.values)

units-table : (table : List Property) → Units (property_list Lsb table)
units-table table = let all : Units (flat_map (property Lsb) table) = units-all (property Lsb) units-property table in omega (arith, all, length-listed (property Lsb) Lsb table)

units-entry : (entry : Entry) → Units (entry_cells entry)
units-entry entry = units-append (array8 Lsb entry.id) (property_list Lsb entry.table) (units-array8 entry.id) (units-table entry.table)

units-command : (command : Command) → Units (command_cells Lsb command)
units-command command =
    units-append (array8_list Lsb command.words ++ array8 Lsb command.directory) (array8_list Lsb (in_turn command.environment)) (units-append (array8_list Lsb command.words) (array8 Lsb command.directory) (units-list command.words) (units-array8 command.directory)) (units-list (in_turn command.environment))

-- Sizes

entry-size : (epoch : ℕ) (entry : Entry) → IsEntry epoch entry → length (entry_cells entry) ≤ 16424
entry-size epoch entry is =
    let table = not_full entry.table is.table.limits in
    omega (arith, length-append (array8 Lsb entry.id) (property_list Lsb entry.table), length-array8 Lsb entry.id, length-id epoch entry.id is.id, length-listed (property Lsb) Lsb entry.table, table.1)

all-size : {A : Type 0} (P : A → Type 0) (cells : A → Cells) (most : ℕ) → ((x : A) → P x → length (cells x) ≤ most) → (items : List A) → AllByRecursion P items → length (flat_map cells items) ≤ most * length items
all-size P cells most each [] all = omega arith
all-size P cells most each (x ∷ items) all =
    let here : length (cells x) ≤ most = each x all.0 in
    let rest : length (flat_map cells items) ≤ most * length items = all-size P cells most each items all.1 in
    let more : most * suc (length items) ≡ most * length items + most = grind arith in
    omega (arith, here, rest, more, length-append (cells x) (flat_map cells items))

-- the head of a session has its name and eight bytes
head-length : (name : List ℕ) (count : ℕ) → length (session_head_cells (record { name = name; count = count })) ≡ length (array8 Lsb name) + 8
head-length name count =
    let front : length (array8 Lsb name ++ card32 Lsb count) ≡ length (array8 Lsb name) + 4 = length-append (array8 Lsb name) (card32 Lsb count) in
    let whole : length (session_head_cells (record { name = name; count = count })) ≡ length (array8 Lsb name ++ card32 Lsb count) + 4 = length-append (array8 Lsb name ++ card32 Lsb count) (free 4) in
    omega (arith, front, whole)

session-length : (s : Named) → length (session_cells s) ≡ length (array8 Lsb s.name) + 8 + length (flat_map entry_cells s.entries)
session-length s =
    let whole : length (session_cells s) ≡ length (session_head_cells (head_of_session s)) + length (flat_map part_cells (map Holds s.entries)) = length-append (session_head_cells (head_of_session s)) (flat_map part_cells (map Holds s.entries)) in
    let held : length (flat_map part_cells (map Holds s.entries)) ≡ length (flat_map entry_cells s.entries) = ap length (held_cells s.entries) in
    omega (arith, whole, held, head-length s.name (length s.entries))

units-session : (s : Named) → Units (session_cells s)
units-session s =
    let name : Units (array8 Lsb s.name) = units-array8 s.name in
    let entries : Units (flat_map entry_cells s.entries) = units-all entry_cells units-entry s.entries in
    omega (arith, name, entries, session-length s)

sessions-size : (all : List Named) → AllByRecursion IsStored all → length (flat_map session_cells all) ≤ 80 * length all + length (flat_map entry_cells (entries_in all))
sessions-size [] is = omega arith
sessions-size (s ∷ all) is =
    let rest = sessions-size all is.1 in
    let few = is.0.called.few in
    let entries : length (flat_map entry_cells (entries_in (s ∷ all))) ≡ length (flat_map entry_cells s.entries) + length (flat_map entry_cells (entries_in all)) =
    ap length (flat_map-append entry_cells s.entries (entries_in all)) ∙ length-append (flat_map entry_cells s.entries) (flat_map entry_cells (entries_in all)) in
    omega (arith, rest, few, entries, length-append (session_cells s) (flat_map session_cells all), session-length s, length-array8 Lsb s.name)

book-length : (book : Book) → length (book_bytes book) ≡ 16 + (length (flat_map session_cells (sessions book)) + length (flat_map (command_cells Lsb) book.pending))
book-length book =
    let head : Cells = head_cells (head_of Several book) in
    let parts : Cells = flat_map part_cells (parts_of Several book) in
    length-zeros (head ++ parts) ∙ length-append head parts
    ∙ ap (λ (n : ℕ). 16 + n) (ap length (parts-cells (sessions book) book.pending) ∙ length-append (flat_map session_cells (sessions book)) (flat_map (command_cells Lsb) book.pending))

pub book-room : (book : Book) → KeepsRules book → HasRoom (length (book_bytes book))
book-room book rules =
    let all : List Named = sessions book in
    let k = ordered book rules in
    let entries : length (flat_map entry_cells (entries_in all)) ≤ 16424 * length (entries_in all) = all-size (IsEntry book.epoch) entry_cells 16424 (λ entry is. entry-size book.epoch entry is) (entries_in all) k.entries.each in
    let commands : length (flat_map (command_cells Lsb) book.pending) ≤ 16384 * length book.pending = all-size IsCommand (command_cells Lsb) 16384 (λ command is. is.size) book.pending rules.commands in
    let a : Units (flat_map session_cells all) = units-all session_cells units-session all in
    let b : Units (flat_map (command_cells Lsb) book.pending) = units-all (command_cells Lsb) units-command book.pending in
    let heads = sessions-size all k.stored in
    let few = k.few_entries in
    let fewer = rules.few_pending in
    let fewest = k.few in
    record { units = omega (arith, a, b, book-length book); fits = omega (arith, heads, entries, commands, few, fewer, fewest, book-length book) }
