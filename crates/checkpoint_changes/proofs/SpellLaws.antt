-- What has a spelling, by the number of its bytes.
use Rattle.std.proofs.Common.{◌≡◌, ◌∙◌, ℕ, ◌<◌, ◌^◌, List, ◌++◌, ap, length, get_or, subst, sym, arith, length-append}
use Rattle.std.specs.Prelude.{flat_map}
use Rattle.owned_lists.specs.declared.commands.Command.{Command}
use Rattle.ice_values.specs.Cells.{zeros}
use Rattle.ice_values.specs.Numbers.{card32}
use Rattle.ice_values.specs.Properties.{IsArray8, array8, array8_list, property_list}
use Rattle.ice_values.specs.declared.numbers.Endian.TheVariants.{Lsb}
use Rattle.ice_values.proofs.CellLaws.{length-zeros}
use Rattle.ice_values.proofs.LengthLaws.{item_within}
use Rattle.ice_values.proofs.WriteLaws.{adds_cells}
use Rattle.checkpoint_records.specs.Parts.{HasCommandSpelling, HasEntrySpelling}
use Rattle.checkpoint_records.specs.Rules.{command_cells, in_turn}
use Rattle.checkpoint_records.specs.Spelling.{entry_cells}
use Rattle.checkpoint_records.specs.declared.records.Entry.{Entry}
use Rattle.checkpoint_records.proofs.SpellLaws.{bytes_fit, list_fits, table_fits}
use Rattle.checkpoint_changes.specs.Amendments.{delta_bytes}
use Rattle.checkpoint_records.specs.declared.head.Format.TheVariants.{Several}
use Rattle.checkpoint_changes.specs.Changes.{change_cells, part_cells, put_cells}
use Rattle.checkpoint_changes.specs.declared.changes.Change.{Change}
use Rattle.checkpoint_changes.specs.declared.changes.Change.TheVariants.{Pend, Put, Remove}
use Rattle.checkpoint_changes.proofs.LengthLaws.{length-change}

pub entry_fits : (entry : Entry) → length (entry_cells entry) < 2 ^ 32 → HasEntrySpelling entry
entry_fits entry lt =
    let len = length-append (array8 Lsb entry.id) (property_list Lsb entry.table) in
    record { id = bytes_fit entry.id (omega (arith, len, lt)); table = table_fits entry.table (omega (arith, len, lt)) }

pub command_fits : (command : Command) → length (command_cells Lsb command) < 2 ^ 32 → HasCommandSpelling command
command_fits command lt =
    let len = length-append (array8_list Lsb command.words ++ array8 Lsb command.directory) (array8_list Lsb (in_turn command.environment)) in
    let front = length-append (array8_list Lsb command.words) (array8 Lsb command.directory) in
    record {
      words = list_fits command.words (omega (arith, len, front, lt));
      directory = bytes_fit command.directory (omega (arith, len, front, lt));
      environment = list_fits (in_turn command.environment) (omega (arith, len, front, lt));
    }

-- each change of a delta is as short as the delta
pub change_within : (delta : List Change) (i : ℕ) (change : Change) → i < length delta → change ≡ get_or delta i change → length (delta_bytes (change_cells Several) delta) < 2 ^ 32 → length (change_cells Several change) < 2 ^ 32
change_within delta i change lt is short = omega (arith, item_within (change_cells Several) delta i change lt is, length-zeros (flat_map (change_cells Several) delta), short)

short_part : (change other : Change) → change ≡ other → length (change_cells Several change) < 2 ^ 32 → length (part_cells Several other) < 2 ^ 32
short_part change other is short = omega (arith, length-change other, subst (λ (c : Change). length (change_cells Several c) < 2 ^ 32) is short)

pub remove_fits : (change : Change) (id : List ℕ) → change ≡ Remove id → length (change_cells Several change) < 2 ^ 32 → IsArray8 id
remove_fits change id is short = bytes_fit id (short_part change (Remove id) is short)

pub put_fits : (change : Change) (name : List ℕ) (entry : Entry) → change ≡ Put name entry → length (change_cells Several change) < 2 ^ 32 → IsArray8 name × HasEntrySpelling entry
put_fits change name entry is short =
    let part = short_part change (Put name entry) is short in
    let len = length-append (array8 Lsb name) (entry_cells entry) in
    (bytes_fit name (omega (arith, part, len)), entry_fits entry (omega (arith, part, len)))

pub pend_fits : (change : Change) (command : Command) → change ≡ Pend command → length (change_cells Several change) < 2 ^ 32 → HasCommandSpelling command
pend_fits change command is short = command_fits command (short_part change (Pend command) is short)

-- an entry behind the name of its session
pub put_added : (change : Change) (name : List ℕ) (entry : Entry) (old one two new : List ℕ) → change ≡ Put name entry → one ≡ old ++ zeros (card32 Lsb 6 ++ card32 Lsb 0) → two ≡ one ++ zeros (array8 Lsb name) → new ≡ two ++ zeros (entry_cells entry)
    → new ≡ old ++ zeros (change_cells Several change)
put_added change name entry old one two new is p q r =
    adds_cells old one new (card32 Lsb 6 ++ card32 Lsb 0) (put_cells Several name entry) p (adds_cells one two new (array8 Lsb name) (entry_cells entry) q r) ∙ ap (λ (c : Change). old ++ zeros (change_cells Several c)) (sym is)
