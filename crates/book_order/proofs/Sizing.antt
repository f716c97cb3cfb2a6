-- How long a plain delta is: it is put together from what differs, whatever the order of its changes.
use Rattle.std.proofs.Common.{◌≡◌, ℕ, ◌+◌, ◌*◌, List, [], ◌∷◌, length, refl, sym, ◌∙◌, arith, length-append}
use Rattle.std.specs.Prelude.{◌==◌, flat_map, if◌then◌else◌}
use Rattle.std.specs.Str.{bytes_eq}
use Rattle.ice_values.proofs.CellLaws.{length-zeros}
use Rattle.owned_lists.specs.declared.commands.Command.{Command}
use Rattle.checkpoint_changes.specs.Amendments.{delta_bytes}
use Rattle.checkpoint_changes.specs.Changes.{change_cells}
use Rattle.checkpoint_changes.specs.Plain.{IsPlain, entries_named, epoch_in, equal_command, equal_named, missing_from, pended_in, put_in, removed_in, unpended_in}
use Rattle.checkpoint_changes.specs.declared.changes.Change.{Change}
use Rattle.checkpoint_changes.proofs.LengthLaws.{length-change}
use Rattle.checkpoint_records.specs.Books.{entries_in, sessions}
use Rattle.checkpoint_records.specs.Rules.{ids_of}
use Rattle.checkpoint_changes.specs.declared.changes.Change.TheVariants.{Epoch, Pend, Put, Remove, Unpend}
use Rattle.checkpoint_records.specs.declared.head.Format.TheVariants.{Several}
use Rattle.checkpoint_records.specs.declared.records.Book.{Book}
use Rattle.checkpoint_records.specs.declared.records.Entry.{Entry}

-- the bytes of each of these changes together
abbrev size : List Change → ℕ
size delta = length (delta_bytes (change_cells Several) delta)

abbrev ids_size : List (List ℕ) → ℕ
ids_size [] = 0
ids_size (id ∷ ids) = length (change_cells Several (Remove id)) + ids_size ids

abbrev entries_size : List (List ℕ × Entry) → ℕ
entries_size [] = 0
entries_size (x ∷ entries) = length (change_cells Several (Put x.0 x.1)) + entries_size entries

abbrev commands_size : List Command → ℕ
commands_size [] = 0
commands_size (command ∷ commands) = length (change_cells Several (Pend command)) + commands_size commands

-- what the changes bring, one kind after the other
abbrev parts_size : List ℕ → List (List ℕ) → List (List ℕ × Entry) → List ℕ → List Command → ℕ
parts_size epochs removed put unpended pended = 8 * length epochs + ids_size removed + entries_size put + 8 * length unpended + commands_size pended

abbrev sum_size : List Change → ℕ
sum_size delta = parts_size (flat_map epoch_in delta) (flat_map removed_in delta) (flat_map put_in delta) (flat_map unpended_in delta) (flat_map pended_in delta)

cells_sum : (delta : List Change) → length (flat_map (change_cells Several) delta) ≡ sum_size delta
cells_sum [] = refl
cells_sum (Epoch epoch ∷ delta) = omega (arith, length-append (change_cells Several (Epoch epoch)) (flat_map (change_cells Several) delta), length-change (Epoch epoch), cells_sum delta)
cells_sum (Remove id ∷ delta) = omega (arith, length-append (change_cells Several (Remove id)) (flat_map (change_cells Several) delta), cells_sum delta)
cells_sum (Put name entry ∷ delta) = omega (arith, length-append (change_cells Several (Put name entry)) (flat_map (change_cells Several) delta), cells_sum delta)
cells_sum (Unpend place ∷ delta) = omega (arith, length-append (change_cells Several (Unpend place)) (flat_map (change_cells Several) delta), length-change (Unpend place), cells_sum delta)
cells_sum (Pend command ∷ delta) = omega (arith, length-append (change_cells Several (Pend command)) (flat_map (change_cells Several) delta), cells_sum delta)

plain_sum : (old new : Book) (delta : List Change) → IsPlain old new delta
    → size delta ≡ 8 * length (if old.epoch == new.epoch then [] else (new.epoch ∷ [])) + ids_size (missing_from bytes_eq (ids_of (entries_in (sessions new))) (ids_of (entries_in (sessions old)))) + entries_size (missing_from equal_named (entries_named old) (entries_named new)) + 8 * length (missing_from equal_command new.pending old.pending) + commands_size (missing_from equal_command old.pending new.pending)
plain_sum old new delta plain =
    let parts : sum_size delta ≡ 8 * length (if old.epoch == new.epoch then [] else (new.epoch ∷ [])) + ids_size (missing_from bytes_eq (ids_of (entries_in (sessions new))) (ids_of (entries_in (sessions old)))) + entries_size (missing_from equal_named (entries_named old) (entries_named new)) + 8 * length (missing_from equal_command new.pending old.pending) + commands_size (missing_from equal_command old.pending new.pending) =
    rw (plain.epoch, plain.removed, plain.put, plain.unpended, plain.pended) refl in
    length-zeros (flat_map (change_cells Several) delta) ∙ (cells_sum delta ∙ parts)

pub plain_once : (old new : Book) (one two : List Change) → IsPlain old new one → IsPlain old new two → size one ≡ size two
plain_once old new one two first second = plain_sum old new one first ∙ sym (plain_sum old new two second)
