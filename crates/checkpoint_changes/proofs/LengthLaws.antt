-- How many bytes spell the parts of a delta.
use Rattle.std.proofs.Common.{◌≡◌, ℕ, ◌+◌, ◌<◌, List, [], ◌∷◌, ◌++◌, length, take, get_or, refl, sym, ap, ◌∙◌, arith, length-append}
use Rattle.std.specs.Prelude.{◌≤◌, flat_map, min}
use Rattle.std.proofs.lemmas.List.{take_all, take_more}
use Rattle.std.proofs.lemmas.Grind.{flat_map-append}
use Rattle.owned_lists.specs.declared.commands.Command.{Command}
use Rattle.ice_values.specs.Cells.{pad_len}
use Rattle.ice_values.specs.Numbers.{card32}
use Rattle.ice_values.specs.Properties.{array8, array8_list, property, property_list}
use Rattle.ice_values.specs.declared.numbers.Endian.TheVariants.{Lsb}
use Rattle.ice_values.proofs.CellLaws.{length-zeros}
use Rattle.ice_values.proofs.LengthLaws.{length-array8, length-listed}
use Rattle.xsmp_properties.specs.Tables.{encoded_len}
use Rattle.checkpoint_records.specs.Rules.{command_cells, in_turn}
use Rattle.checkpoint_records.specs.Spelling.{entry_cells}
use Rattle.checkpoint_records.specs.declared.records.Entry.{Entry}
use Rattle.checkpoint_changes.specs.Amendments.{delta_bytes}
use Rattle.checkpoint_records.specs.declared.head.Format.TheVariants.{Several}
use Rattle.checkpoint_changes.specs.Changes.{change_cells, code_of, number_of, part_cells}
use Rattle.checkpoint_changes.specs.declared.changes.Change.{Change}

pub in_turn-append : (xs ys : List (List ℕ × List ℕ)) → in_turn (xs ++ ys) ≡ in_turn xs ++ in_turn ys
in_turn-append [] ys = refl
in_turn-append (x ∷ xs) ys = ap (λ (l : List (List ℕ)). x.0 ∷ x.1 ∷ l) (in_turn-append xs ys)

pub length-pairs : (pairs : List (List ℕ × List ℕ)) (i : ℕ) (x : List ℕ × List ℕ) → i < length pairs → x ≡ get_or pairs i x
    → length (flat_map (array8 Lsb) (in_turn (take (i + 1) pairs))) ≡ length (flat_map (array8 Lsb) (in_turn (take i pairs))) + length (array8 Lsb x.0) + length (array8 Lsb x.1)
length-pairs pairs i x lt is =
    let grown : take (i + 1) pairs ≡ take i pairs ++ x ∷ [] = take_more pairs i x lt ∙ ap (λ (y : List ℕ × List ℕ). take i pairs ++ y ∷ []) (sym is) in
    let whole : flat_map (array8 Lsb) (in_turn (take (i + 1) pairs)) ≡ flat_map (array8 Lsb) (in_turn (take i pairs)) ++ flat_map (array8 Lsb) (x.0 ∷ x.1 ∷ []) =
    ap (λ (l : List (List ℕ × List ℕ)). flat_map (array8 Lsb) (in_turn l)) grown ∙ ap (flat_map (array8 Lsb)) (in_turn-append (take i pairs) (x ∷ [])) ∙ flat_map-append (array8 Lsb) (in_turn (take i pairs)) (x.0 ∷ x.1 ∷ []) in
    omega (arith, ap length whole, length-append (flat_map (array8 Lsb) (in_turn (take i pairs))) (flat_map (array8 Lsb) (x.0 ∷ x.1 ∷ [])), length-append (array8 Lsb x.0) (flat_map (array8 Lsb) (x.1 ∷ [])), length-append (array8 Lsb x.1) (flat_map (array8 Lsb) []))

pub length-entry : (entry : Entry) → length (entry_cells entry) ≡ length (array8 Lsb entry.id) + 8 + encoded_len entry.table
length-entry entry = omega (arith, length-append (array8 Lsb entry.id) (property_list Lsb entry.table), length-listed (property Lsb) Lsb entry.table)

pub length-command : (command : Command) → length (command_cells Lsb command) ≡ length (flat_map (array8 Lsb) command.words) + length (array8 Lsb command.directory) + length (flat_map (array8 Lsb) (in_turn command.environment)) + 16
length-command command =
    omega (
      arith,
      length-append (array8_list Lsb command.words ++ array8 Lsb command.directory) (array8_list Lsb (in_turn command.environment)),
      length-append (array8_list Lsb command.words) (array8 Lsb command.directory),
      length-listed (array8 Lsb) Lsb command.words,
      length-listed (array8 Lsb) Lsb (in_turn command.environment),
    )

pub length-change : (change : Change) → length (change_cells Several change) ≡ 8 + length (part_cells Several change)
length-change change = length-append (card32 Lsb (code_of Several change) ++ card32 Lsb (number_of change)) (part_cells Several change)

pub length-text : (text slice : List ℕ) (pad : ℕ) → slice ≡ text → pad ≡ pad_len (4 + length slice) 8 → 4 + length slice + pad ≡ length (array8 Lsb text)
length-text text slice pad is is_pad = rw (is_pad, is) (sym (length-array8 Lsb text))

pub length-whole : (items delta : List Change) (i total : ℕ) → items ≡ delta → length items ≤ i → total ≡ min (length (flat_map (change_cells Several) (take i items))) 18446744073709551615 → total ≡ min (length (delta_bytes (change_cells Several) delta)) 18446744073709551615
length-whole items delta i total is all so_far =
    so_far ∙ ap (λ (l : List Change). min (length (flat_map (change_cells Several) l)) 18446744073709551615) (take_all i items all ∙ is) ∙ ap (λ (n : ℕ). min n 18446744073709551615) (sym (length-zeros (flat_map (change_cells Several) delta)))
