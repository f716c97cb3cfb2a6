use Rattle.std.proofs.Common.{◌≡◌, ◌++◌, take}
use Rattle.std.specs.Prelude.{flat_map}
use Rattle.ice_values.specs.Cells.{zeros}
use Rattle.ice_values.specs.declared.numbers.Endian.TheVariants.{Lsb}
use Rattle.checkpoint_records.specs.Rules.{command_cells}
use Rattle.checkpoint_records.proofs.spelling.put_commands.Given as goal

abbrev pub invariant-loop-command : goal.invariant-loop-command
invariant-loop-command l = l.out ≡ l.fn.out ++ zeros (flat_map (command_cells Lsb) (take l.command-index l.commands))
