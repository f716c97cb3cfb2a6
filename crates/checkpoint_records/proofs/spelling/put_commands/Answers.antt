use Rattle.ice_values.proofs.WriteLaws.{adds_item}
use Rattle.ice_values.specs.declared.numbers.Endian.TheVariants.{Lsb}
use Rattle.checkpoint_records.specs.Rules.{command_cells}
use Rattle.checkpoint_records.proofs.spelling.put_commands.Goals as goal

pub loop-command-preserved : goal.loop-command-preserved
loop-command-preserved c =
    adds_item (command_cells Lsb) c.args.commands.now c.loop-command.command-index c.command-item.result c.args.out.now c.loop-command.out c.put_command.new.out c.loop-command-test.true c.command-item.is c.loop-command.invariant c.in_ok-put_command.ensures
