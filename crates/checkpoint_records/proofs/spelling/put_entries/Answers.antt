use Rattle.ice_values.proofs.WriteLaws.{adds_item}
use Rattle.checkpoint_records.specs.Spelling.{entry_cells}
use Rattle.checkpoint_records.proofs.spelling.put_entries.Goals as goal

pub loop-entry-preserved : goal.loop-entry-preserved
loop-entry-preserved c =
    adds_item entry_cells c.args.entries.now c.loop-entry.entry-index c.entry-item.result c.args.out.now c.loop-entry.out c.put_entry.new.out c.loop-entry-test.true c.entry-item.is c.loop-entry.invariant c.in_ok-put_entry.ensures
