use Rattle.std.proofs.Common.{◌<◌, ◌^◌, List, [], length, subst, sym}
use Rattle.ice_values.proofs.WriteLaws.{adds_item}
use Rattle.checkpoint_changes.specs.Amendments.{delta_bytes}
use Rattle.checkpoint_records.specs.declared.head.Format.TheVariants.{Several}
use Rattle.checkpoint_changes.specs.Changes.{change_cells}
use Rattle.checkpoint_changes.specs.declared.changes.Change.{Change}
use Rattle.checkpoint_changes.proofs.SpellLaws.{change_within}
use Rattle.checkpoint_changes.proofs.spelling.spell_delta.Goals as goal

pub put_change-requires : goal.put_change-requires
put_change-requires c =
    change_within c.as_slice-change-items.result.now c.loop-change.change-index c.change-item.result c.loop-change-test.true c.change-item.is (subst (λ (delta : List Change). length (delta_bytes (change_cells Several) delta) < 2 ^ 32) (sym c.as_slice-change-items.ensures) c.requires)

pub loop-change-preserved : goal.loop-change-preserved
loop-change-preserved c =
    adds_item (change_cells Several) c.as_slice-change-items.result.now c.loop-change.change-index c.change-item.result [] c.loop-change.out c.put_change.new.out c.loop-change-test.true c.change-item.is c.loop-change.invariant c.in_ok-put_change.ensures
