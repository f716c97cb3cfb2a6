use Rattle.checkpoint_records.specs.Books.{all_entries, discards}
use Rattle.checkpoint_records.proofs.PlaceLaws.{discards_all, discards_first, discards_more}
use Rattle.checkpoint_records.proofs.pending.all_discards.Goals as goal

pub loop-other-init : goal.loop-other-init
loop-other-init c =
    discards_first c.args.book.now.entries c.as_slice.result.now c.args.book.now.others c.as_slice-other-items.result.now c.new-commands.result c.add_discards.new.commands c.new-commands.ensures c.as_slice.ensures c.as_slice-other-items.ensures c.in_ok-add_discards.ensures

pub loop-other-preserved : goal.loop-other-preserved
loop-other-preserved c =
    discards_more c.as_slice-other-items.result.now c.loop-other.other-index c.other-item.result c.as_slice-in-loop-other.result.now c.loop-other.commands c.add_discards-in-loop-other.new.commands (discards (all_entries c.args.book.now))
    c.loop-other-test.true c.other-item.is c.as_slice-in-loop-other.ensures c.in_ok-add_discards-2.ensures c.loop-other.invariant

pub returns : goal.returns
returns c = discards_all c.as_slice-other-items.result.now c.loop-other.other-index c.loop-other.commands (discards (all_entries c.args.book.now)) c.loop-other-test.false c.loop-other.invariant
