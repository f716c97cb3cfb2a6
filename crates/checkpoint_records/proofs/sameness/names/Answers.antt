use Rattle.std.proofs.Common.{◌∙◌, sym}
use Rattle.checkpoint_records.specs.Books.{same_command}
use Rattle.checkpoint_records.proofs.PlaceLaws.{none_chosen, none_further, some_chosen, some_further}
use Rattle.checkpoint_records.proofs.sameness.names.Goals as goal

pub returns-then-discarded : goal.returns-then-discarded
returns-then-discarded c = some_chosen (same_command c.args.command.now) c.args.book.now.entries c.as_slice.result.now c.args.book.now.others c.as_slice.ensures (sym c.in_ok-discarded.ensures ∙ c.if-discarded.true)

pub loop-other-init : goal.loop-other-init
loop-other-init c =
    none_chosen (same_command c.args.command.now) c.args.book.now.entries c.as_slice.result.now c.args.book.now.others c.as_slice-other-items.result.now c.as_slice.ensures c.as_slice-other-items.ensures (sym c.in_ok-discarded.ensures ∙ c.if-discarded.false)

pub returns-then-further : goal.returns-then-further
returns-then-further c =
    some_further (same_command c.args.command.now) c.as_slice-other-items.result.now c.loop-other.other-index c.other-item.result c.as_slice-in-loop-other.result.now c.loop-other-test.true c.other-item.is c.as_slice-in-loop-other.ensures (sym c.in_ok-further.ensures ∙ c.if-further.true)
    ∙ c.loop-other.invariant

pub loop-other-preserved : goal.loop-other-preserved
loop-other-preserved c =
    none_further (same_command c.args.command.now) c.as_slice-other-items.result.now c.loop-other.other-index c.other-item.result c.as_slice-in-loop-other.result.now c.loop-other-test.true c.other-item.is c.as_slice-in-loop-other.ensures (sym c.in_ok-further.ensures ∙ c.if-further.false)
    ∙ c.loop-other.invariant
