use Rattle.checkpoint_changes.proofs.RuleLaws.{runs_step}
use Rattle.checkpoint_changes.proofs.rules.are_of_runs.Goals as goal

pub loop-entry-preserved : goal.loop-entry-preserved
loop-entry-preserved c =
    runs_step c.args.epoch c.args.entries.now c.loop-entry.entry-index c.entry-item.result c.as_slice.result.now c.loop-entry-test.true c.entry-item.is c.as_slice.ensures (c.is_client_id.ensures.0 c.if-not-is_client_id.false) c.loop-entry.invariant
