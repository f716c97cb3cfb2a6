use Rattle.checkpoint_slots.proofs.Adding.{put-failed, put-synced}
use Rattle.checkpoint_slots.proofs.turn.put.Goals as goal

pub returns-in-Err-clause-effects : goal.returns-in-Err-clause-effects
returns-in-Err-clause-effects g c = put-failed (Unit {0}) c.args.at c.args.bytes.now c.in-Err.failed c.in-Err.ensures.err

pub returns-in-Ok-clause-effects : goal.returns-in-Ok-clause-effects
returns-in-Ok-clause-effects g c = put-synced c.args.at c.args.bytes.now c.sync.result c.in-Ok.ensures.ok c.sync.ensures.ok c.sync.ensures.err
