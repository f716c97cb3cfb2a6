use Rattle.std.proofs.Common.{◌∷◌, [], ◌+◌}
use Rattle.sm_world.specs.declared.failures.Failed.{Failed}
use Rattle.checkpoint_journal.proofs.Written.{added-two, puts-last, puts-then}
use Rattle.checkpoint_journal.proofs.journal.put_behind.Goals as goal

pub returns-in-Ok-clause-effects : goal.returns-in-Ok-clause-effects
returns-in-Ok-clause-effects g c =
    added-two (λ es ds one two. puts-then Failed (c.args.gate + 1) c.args.tail.now c.in-Ok.field-0 ((c.args.gate, 165 ∷ []) ∷ []) c.put-in-Ok.result es ds one (puts-last c.args.gate (165 ∷ []) c.put-in-Ok.result ds two)) c.in-Ok.ensures.effects c.put-in-Ok.ensures.effects
