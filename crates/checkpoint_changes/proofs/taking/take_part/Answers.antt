use Rattle.checkpoint_changes.proofs.taking.take_part.Goals as goal

pub returns-then-code-eq-REMOVE : goal.returns-then-code-eq-REMOVE
returns-then-code-eq-REMOVE c = rw c.if-code-eq-REMOVE.true (c.take_remove.ensures c.args.format)

pub returns-then-code-eq-PEND : goal.returns-then-code-eq-PEND
returns-then-code-eq-PEND c = rw c.if-code-eq-PEND.true (c.take_pend.ensures c.args.format)
