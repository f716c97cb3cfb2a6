use Rattle.std.proofs.Common.{refl}
use Rattle.session_engine.proofs.Performing.{told_nothing}
use Rattle.session_engine.proofs.serving.carry_out.Goals as goal

pub returns-then-is_empty-clause-done : goal.returns-then-is_empty-clause-done
returns-then-is_empty-clause-done g c = rw (c.is_empty.ensures c.if-is_empty.true) (told_nothing c.args.store _)

pub returns-then-is_empty-clause-turn : goal.returns-then-is_empty-clause-turn
returns-then-is_empty-clause-turn g c = rw (c.is_empty.ensures c.if-is_empty.true) refl
