use Rattle.checkpoint_changes.proofs.TakeLaws.{no_gate}
use Rattle.checkpoint_changes.proofs.taking.take_delta.Goals as goal

pub returns-in_err-gate : goal.returns-in_err-gate
returns-in_err-gate c = rw c.from_residual.ensures (no_gate c.args.bytes.now c.in_err-gate.ensures)
