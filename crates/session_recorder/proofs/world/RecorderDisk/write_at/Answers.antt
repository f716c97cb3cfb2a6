use Rattle.session_recorder.proofs.Noting.{told-written}
use Rattle.session_recorder.proofs.world.RecorderDisk.write_at.Goals as goal

pub invariant_of-self : goal.invariant_of-self
invariant_of-self g c = (told-written _ _ _ _ _ _ _ _ c.write_at.ensures.ok c.write_at.ensures.err c.self.invariant.0, c.self.invariant.1)
