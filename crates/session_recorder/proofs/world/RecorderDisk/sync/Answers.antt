use Rattle.session_recorder.proofs.Noting.{told-synced}
use Rattle.session_recorder.proofs.world.RecorderDisk.sync.Goals as goal

pub invariant_of-self : goal.invariant_of-self
invariant_of-self g c = (told-synced _ _ _ _ _ _ c.sync.ensures.ok c.sync.ensures.err c.self.invariant.0, c.self.invariant.1)
