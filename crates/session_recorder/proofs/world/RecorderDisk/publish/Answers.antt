use Rattle.session_recorder.proofs.Noting.{told-published}
use Rattle.session_recorder.proofs.world.RecorderDisk.publish.Goals as goal

pub invariant_of-self : goal.invariant_of-self
invariant_of-self g c = (told-published _ _ _ _ _ _ _ _ c.publish.ensures.effects c.self.invariant.0, c.self.invariant.1)
