use Rattle.std.proofs.Common.{refl}
use Rattle.sm_world.specs.declared.effects.Effect.TheVariants.{Heard}
use Rattle.session_recorder.proofs.world.RecorderLinks.next.Goals as goal

pub invariant_of-self-2 : goal.invariant_of-self-2
invariant_of-self-2 g c = (rw c.in_ok-event.ensures.effects (c.note.ensures.keeps (g.W.Told.outside c.self.inside.world).told (Heard c.in_ok-event.event) refl c.heard_line.ensures c.self.invariant.0), c.note.ensures.due)
