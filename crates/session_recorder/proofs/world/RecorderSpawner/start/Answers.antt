use Rattle.std.proofs.Common.{refl}
use Rattle.sm_world.specs.declared.effects.Effect.TheVariants.{Started}
use Rattle.session_recorder.proofs.world.RecorderSpawner.start.Goals as goal

pub invariant_of-self-2 : goal.invariant_of-self-2
invariant_of-self-2 g c = (rw c.in_ok-succeeded.ensures.effects (c.note.ensures.keeps (g.W.Told.outside c.self.inside.world).told (Started c.args.command.now c.in_ok-succeeded.succeeded) refl c.start_line.ensures c.self.invariant.0), c.note.ensures.due)
