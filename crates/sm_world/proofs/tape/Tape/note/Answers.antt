use Rattle.sm_world.proofs.Holding.{held_noted}
use Rattle.sm_world.proofs.tape.Tape.note.Goals as goal

pub invariant_of-self-2 : goal.invariant_of-self-2
invariant_of-self-2 c =
    let was = c.self.inside in
    (c.self.invariant.0, c.self.invariant.1, rw c.in_ok-push.ensures.items (held_noted was.first was.effects.items was.file c.args.effect c.self.invariant.2 c.requires))
