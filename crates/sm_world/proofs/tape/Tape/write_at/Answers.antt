use Rattle.sm_world.proofs.Holding.{held_written}
use Rattle.sm_world.proofs.tape.Tape.write_at.Goals as goal

pub invariant_of-self-2 : goal.invariant_of-self-2
invariant_of-self-2 c =
    let was = c.self.inside in
    (c.self.invariant.0, c.self.invariant.1, rw (c.in_ok-push.ensures.items, c.in_ok-written.ensures, c.overwrite.ensures) (held_written was.first was.effects.items was.file c.self.invariant.2 c.args.at c.args.bytes.now (rw (← c.self.view_is) at c.requires)))
