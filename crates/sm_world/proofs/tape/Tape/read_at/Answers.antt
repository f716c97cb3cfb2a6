use Rattle.std.proofs.Common.{◌+◌, ◌-◌, ◌≤◌, arith, length}
use Rattle.sm_world.proofs.Holding.{held_read}
use Rattle.sm_world.proofs.tape.Tape.read_at.Goals as goal

pub returns-clause-bytes : goal.returns-clause-bytes
returns-clause-bytes c =
    let was = c.self.inside in
    let at = c.args.at in
    let n = at + length c.args.into.now - at in
    let fits : at + length c.args.into.now ≤ length was.first = rw (← c.self.view_is) at c.requires in
    rw (c.copy_from_slice.ensures.after, c.as_slice.ensures, ← c.self.view_is) (held_read was.first was.effects.items was.file c.self.invariant.2 at n (omega (arith, fits)))
