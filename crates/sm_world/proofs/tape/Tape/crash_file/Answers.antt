use Rattle.std.proofs.Common.{take}
use Rattle.sm_world.proofs.Choosing.{images}
use Rattle.sm_world.proofs.tape.Tape.crash_file.Goals as goal

pub returns-clause-image : goal.returns-clause-image
returns-clause-image c =
    let was = c.self.inside in
    rw (← c.self.view_is) (images was.first (take c.args.first was.effects.items) c.args.choice c.crash_file.result (rw (← c.as_slice-2.ensures, ← c.as_slice.ensures.value) c.crash_file.ensures))
