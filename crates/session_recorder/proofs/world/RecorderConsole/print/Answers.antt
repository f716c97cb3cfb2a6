use Rattle.session_recorder.proofs.world.RecorderConsole.print.Goals as goal

pub invariant_of-self-2 : goal.invariant_of-self-2
invariant_of-self-2 g c = (rw c.in_ok-print.ensures.effects (c.note_printed.ensures.keeps (g.W.Told.outside c.self.inside.world).told c.args.bytes.now c.printed_line.ensures c.self.invariant.0), c.note_printed.ensures.due)
