use Rattle.program_frame.proofs.ProgramLemmas.{line_tried}
use Rattle.program_frame.proofs.faults.try_line.Goals as goal

pub returns-clause-tried : goal.returns-clause-tried
returns-clause-tried g c =
    line_tried c.print.result (g.W.Told.outside c.args.world.now).told (g.W.Told.outside c.print.new.self).told c.args.line.now c.print.ensures.effects
