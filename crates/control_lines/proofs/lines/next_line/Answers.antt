use Rattle.std.proofs.Common.{◌∙◌, ap}
use Rattle.control_lines.specs.Lines.{lines_of}
use Rattle.control_lines.proofs.LineCuts.{lines_of-newline, lines_of-whole}
use Rattle.control_lines.proofs.lines.next_line.Goals as goal

pub returns-in-Some-clause-lines : goal.returns-in-Some-clause-lines
returns-in-Some-clause-lines c = ap lines_of c.in-Some.ensures.parts ∙ lines_of-newline c.in-Some.parts.0.now c.in-Some.parts.1.now c.in-Some.ensures.first

pub returns-in-None-clause-lines : goal.returns-in-None-clause-lines
returns-in-None-clause-lines c = lines_of-whole c.args.text.now c.requires c.in-None.ensures
