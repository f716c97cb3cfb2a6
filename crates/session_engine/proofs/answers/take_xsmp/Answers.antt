use Rattle.session_engine.proofs.Views.{view-outcome, view-is-spelled}
use Rattle.session_engine.proofs.answers.take_xsmp.Goals as goal

pub returns-in-Ok-clause-outcome : goal.returns-in-Ok-clause-outcome
returns-in-Ok-clause-outcome c = view-outcome c.args.setup c.args.sequence c.in-Ok.view c.args.endian c.args.frame.now c.in-Ok.ensures.of.0 c.in-Ok.ensures.of.1

pub returns-in-Ok-clause-spelled : goal.returns-in-Ok-clause-spelled
returns-in-Ok-clause-spelled c = view-is-spelled c.in-Ok.view c.args.sequence c.args.frame.now c.in-Ok.ensures.of.1 c.requires.within
