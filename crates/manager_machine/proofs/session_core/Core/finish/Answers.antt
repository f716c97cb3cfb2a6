use Rattle.std.proofs.Common.{◌∙◌, sym}
use Rattle.manager_machine.proofs.Acting.{finished}
use Rattle.manager_machine.proofs.session_core.Core.finish.Goals as goal

pub returns : goal.returns
returns c = c.in_ok-act.ensures ∙ sym (finished c.args.self.now)
