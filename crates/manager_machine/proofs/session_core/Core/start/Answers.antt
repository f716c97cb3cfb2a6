use Rattle.std.proofs.Common.{◌∙◌, sym}
use Rattle.manager_machine.proofs.Acting.{started}
use Rattle.manager_machine.proofs.session_core.Core.start.Goals as goal

pub returns : goal.returns
returns c = c.in_ok-act.ensures ∙ sym (started c.args.reason c.args.command c.args.self.now)
