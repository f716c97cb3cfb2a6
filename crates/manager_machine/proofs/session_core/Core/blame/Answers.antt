use Rattle.std.proofs.Common.{◌∙◌, sym}
use Rattle.manager_machine.proofs.Acting.{blamed}
use Rattle.manager_machine.proofs.session_core.Core.blame.Goals as goal

pub returns : goal.returns
returns c = c.in_ok-act.ensures ∙ sym (blamed c.args.conn c.args.error c.args.self.now)
