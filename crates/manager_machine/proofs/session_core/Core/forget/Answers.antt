use Rattle.manager_machine.proofs.Committing.{forgotten-by}
use Rattle.manager_machine.proofs.session_core.Core.forget.Goals as goal

pub returns : goal.returns
returns c = forgotten-by c.args.plan c.args.self.now c.print_ok.new.self c.commit_entries.new.self c.resign.new.self c.discard.new.self c.in_ok-print_ok.ensures c.in_ok-commit_entries.ensures c.in_ok-resign.ensures c.in_ok-discard.ensures
