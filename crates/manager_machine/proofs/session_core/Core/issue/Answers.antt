use Rattle.std.proofs.Common.{arith}
use Rattle.manager_machine.proofs.Committing.{issued}
use Rattle.manager_machine.proofs.session_core.Core.issue.Goals as goal

pub returns : goal.returns
returns c = issued c.args.commands.now c.args.self.now c.start_each.new.self c.commit.new.self c.in_ok-book.book (grind arith) c.in_ok-book.ensures c.in_ok-start_each.ensures c.in_ok-commit.ensures
