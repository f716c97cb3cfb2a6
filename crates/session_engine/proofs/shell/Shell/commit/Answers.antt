use Rattle.session_engine.proofs.Storing.{told_commit, told_uncommitted}
use Rattle.session_engine.proofs.shell.Shell.commit.Goals as goal

pub returns-in-Ok-clause-done : goal.returns-in-Ok-clause-done
returns-in-Ok-clause-done g c = told_commit c.args.store c.in-Ok.store c.args.book _ _ c.in-Ok.ensures.rules c.requires.rules c.in-Ok.ensures.book c.in-Ok.ensures.effects

pub returns-in-Err-clause-done : goal.returns-in-Err-clause-done
returns-in-Err-clause-done g c = rw (c.commit_halt.ensures) (told_uncommitted c.args.store c.args.book c.in-Err.fault _ _ c.in-Err.ensures.rules c.requires.rules c.in-Err.ensures.effects)
