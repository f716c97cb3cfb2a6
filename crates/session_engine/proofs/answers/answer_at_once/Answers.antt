use Rattle.std.proofs.Common.{rules, ◌≡◌, true}
use Rattle.session_engine.specs.Answers.{speaks_xsmp}
use Rattle.session_engine.proofs.AtOnce.{at_once_ping, at_once_error, at_once_close}
use Rattle.session_engine.proofs.answers.answer_at_once.Goals as goal

pub returns-in-Ping-clause-outcome : goal.returns-in-Ping-clause-outcome
returns-in-Ping-clause-outcome c = λ sequence. let speaks : speaks_xsmp c.args.setup.now ≡ true = search rules in rw c.in-Ping.is (at_once_ping c.args.setup.now sequence speaks)

pub returns-in-Error-clause-outcome : goal.returns-in-Error-clause-outcome
returns-in-Error-clause-outcome c = λ sequence. let speaks : speaks_xsmp c.args.setup.now ≡ true = search rules in rw c.in-Error.is (at_once_error c.args.setup.now _ sequence speaks)

pub returns-in-WantToClose-clause-outcome : goal.returns-in-WantToClose-clause-outcome
returns-in-WantToClose-clause-outcome c = λ sequence. let speaks : speaks_xsmp c.args.setup.now ≡ true = search rules in rw c.in-WantToClose.is (at_once_close c.args.setup.now sequence speaks)
