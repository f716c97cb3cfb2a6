use Rattle.std.proofs.Common.{sym, subst}
use Rattle.session_model.proofs.Short.{short-error}
use Rattle.session_engine.specs.Answers.{said_in}
use Rattle.session_engine.specs.Messages.{CanBeSaid}
use Rattle.session_engine.specs.Outcomes.{Outcome}
use Rattle.session_engine.proofs.answers.refuse_xsmp.Goals as goal

pub returns-clause-said : goal.returns-clause-said
returns-clause-said c = subst (λ (o : Outcome). CanBeSaid (said_in o.answer)) (sym c.stays.ensures) (short-error c.error_of-error.result (rw c.error_of-error.ensures (c.requires.few)))
