use Rattle.std.proofs.Common.{ap, refl, rules}
use Rattle.smclient_app.proofs.Following.{loosely, strictly}
use Rattle.smclient_app.proofs.joining.join_session.Goals as goal

pub returns-then-saver-eq0-clause-joins : goal.returns-then-saver-eq0-clause-joins
returns-then-saver-eq0-clause-joins g c =
    strictly _ _ _ _ _ _ _ _ _ _ _ c.follow-saver.ensures.ran (λ s. s.choices.now) (λ s. s.talked) (λ s. s.missing) (λ f ask answer g step. (ap (λ b. b.now) step.0, step.1)) (λ d reasons e step. step.met.1.0) c.args.choices.now refl refl (search rules)

pub returns-else-saver-eq0-clause-joins : goal.returns-else-saver-eq0-clause-joins
returns-else-saver-eq0-clause-joins g c =
    loosely _ _ _ _ _ _ _ _ _ _ _ c.follow-saver.ensures.ran (λ s. s.choices.now) (λ s. s.talked) (λ s. s.missing) (λ f ask answer g step. (ap (λ b. b.now) step.0, step.1)) (λ d reasons e step. step.met.1.0) c.args.choices.now refl refl
