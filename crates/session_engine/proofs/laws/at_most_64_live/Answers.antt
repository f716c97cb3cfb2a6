use Rattle.session_engine.proofs.Limits.{always_few}
use Rattle.session_engine.proofs.laws.at_most_64_live.Goals as goal

pub returns : goal.returns
returns c = λ events. always_few c.args.config events
