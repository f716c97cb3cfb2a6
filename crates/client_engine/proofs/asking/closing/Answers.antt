use Rattle.client_engine.proofs.Short.{short-reasons}
use Rattle.client_engine.proofs.asking.closing.Goals as goal

pub returns-clause-short : goal.returns-clause-short
returns-clause-short c = λ few. short-reasons c.args.reasons few
