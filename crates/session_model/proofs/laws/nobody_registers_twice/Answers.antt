use Rattle.session_model.proofs.Lists.{distinct-from_once}
use Rattle.session_model.specs.Rules.{opened}
use Rattle.session_model.proofs.Replied.{good-opened, good-run}
use Rattle.session_model.proofs.laws.nobody_registers_twice.Goals as goal

pub returns : goal.returns
returns c = λ opening events. distinct-from_once _ (good-run events (opened opening) (good-opened opening)).sound.once
