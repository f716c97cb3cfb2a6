use Rattle.std.proofs.Common.{ap, subst}
use Rattle.named_joiner.specs.Script.{Callbacks}
use Rattle.named_joiner.proofs.callers.Callers.ask_reasons.Goals as goal

pub returns-clause-follows : goal.returns-clause-follows
returns-clause-follows g c = (
  c.reasons.new.self,
  subst (λ die. g.D.NamedDies.gives die c.reasons.result c.reasons.new.self) (ap (λ (v : Callbacks _ _). v.die) c.self.view_is) c.reasons.ensures.step,
  ap (λ (v : Callbacks _ _). record v { die = c.reasons.new.self }) c.self.view_is,
)
