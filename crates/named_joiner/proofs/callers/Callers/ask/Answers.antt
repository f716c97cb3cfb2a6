use Rattle.std.proofs.Common.{ap, subst}
use Rattle.named_joiner.specs.Script.{Callbacks}
use Rattle.named_joiner.proofs.callers.Callers.ask.Goals as goal

pub returns-clause-follows : goal.returns-clause-follows
returns-clause-follows g c = (
  c.answer.new.self,
  subst (λ save. g.S.NamedSaves.answers save c.args.ask c.answer.result c.answer.new.self) (ap (λ (v : Callbacks _ _). v.save) c.self.view_is) c.answer.ensures.step,
  ap (λ (v : Callbacks _ _). record v { save = c.answer.new.self }) c.self.view_is,
)
