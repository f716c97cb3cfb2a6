use Rattle.std.proofs.Common.{ap, subst}
use Rattle.client_callbacks.specs.Doing.{Callbacks}
use Rattle.client_callbacks.proofs.joiner.Joiner.tell_cancelled.Goals as goal

pub returns : goal.returns
returns g c = record {
  follows = (
    c.hear.new.self,
    subst (λ cancelled. g.C.Cancels.hears cancelled c.hear.new.self) (ap (λ (v : Callbacks _ _ _). v.cancelled) c.self.view_is) c.hear.ensures.step,
    ap (λ (v : Callbacks _ _ _). record v { cancelled = c.hear.new.self }) c.self.view_is,
  );
}
