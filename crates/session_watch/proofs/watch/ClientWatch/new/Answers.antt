use Rattle.std.proofs.Common.{refl}
use Rattle.session_watch.proofs.Following.{begins}
use Rattle.session_watch.proofs.watch.ClientWatch.new.Goals as goal

pub returns : goal.returns
returns c = record {
  came = c.new.ensures;
  said = begins;
  sent = c.new-2.ensures;
  told = begins;
  known = c.nothing.ensures;
  since = refl;
}
