use Rattle.std.proofs.Common.{◌≡◌, drop}
use Rattle.session_engine.specs.Acts.{has_finish}
use Rattle.session_engine.proofs.act_list.one_ends.Given as goal

abbrev pub invariant-loop-act : goal.invariant-loop-act
invariant-loop-act l = has_finish l.acts ≡ has_finish (drop l.act-index l.acts)
