use Rattle.std.proofs.Common.{◌≡◌, drop}
use Rattle.session_engine.specs.Acts.{acts_for_all, has_finish}
use Rattle.session_engine.proofs.act_list.one_did_end.Given as goal

abbrev pub invariant-loop-act : goal.invariant-loop-act
invariant-loop-act l = has_finish (acts_for_all l.acts) ≡ has_finish (acts_for_all (drop l.act-index l.acts))
