use Rattle.display_messages.specs.Setups.{behind_many, behind_depth}
use Rattle.display_messages.proofs.Passing.{passes_on, passes_none, passed_all}
use Rattle.display_messages.proofs.admission.pass_depths.Goals as goal

pub returns-in_err-rest : goal.returns-in_err-rest
returns-in_err-rest c = rw c.from_residual.ensures (passes_none behind_depth c.args.count c.loop-passed._passed c.loop-passed.rest.now (behind_many behind_depth c.args.count c.args.bytes.now) c.loop-passed-test.true c.in_err-rest.ensures c.loop-passed.invariant)

pub loop-passed-preserved : goal.loop-passed-preserved
loop-passed-preserved c = passes_on behind_depth c.args.count c.loop-passed._passed c.loop-passed.rest.now c.in_ok-rest.rest.now (behind_many behind_depth c.args.count c.args.bytes.now) c.loop-passed-test.true c.in_ok-rest.ensures c.loop-passed.invariant

pub returns : goal.returns
returns c = passed_all behind_depth c.args.count c.loop-passed._passed c.loop-passed.rest.now (behind_many behind_depth c.args.count c.args.bytes.now) c.loop-passed-test.false c.loop-passed.invariant
