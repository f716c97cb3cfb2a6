use Rattle.ice_values.specs.Reading.{many_at, rest_of}
use Rattle.ice_values.proofs.ListLaws.{passes_on, passes_none, passed_all}
use Rattle.ice_values.proofs.spelled.pass_many.Goals as goal

pub returns-in_err-rest : goal.returns-in_err-rest
returns-in_err-rest g c =
    let front = g.T.Spelled.front c.args.endian in
    rw c.from_residual.ensures (passes_none front c.args.count c.loop-passed._passed c.loop-passed.rest.now (rest_of (many_at front c.args.count c.args.bytes.now)) c.loop-passed-test.true c.in_err-rest.ensures c.loop-passed.invariant)

pub loop-passed-preserved : goal.loop-passed-preserved
loop-passed-preserved g c =
    let front = g.T.Spelled.front c.args.endian in
    passes_on front c.args.count c.loop-passed._passed c.loop-passed.rest.now c.in_ok-rest.rest.now (rest_of (many_at front c.args.count c.args.bytes.now)) c.loop-passed-test.true c.in_ok-rest.ensures c.loop-passed.invariant

pub returns : goal.returns
returns g c =
    let front = g.T.Spelled.front c.args.endian in
    passed_all front c.args.count c.loop-passed._passed c.loop-passed.rest.now (rest_of (many_at front c.args.count c.args.bytes.now)) c.loop-passed-test.false c.loop-passed.invariant
