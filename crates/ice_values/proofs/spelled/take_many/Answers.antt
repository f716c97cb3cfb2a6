use Rattle.std.proofs.lemmas.Result.{err_from_is_err_and}
use Rattle.ice_values.specs.Reading.{many_at}
use Rattle.ice_values.proofs.ListLaws.{goes_on, ends, is_done}
use Rattle.ice_values.proofs.spelled.take_many.Goals as goal

pub returns-in_err-item : goal.returns-in_err-item
returns-in_err-item g c =
    let front = g.T.Spelled.front c.args.endian in
    let p = err_from_is_err_and c.from_residual.result c.from_residual.ensures.1 in
    rw (p.1, p.2) (ends c.in_err-item.field-0.0 front c.loop-i.items c.args.count c.loop-i._i c.loop-i.rest.now (many_at front c.args.count c.args.bytes.now) c.loop-i-test.true c.in_err-item.ensures c.loop-i.invariant)

pub loop-i-preserved : goal.loop-i-preserved
loop-i-preserved g c =
    let front = g.T.Spelled.front c.args.endian in
    rw c.in_ok-push.ensures.ok (goes_on front c.loop-i.items c.args.count c.loop-i._i c.loop-i.rest.now c.in_ok-item.item c.in_ok-item.after.now (many_at front c.args.count c.args.bytes.now) c.loop-i-test.true c.in_ok-item.ensures c.loop-i.invariant)

pub returns : goal.returns
returns g c =
    let front = g.T.Spelled.front c.args.endian in
    is_done front c.loop-i.items c.args.count c.loop-i._i c.loop-i.rest.now (many_at front c.args.count c.args.bytes.now) c.loop-i-test.false c.loop-i.invariant
