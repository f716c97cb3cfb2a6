use Rattle.std.proofs.Common.{rules}
use Rattle.ice_framing.proofs.Fronts.{one_taken, rest_is, none_left}
use Rattle.ice_framing.proofs.remainder.take_frames.Goals as goal

pub loop-len-preserved : goal.loop-len-preserved
loop-len-preserved c =
    let rest = rest_is c.args.bytes.now c.loop-len.taken in
    one_taken c.args.frames.now c.loop-len.frames c.push.new.self c.args.order c.loop-len.order c.args.bytes.now c.loop-len.taken c.in-Some.len c.endian_of-endian.result c.in_ok-from_slice.field-0 c.loop-len.invariant (rw rest at c.in-Some.ensures) (rw rest at c.endian_of-endian.ensures) (search rules) c.in_ok-push.ensures.ok

pub returns-clause-cut : goal.returns-clause-cut
returns-clause-cut c = none_left c.args.frames.now c.loop-len.frames c.args.order c.loop-len.order c.args.bytes.now c.loop-len.taken c.loop-len.invariant (rw (rest_is c.args.bytes.now c.loop-len.taken) at c.in_default.ensures)
