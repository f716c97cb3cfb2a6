use Rattle.std.proofs.Common.{rules}
use Rattle.display_stream.proofs.Fronts.{one_taken, all_behind, none_left}
use Rattle.display_stream.proofs.taking.take_parts.Goals as goal

pub loop-len-preserved : goal.loop-len-preserved
loop-len-preserved c =
    let rest = all_behind c.args.bytes.now c.loop-len.taken in
    one_taken c.args.parts.now c.loop-len.parts c.push.new.self c.args.stage c.loop-len.stage c.args.bytes.now c.loop-len.taken c.in-Some.len c.in_ok-from_slice.field-0 c.loop-len.invariant (rw rest at c.in-Some.ensures) (search rules) c.in_ok-push.ensures.ok

pub returns-clause-cut : goal.returns-clause-cut
returns-clause-cut c = none_left c.args.parts.now c.loop-len.parts c.args.stage c.loop-len.stage c.args.bytes.now c.loop-len.taken c.loop-len.invariant (rw (all_behind c.args.bytes.now c.loop-len.taken) at c.in_default.ensures)
