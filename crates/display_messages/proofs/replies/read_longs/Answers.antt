use Rattle.display_messages.specs.Places.{longs_in}
use Rattle.display_messages.proofs.NumberLists.{longs_on}
use Rattle.display_messages.proofs.replies.read_longs.Goals as goal

pub loop-taken-preserved : goal.loop-taken-preserved
loop-taken-preserved c =
    longs_on c.args.count c.loop-taken._taken c.read_long.result c.loop-taken.rest.now c.split_at.result.1.now c.loop-taken.numbers c.push.new.self (longs_in c.args.count c.args.bytes.now)
    c.loop-taken-test.true c.read_long.ensures c.split_at.ensures.back c.in_ok-push.ensures.ok c.loop-taken.invariant
