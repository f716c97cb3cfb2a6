use Rattle.std.proofs.Common.{rules}
use Rattle.client_engine.proofs.Short.{short_at}
use Rattle.client_callbacks.proofs.DoingLaws.{said_all, said_failed, said_more, sends_none}
use Rattle.client_callbacks.proofs.saying.say_all.Goals as goal

pub say-requires : goal.say-requires
say-requires g c = short_at c.args.said.now c.loop-message.message-index c.message-item.result c.loop-message-test.true c.message-item.is c.requires

pub loop-message-init : goal.loop-message-init
loop-message-init g c = sends_none _

pub loop-message-preserved : goal.loop-message-preserved
loop-message-preserved g c = said_more _ _ _ c.args.said.now c.loop-message.message-index c.message-item.result c.loop-message-test.true c.message-item.is c.loop-message.invariant c.in-Ok.ensures

pub returns-in-Err : goal.returns-in-Err
returns-in-Err g c = said_failed _ _ _ c.args.said.now c.loop-message.message-index c.message-item.result c.in-Err.failure c.loop-message-test.true c.message-item.is c.loop-message.invariant c.in-Err.ensures

pub returns : goal.returns
returns g c = said_all _ _ c.args.said.now c.loop-message.message-index (search rules) c.loop-message.invariant
