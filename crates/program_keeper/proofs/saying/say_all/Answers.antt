use Rattle.client_engine.proofs.Short.{short_at}
use Rattle.program_keeper.proofs.saying.say_all.Goals as goal

pub say-requires : goal.say-requires
say-requires c = short_at c.args.said.now c.loop-message.message-index c.message-item.result c.loop-message-test.true c.message-item.is c.requires
