use Rattle.client_engine.proofs.Short.{short_at}
use Rattle.session_client.proofs.hearing.bytes_of.Goals as goal

pub spell-requires : goal.spell-requires
spell-requires c = record { short = short_at c.args.said.now c.loop-message.message-index c.message-item.result c.loop-message-test.true c.message-item.is c.requires }
