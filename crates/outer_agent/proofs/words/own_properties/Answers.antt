use Rattle.std.proofs.Common.{rules}
use Rattle.outer_agent.proofs.WordLaws.{own-long, own-word}
use Rattle.outer_agent.proofs.words.own_properties.Goals as goal

pub returns-then-id-gt-ID_LIMIT : goal.returns-then-id-gt-ID_LIMIT
returns-then-id-gt-ID_LIMIT c = own-long c.args.command.now c.args.id.now c.push.new.self (search rules) (search rules)

pub returns : goal.returns
returns c = own-word c.args.command.now c.args.id.now c.push-2.new.self (search rules) (search rules)
