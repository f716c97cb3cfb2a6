use Rattle.round_agreement.proofs.CountLaws.{found-at}
use Rattle.round_agreement.proofs.members.place_of.Goals as goal

pub returns-in-Ok : goal.returns-in-Ok
returns-in-Ok c = found-at c.args.conn c.in-Ok.place c.args.conns.now c.requires c.in-Ok.ensures.bound c.in-Ok.ensures.ok
