use Rattle.session_engine.proofs.Showing.{others_shown, unset_shown}
use Rattle.session_engine.proofs.live.Connections.follow_one.Goals as goal

pub returns-in-Unset : goal.returns-in-Unset
returns-in-Unset c = rw c.in-Unset.is (λ pending ks shows. unset_shown ks c.in-Unset.conn pending c.args.self.now c.unset.new.self c.unset.ensures.at c.unset.ensures.others shows)

pub returns-in-Shut : goal.returns-in-Shut
returns-in-Shut c = rw c.in-Shut.is (λ pending ks shows. others_shown ks c.in-Shut.conn pending c.args.self.now c.leave.new.self c.leave.ensures (λ q apart. shows.each q) shows.distinct)
