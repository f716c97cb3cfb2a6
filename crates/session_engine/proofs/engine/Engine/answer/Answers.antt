use Rattle.std.proofs.Common.{refl}
use Rattle.session_engine.specs.Acts.{says}
use Rattle.session_engine.proofs.Showing.{given}
use Rattle.session_engine.proofs.Answering.{gives-said, gives-begun}
use Rattle.session_engine.proofs.engine.Engine.answer.Goals as goal

pub returns-in-Stays : goal.returns-in-Stays
returns-in-Stays c = rw c.in-Stays.is (given c.say.result c.say.ensures (λ acts. λ pending m is.
    gives-said pending c.args.conn (says c.args.conn c.in-Stays.message) m c.args.self.now (record { cookie = c.args.self.now.cookie; live = c.args.self.now.live; manager = c.args.self.now.manager; acts = c.say.new.self }) is.others (is.here tt) is.agrees refl refl refl acts))

pub returns-in_ok-say-in-Begins : goal.returns-in_ok-say-in-Begins
returns-in_ok-say-in-Begins c = rw c.in-Begins.is (given c.tell.result c.tell.ensures (λ tells.
    gives-begun c.args.conn c.in-Begins.message c.args.self.now (record { cookie = c.args.self.now.cookie; live = c.args.self.now.live; manager = c.args.self.now.manager; acts = c.say-in-Begins.new.self }) c.tell.new.self refl refl refl c.in_ok-say-in-Begins.ensures tells))

pub returns-in-Closes : goal.returns-in-Closes
returns-in-Closes c = rw c.in-Closes.is (given c.close.result c.close.ensures (λ departs. λ pending m is. departs pending m is.others is.agrees))
