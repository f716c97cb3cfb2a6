use Rattle.std.proofs.Common.{sym, ◌∙◌, refl}
use Rattle.session_engine.proofs.Showing.{given}
use Rattle.session_engine.proofs.Answering.{gives-kept, gives-closed}
use Rattle.session_engine.proofs.engine.Engine.decide.Goals as goal

pub returns-then-bound : goal.returns-then-bound
returns-then-bound c = given c.push.result c.push.ensures (λ acts. gives-kept c.args.conn c.args.self.now (record { cookie = c.args.self.now.cookie; live = c.args.self.now.live; manager = c.args.self.now.manager; acts = c.push.new.self }) (sym c.bound.ensures ∙ c.if-bound.true) refl refl refl acts)

pub returns : goal.returns
returns c = given c.close.result c.close.ensures (λ departs. gives-closed c.args.conn c.args.self.now c.close.new.self (sym c.bound.ensures ∙ c.if-bound.false) departs)
