use Rattle.std.proofs.Common.{refl}
use Rattle.session_engine.proofs.Showing.{given}
use Rattle.session_engine.proofs.Events.{gives-tick}
use Rattle.session_engine.proofs.engine.Engine.tick.Goals as goal

pub returns : goal.returns
returns c = λ m shows.
    given c.tell.result c.tell.ensures (λ tells. gives-tick c.args.milliseconds m c.args.self.now (record { cookie = c.args.self.now.cookie; live = c.args.self.now.live; manager = c.args.self.now.manager; acts = c.clear.new.self }) c.tell.new.self shows refl refl refl c.clear.ensures tells)
