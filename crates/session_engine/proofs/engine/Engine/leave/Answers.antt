use Rattle.std.proofs.Common.{sym, ◌∙◌, refl}
use Rattle.session_engine.proofs.Showing.{given}
use Rattle.session_engine.proofs.Events.{gives-gone, gives-absent, takes-gone}
use Rattle.session_engine.proofs.engine.Engine.leave.Goals as goal

pub returns-then-not-is_live : goal.returns-then-not-is_live
returns-then-not-is_live c = λ m shows.
    gives-absent c.args.gone m c.args.self.now (record { cookie = c.args.self.now.cookie; live = c.args.self.now.live; manager = c.args.self.now.manager; acts = c.clear.new.self }) shows (sym c.is_live.ensures ∙ c.if-not-is_live.true) refl refl refl c.clear.ensures

pub tell-requires-clause-takes : goal.tell-requires-clause-takes
tell-requires-clause-takes c = takes-gone c.args.gone c.args.self.now c.requires (sym c.is_live.ensures ∙ c.if-not-is_live.false)

pub returns : goal.returns
returns c = λ m shows.
    given c.tell.result c.tell.ensures (λ tells. gives-gone c.args.gone m c.args.self.now (record { cookie = c.args.self.now.cookie; live = c.leave.new.self; manager = c.args.self.now.manager; acts = c.clear.new.self }) c.tell.new.self shows (sym c.is_live.ensures ∙ c.if-not-is_live.false) refl c.leave.ensures refl c.clear.ensures tells)
