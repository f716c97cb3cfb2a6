use Rattle.std.proofs.Common.{sym, ◌∙◌, refl}
use Rattle.session_engine.specs.declared.engine.Engine.{Engine}
use Rattle.session_engine.proofs.Showing.{given}
use Rattle.session_engine.proofs.Events.{gives-again, gives-joined, gives-greeted, gives-refused, takes-join}
use Rattle.session_engine.proofs.engine.Engine.join.Goals as goal

pub returns-then-is_live : goal.returns-then-is_live
returns-then-is_live c = λ m shows.
    gives-again c.args.conn m c.args.self.now (record { cookie = c.args.self.now.cookie; live = c.args.self.now.live; manager = c.args.self.now.manager; acts = c.clear.new.self }) shows (sym c.is_live.ensures ∙ c.if-is_live.true) refl refl refl c.clear.ensures

pub tell-requires-clause-takes : goal.tell-requires-clause-takes
tell-requires-clause-takes c = takes-join c.args.conn c.args.self.now c.requires (sym c.is_live.ensures ∙ c.if-is_live.false)

pub returns-then-is_live-2 : goal.returns-then-is_live-2
returns-then-is_live-2 c = λ m shows.
    let absent = sym c.is_live.ensures ∙ c.if-is_live.false in
    let middle : Engine = record { cookie = c.args.self.now.cookie; live = c.join.new.self; manager = c.args.self.now.manager; acts = c.clear.new.self } in
    let kept = c.in_ok-join.ensures in
    let told = gives-joined c.args.conn m kept.0 c.args.self.now middle c.tell.new.self shows absent kept.1 refl kept.2 refl c.clear.ensures c.in_ok-tell.ensures in
    given c.push.result c.push.ensures (λ acts. gives-greeted c.args.conn m c.args.self.now c.tell.new.self (record { cookie = c.tell.new.self.cookie; live = c.tell.new.self.live; manager = c.tell.new.self.manager; acts = c.push.new.self }) shows absent told (sym c.is_live-2.ensures ∙ c.if-is_live-2.true) refl refl refl acts)

pub returns : goal.returns
returns c = λ m shows.
    let absent = sym c.is_live.ensures ∙ c.if-is_live.false in
    let middle : Engine = record { cookie = c.args.self.now.cookie; live = c.join.new.self; manager = c.args.self.now.manager; acts = c.clear.new.self } in
    let kept = c.in_ok-join.ensures in
    let told = gives-joined c.args.conn m kept.0 c.args.self.now middle c.tell.new.self shows absent kept.1 refl kept.2 refl c.clear.ensures c.in_ok-tell.ensures in
    gives-refused c.args.conn m c.args.self.now c.tell.new.self shows absent told (sym c.is_live-2.ensures ∙ c.if-is_live-2.false)
