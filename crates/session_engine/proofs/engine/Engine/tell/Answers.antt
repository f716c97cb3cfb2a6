use Rattle.std.proofs.Common.{refl}
use Rattle.session_engine.specs.declared.engine.Engine.{Engine}
use Rattle.session_engine.proofs.Showing.{given, follows_told}
use Rattle.session_engine.proofs.engine.Engine.tell.Goals as goal

pub returns : goal.returns
returns c =
    let told : Engine = record { cookie = c.args.self.now.cookie; live = c.args.self.now.live; manager = c.take.new.self; acts = c.args.self.now.acts } in
    given c.follow_all.result c.follow_all.ensures (λ follows. follows_told c.args.event c.in-Ok.acts c.args.self.now told c.follow_all.new.self refl refl refl c.in-Ok.ensures.stands c.in-Ok.ensures.acts follows)
