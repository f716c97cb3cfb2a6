use Rattle.std.proofs.Common.{List, refl, subst}
use Rattle.session_model.specs.declared.events.Act.{Act as SessionAct}
use Rattle.session_engine.specs.Telling.{FollowsLive}
use Rattle.session_engine.proofs.Showing.{given}
use Rattle.session_engine.proofs.engine.Engine.follow_all.Goals as goal

pub returns : goal.returns
returns c =
    let live : FollowsLive c.args.acts c.args.self.now.live c.follow.new.self = subst (λ (acts : List SessionAct). FollowsLive acts c.args.self.now.live c.follow.new.self) c.as_slice.ensures c.follow.ensures in
    given c.follow-2.result c.follow-2.ensures (λ acts. record { cookie = refl; manager = refl; acts = acts; live = live })
