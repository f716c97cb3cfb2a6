use Rattle.std.proofs.Common.{◌≡◌, ◌+◌, List, [], ◌∷◌, ◌++◌, take, sym, ◌∙◌, ap, arith, subst}
use Rattle.std.proofs.lemmas.List.{take_all, take_more}
use Rattle.session_model.specs.declared.events.Act.{Act as SessionAct}
use Rattle.session_engine.specs.Telling.{FollowsLive}
use Rattle.session_engine.proofs.Showing.{live_more}
use Rattle.session_engine.proofs.live.Connections.follow.Goals as goal

pub loop-act-init : goal.loop-act-init
loop-act-init c = λ pending ks shows. shows

pub loop-act-preserved : goal.loop-act-preserved
loop-act-preserved c =
    let done : List SessionAct = take c.loop-act.act-index c.args.acts.now in
    let grown : done ++ c.act-item.result ∷ [] ≡ take (c.loop-act.act-index + 1) c.args.acts.now = sym (take_more c.args.acts.now c.loop-act.act-index c.act-item.result c.loop-act-test.true ∙ ap (λ act. done ++ act ∷ []) (sym c.act-item.is)) in
    subst (λ (acts : List SessionAct). FollowsLive acts c.args.self.now c.follow_one.new.self) grown (live_more done c.act-item.result c.args.self.now c.loop-act.self c.follow_one.new.self c.loop-act.invariant c.follow_one.ensures)

pub returns : goal.returns
returns c =
    let all : take c.loop-act.act-index c.args.acts.now ≡ c.args.acts.now = take_all c.loop-act.act-index c.args.acts.now (omega (arith, c.loop-act-test.false)) in
    subst (λ (acts : List SessionAct). FollowsLive acts c.args.self.now c.loop-act.self) all c.loop-act.invariant
