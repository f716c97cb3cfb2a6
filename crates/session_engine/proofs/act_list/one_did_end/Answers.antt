use Rattle.std.proofs.Common.{◌≡◌, ◌+◌, List, ◌∷◌, drop, sym, ◌∙◌, ap}
use Rattle.std.proofs.lemmas.List.{drop_more}
use Rattle.session_model.specs.declared.events.Act.{Act as SessionAct}
use Rattle.session_engine.specs.Acts.{acts_for, acts_for_all, has_finish}
use Rattle.session_engine.proofs.Running.{finish_first, finish_second}
use Rattle.session_engine.proofs.act_list.one_did_end.Goals as goal

pub returns-then-did_end : goal.returns-then-did_end
returns-then-did_end c =
    let rest : List SessionAct = drop (c.loop-act.act-index + 1) c.args.acts.now in
    let left : drop c.loop-act.act-index c.args.acts.now ≡ c.act-item.result ∷ rest = drop_more c.args.acts.now c.loop-act.act-index c.act-item.result c.loop-act-test.true ∙ ap (λ act. act ∷ rest) (sym c.act-item.is) in
    sym (c.loop-act.invariant ∙ (ap (λ acts. has_finish (acts_for_all acts)) left ∙ finish_first (acts_for c.act-item.result) (acts_for_all rest) (sym c.did_end.ensures ∙ c.if-did_end.true)))

pub loop-act-preserved : goal.loop-act-preserved
loop-act-preserved c =
    let rest : List SessionAct = drop (c.loop-act.act-index + 1) c.args.acts.now in
    let left : drop c.loop-act.act-index c.args.acts.now ≡ c.act-item.result ∷ rest = drop_more c.args.acts.now c.loop-act.act-index c.act-item.result c.loop-act-test.true ∙ ap (λ act. act ∷ rest) (sym c.act-item.is) in
    c.loop-act.invariant ∙ (ap (λ acts. has_finish (acts_for_all acts)) left ∙ finish_second (acts_for c.act-item.result) (acts_for_all rest) (sym c.did_end.ensures ∙ c.if-did_end.false))
