use Rattle.std.proofs.Common.{◌≡◌, ◌∙◌, ap, sym}
use Rattle.session_engine.specs.Machine.{Machine}
use Rattle.session_model.specs.Readings as of
use Rattle.session_model.specs.declared.marks.Marks.{Marks}
use Rattle.nested_session.specs.Nesting.{awaits}
use Rattle.nested_session.proofs.ActLaws.{awaits_none, awaits_some, saves}
use Rattle.nested_session.proofs.nest.Nest.save.Goals as goal
use Rattle.nested_session.proofs.nest.Nest.save.Goals.{then-any_void, else-any_void}

pub returns-clause-makes : goal.returns-clause-makes
returns-clause-makes g c = λ config opening current base events n script all goes.
    let is : c.if-any_void.awaited ≡ awaits c.args.later.now (of.marks n.machine.session).begun = elim c.if-any_void.branch [
      | then-any_void w ↦ awaits_none c.any_void.result c.args.later.now (of.marks n.machine.session).begun c.if-any_void.awaited w.if-any_void.true c.any_void.ensures w.awaited-is
      | else-any_void w ↦ awaits_some c.any_void.result c.args.later.now w.marks.result.begun (of.marks n.machine.session).begun c.if-any_void.awaited w.if-any_void.false c.any_void.ensures w.awaited-is
          (ap (λ (k : Marks). k.begun) (w.marks.ensures _ goes.ready.stands.shows ∙ ap (λ (m : Machine). of.marks m.session) (sym goes.ready.machine)))
    ] in
    saves config opening current base events (g.W.Told.outside c.args.world.now).told (g.W.Told.outside c.feed.new.world).told c.args.self n script all c.args.later.now c.if-any_void.awaited c.feed.result is goes
    (c.feed.ensures.makes config opening current base)
