use Rattle.std.proofs.Common.{codes, [], ◌∷◌, ◌∙◌, ap}
use Rattle.sm_world.specs.Outside.{adds}
use Rattle.sm_world.specs.declared.effects.Effect.TheVariants.{Printed}
use Rattle.sm_world.proofs.Adding.{fallen_never}
use Rattle.store_return.specs.Restoring.{uncarried, unopened, unplanned}
use Rattle.store_return.proofs.Carrying.{console_carrying, nothing_shown, shown}
use Rattle.store_return.proofs.restoring.show.Goals as goal

pub returns-in-Err-clause-runs : goal.returns-in-Err-clause-runs
returns-in-Err-clause-runs g c = nothing_shown c.args.which.now c.args.kept.now (g.W.Told.outside c.args.world.now) c.in-Err.fault (g.W.Told.outside c.opened.new.disk).told c.in-Err.ensures.told

pub returns-in-Err-clause-cause : goal.returns-in-Err-clause-cause
returns-in-Err-clause-cause g c = unopened c.in-Err.ensures.cause

pub planned-requires-clause-present : goal.planned-requires-clause-present
planned-requires-clause-present g c = c.in-Ok.ensures.found.rules

pub returns-in-Err-planned-clause-runs : goal.returns-in-Err-planned-clause-runs
returns-in-Err-planned-clause-runs g c = nothing_shown c.args.which.now c.args.kept.now (g.W.Told.outside c.args.world.now) c.in-Err-planned.fault (g.W.Told.outside c.opened.new.disk).told c.in-Ok.ensures.told

pub returns-in-Err-planned-clause-cause : goal.returns-in-Err-planned-clause-cause
returns-in-Err-planned-clause-cause g c = unplanned c.in-Ok.found.0 c.in-Ok.found.1 c.in-Ok.ensures.found c.in-Err-planned.ensures.cause

pub returns-in-Ok-tell-clause-runs : goal.returns-in-Ok-tell-clause-runs
returns-in-Ok-tell-clause-runs g c =
    shown c.args.which.now c.args.kept.now (g.W.Told.outside c.args.world.now) c.in-Ok.found.0 c.in-Ok.found.1 c.in-Ok-planned.plan c.in-Ok.ensures.found (g.W.Told.outside c.opened.new.disk).told (g.W.Told.outside c.tell.new.world).told c.in-Ok.ensures.told
    c.in-Ok-planned.ensures.plan (c.in-Ok-tell.ensures.effects ∙ ap (λ text. adds (g.W.Told.outside c.opened.new.disk).told (Printed text ∷ [])) c.as_slice.ensures)

pub returns-in-Ok-tell-clause-counts : goal.returns-in-Ok-tell-clause-counts
returns-in-Ok-tell-clause-counts g c = fallen_never _ _ _ c.in-Ok.ensures.counts c.in-Ok-tell.ensures.counts

pub returns-clause-cause : goal.returns-clause-cause
returns-clause-cause g c =
    uncarried c.in-Ok.found.0 c.in-Ok.found.1 c.in-Ok.ensures.found c.in-Ok-planned.ensures.plan.may
    (console_carrying c.in-Ok.found.0 (g.W.Told.outside c.args.world.now) (g.W.Told.outside c.opened.new.disk) (g.W.Told.outside c.tell.new.world) c.in-Err-tell.fault c.in-Ok.ensures.counts c.in-Err-tell.ensures.cause)
