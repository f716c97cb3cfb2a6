use Rattle.std.proofs.Common.{codes}
use Rattle.std.specs.Prelude.{option_copied}
use Rattle.sm_world.proofs.Adding.{fallen_never}
use Rattle.store_return.specs.Restoring.{uncarried, unopened, unplanned}
use Rattle.store_return.proofs.Carrying.{carrying_since, nothing_restored, plan_chosen, plan_rules, restored, restored_not}
use Rattle.store_return.proofs.restoring.restore.Goals as goal

pub returns-in-Err-clause-runs : goal.returns-in-Err-clause-runs
returns-in-Err-clause-runs g c =
    nothing_restored c.args.which.now c.args.kept.now (option_copied c.args.beside) (g.W.Told.outside c.args.world.now) c.in-Err.fault (g.W.Told.outside c.opened.new.disk).told c.in-Err.ensures.told

pub returns-in-Err-clause-cause : goal.returns-in-Err-clause-cause
returns-in-Err-clause-cause g c = unopened c.in-Err.ensures.cause

pub planned-requires-clause-present : goal.planned-requires-clause-present
planned-requires-clause-present g c = c.in-Ok.ensures.found.rules

pub returns-in-Err-planned-clause-runs : goal.returns-in-Err-planned-clause-runs
returns-in-Err-planned-clause-runs g c =
    nothing_restored c.args.which.now c.args.kept.now (option_copied c.args.beside) (g.W.Told.outside c.args.world.now) c.in-Err-planned.fault (g.W.Told.outside c.opened.new.disk).told c.in-Ok.ensures.told

pub returns-in-Err-planned-clause-cause : goal.returns-in-Err-planned-clause-cause
returns-in-Err-planned-clause-cause g c = unplanned c.in-Ok.found.0 c.in-Ok.found.1 c.in-Ok.ensures.found c.in-Err-planned.ensures.cause

pub carry_out-requires-clause-old_rules : goal.carry_out-requires-clause-old_rules
carry_out-requires-clause-old_rules g c = c.in-Ok.ensures.found.rules

pub carry_out-requires-clause-old_chosen : goal.carry_out-requires-clause-old_chosen
carry_out-requires-clause-old_chosen g c = c.in-Ok.ensures.found.chosen

pub carry_out-requires-clause-rules : goal.carry_out-requires-clause-rules
carry_out-requires-clause-rules g c = plan_rules (codes "restored") c.args.which.now c.args.kept.now c.in-Ok.found.1 c.in-Ok-planned.plan c.requires c.in-Ok.ensures.found.rules c.in-Ok-planned.ensures.plan

pub carry_out-requires-clause-chosen : goal.carry_out-requires-clause-chosen
carry_out-requires-clause-chosen g c = plan_chosen (codes "restored") c.args.which.now c.args.kept.now c.in-Ok.found.1 c.in-Ok-planned.plan c.in-Ok-planned.ensures.plan

pub returns-in-Ok-carry_out-clause-runs : goal.returns-in-Ok-carry_out-clause-runs
returns-in-Ok-carry_out-clause-runs g c =
    restored c.args.which.now c.args.kept.now (option_copied c.args.beside) (g.W.Told.outside c.args.world.now) c.in-Ok.found.0 c.in-Ok.found.1 c.in-Ok-planned.plan c.in-Ok.ensures.found (g.W.Told.outside c.opened.new.disk).told (g.W.Told.outside c.carry_out.new.world).told
    c.in-Ok.ensures.told c.in-Ok-planned.ensures.plan c.in-Ok-carry_out.ensures.carries

pub returns-in-Ok-carry_out-clause-counts : goal.returns-in-Ok-carry_out-clause-counts
returns-in-Ok-carry_out-clause-counts g c = fallen_never _ _ _ c.in-Ok.ensures.counts c.in-Ok-carry_out.ensures.counts

pub returns-clause-runs : goal.returns-clause-runs
returns-clause-runs g c =
    restored_not c.args.which.now c.args.kept.now (option_copied c.args.beside) (g.W.Told.outside c.args.world.now) c.in-Ok.found.0 c.in-Ok.found.1 c.in-Ok-planned.plan c.in-Ok.ensures.found c.in-Err-carry_out.fault (g.W.Told.outside c.opened.new.disk).told
    (g.W.Told.outside c.carry_out.new.world).told c.in-Ok.ensures.told c.in-Ok-planned.ensures.plan c.in-Err-carry_out.ensures.carries

pub returns-clause-cause : goal.returns-clause-cause
returns-clause-cause g c =
    uncarried c.in-Ok.found.0 c.in-Ok.found.1 c.in-Ok.ensures.found c.in-Ok-planned.ensures.plan.may
    (carrying_since c.in-Ok.found.0 (g.W.Told.outside c.args.world.now) (g.W.Told.outside c.opened.new.disk) (g.W.Told.outside c.carry_out.new.world) c.in-Err-carry_out.fault c.in-Ok.ensures.counts c.in-Err-carry_out.ensures.cause)

pub returns-clause-counts : goal.returns-clause-counts
returns-clause-counts g c = fallen_never _ _ _ c.in-Ok.ensures.counts c.in-Err-carry_out.ensures.counts
