use Rattle.std.proofs.Common.{Err, Option, refl, subst}
use Rattle.sm_world.specs.Disk.{UsesDisk, has_failed}
use Rattle.sm_world.specs.declared.failures.Failure.{Failure}
use Rattle.sm_world.proofs.Adding.{fallen_never}
use Rattle.checkpoint_records.specs.declared.records.Book.{Book}
use Rattle.checkpoint_slots.specs.declared.turn.Current.{Current}
use Rattle.store_return.proofs.Carrying.{attach_failed, disk_counts, found_on, not_recovered}
use Rattle.store_return.proofs.restoring.opened.Goals as goal

pub returns-in-Err-clause-cause : goal.returns-in-Err-clause-cause
returns-in-Err-clause-cause g c =
    rw c.of_disk.ensures (attach_failed (g.D.Told.outside c.args.disk.now) (g.D.Told.outside c.attach.new.self) c.in-Err.failure
    (λ is. (subst (λ (f : Failure). UsesDisk (g.D.Told.outside c.args.disk.now) (g.D.Told.outside c.attach.new.self) (has_failed {A = Unit {0}} (Err f))) is c.in-Err.ensures.uses).cause refl))

pub returns-in-Err-clause-counts : goal.returns-in-Err-clause-counts
returns-in-Err-clause-counts g c = disk_counts c.in-Err.ensures.uses

pub returns-in-Ok-clause-found : goal.returns-in-Ok-clause-found
returns-in-Ok-clause-found g c =
    found_on (g.D.Told.outside c.args.disk.now) (g.D.Told.outside c.attach.new.self) c.in-Ok.found.0 c.in-Ok.found.1 c.in_default.ensures.uses.first c.in_default.ensures.effects c.in-Ok.ensures.recovers c.in-Ok.ensures.rules c.in-Ok.ensures.named

pub returns-in-Ok-clause-counts : goal.returns-in-Ok-clause-counts
returns-in-Ok-clause-counts g c = fallen_never _ _ _ (disk_counts c.in_default.ensures.uses) (disk_counts c.in-Ok.ensures.uses)

pub returns-in-Err-recover_from-clause-cause : goal.returns-in-Err-recover_from-clause-cause
returns-in-Err-recover_from-clause-cause g c =
    rw c.of_store.ensures (not_recovered (Option Current × Book) (g.D.Told.outside c.args.disk.now) (g.D.Told.outside c.attach.new.self) (g.D.Told.outside c.recover_from.new.disk) _ c.in-Err-recover_from.fault c.in_default.ensures.uses.first c.in_default.ensures.effects
    (disk_counts c.in_default.ensures.uses) c.in-Err-recover_from.ensures.cause c.in-Err-recover_from.ensures.uses)

pub returns-in-Err-recover_from-clause-counts : goal.returns-in-Err-recover_from-clause-counts
returns-in-Err-recover_from-clause-counts g c = fallen_never _ _ _ (disk_counts c.in_default.ensures.uses) (disk_counts c.in-Err-recover_from.ensures.uses)
