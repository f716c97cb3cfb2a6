use Rattle.std.proofs.Common.{[], ◌∷◌, ◌∙◌, ap, Ok, Err, Option, refl}
use Rattle.std.specs.Prelude.{option_copied}
use Rattle.sm_world.specs.Outside.{adds}
use Rattle.sm_world.specs.declared.effects.Effect.TheVariants.{Printed}
use Rattle.sm_world.proofs.Adding.{adds-none, fallen_never}
use Rattle.checkpoint_slots.specs.declared.turn.Current.{Current}
use Rattle.store_return.proofs.Carrying.{broken_off, console_carrying, disk_carrying, disk_counts, done, exchange_carrying, not_begun}
use Rattle.store_return.proofs.restoring.carry_out.Goals as goal

pub returns-in-Err-clause-carries : goal.returns-in-Err-clause-carries
returns-in-Err-clause-carries g c =
    not_begun c.args.journal c.args.present.now (option_copied c.args.beside) c.args.plan.now.book c.args.plan.now.text (g.W.Told.outside c.args.world.now).told (g.W.Told.outside c.put_aside.new.disk).told c.in-Err.fault c.in-Err.ensures.err

pub returns-in-Err-clause-cause : goal.returns-in-Err-clause-cause
returns-in-Err-clause-cause g c = disk_carrying c.args.journal (g.W.Told.outside c.args.world.now) (g.W.Told.outside c.put_aside.new.disk) c.in-Err.fault c.in-Err.ensures.cause

pub returns-in-Err-exchange_books-clause-carries : goal.returns-in-Err-exchange_books-clause-carries
returns-in-Err-exchange_books-clause-carries g c =
    broken_off c.args.journal c.args.present.now (option_copied c.args.beside) c.args.plan.now.book c.args.plan.now.text (g.W.Told.outside c.args.world.now).told (g.W.Told.outside c.put_aside.new.disk).told c.in_default.ensures.ok (Err c.in-Err-exchange_books.fault)
    (g.W.Told.outside c.exchange_books.new.disk).told (g.W.Told.outside c.exchange_books.new.disk).told c.of_store.result c.in-Err-exchange_books.ensures.effects refl

pub returns-in-Err-exchange_books-clause-cause : goal.returns-in-Err-exchange_books-clause-cause
returns-in-Err-exchange_books-clause-cause g c =
    rw c.of_store.ensures (exchange_carrying c.args.journal (g.W.Told.outside c.args.world.now) (Option Current) (g.W.Told.outside c.put_aside.new.disk) (g.W.Told.outside c.exchange_books.new.disk) c.in-Err-exchange_books.fault c.in_default.ensures.counts c.in-Err-exchange_books.ensures.why_not c.in-Err-exchange_books.ensures.uses)

pub returns-in-Err-exchange_books-clause-counts : goal.returns-in-Err-exchange_books-clause-counts
returns-in-Err-exchange_books-clause-counts g c = fallen_never _ _ _ c.in_default.ensures.counts (disk_counts c.in-Err-exchange_books.ensures.uses)

pub returns-in-Ok-tell-clause-carries : goal.returns-in-Ok-tell-clause-carries
returns-in-Ok-tell-clause-carries g c =
    done c.args.journal c.args.present.now (option_copied c.args.beside) c.args.plan.now.book c.args.plan.now.text (g.W.Told.outside c.args.world.now).told (g.W.Told.outside c.put_aside.new.disk).told c.in_default.ensures.ok c.in-Ok.last
    (g.W.Told.outside c.exchange_books.new.disk).told (g.W.Told.outside c.tell.new.world).told c.in-Ok.ensures.effects
    (c.in-Ok-tell.ensures.effects ∙ ap (λ text. adds (g.W.Told.outside c.exchange_books.new.disk).told (Printed text ∷ [])) c.as_slice.ensures)

pub returns-in-Ok-tell-clause-counts : goal.returns-in-Ok-tell-clause-counts
returns-in-Ok-tell-clause-counts g c = fallen_never _ _ _ (fallen_never _ _ _ c.in_default.ensures.counts (disk_counts c.in-Ok.ensures.uses)) c.in-Ok-tell.ensures.counts

pub returns-in-Err-tell-clause-carries : goal.returns-in-Err-tell-clause-carries
returns-in-Err-tell-clause-carries g c =
    broken_off c.args.journal c.args.present.now (option_copied c.args.beside) c.args.plan.now.book c.args.plan.now.text (g.W.Told.outside c.args.world.now).told (g.W.Told.outside c.put_aside.new.disk).told c.in_default.ensures.ok (Ok c.in-Ok.last)
    (g.W.Told.outside c.exchange_books.new.disk).told (g.W.Told.outside c.tell.new.world).told c.in-Err-tell.fault c.in-Ok.ensures.effects (c.in-Err-tell.ensures.effects ∙ adds-none (g.W.Told.outside c.exchange_books.new.disk).told)

pub returns-in-Err-tell-clause-cause : goal.returns-in-Err-tell-clause-cause
returns-in-Err-tell-clause-cause g c =
    console_carrying c.args.journal (g.W.Told.outside c.args.world.now) (g.W.Told.outside c.exchange_books.new.disk) (g.W.Told.outside c.tell.new.world) c.in-Err-tell.fault
    (fallen_never _ _ _ c.in_default.ensures.counts (disk_counts c.in-Ok.ensures.uses)) c.in-Err-tell.ensures.cause

pub returns-in-Err-tell-clause-counts : goal.returns-in-Err-tell-clause-counts
returns-in-Err-tell-clause-counts g c = fallen_never _ _ _ (fallen_never _ _ _ c.in_default.ensures.counts (disk_counts c.in-Ok.ensures.uses)) c.in-Err-tell.ensures.counts
