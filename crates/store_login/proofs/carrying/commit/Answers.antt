use Rattle.std.proofs.Common.{Option}
use Rattle.sm_world.proofs.Adding.{never_fallen}
use Rattle.checkpoint_slots.specs.declared.turn.Current.{Current}
use Rattle.store_return.proofs.Carrying.{exchange_carrying}
use Rattle.store_login.proofs.Carried.{came_to, got}
use Rattle.store_login.proofs.carrying.commit.Goals as goal

pub exchange_books-requires-clause-old_rules : goal.exchange_books-requires-clause-old_rules
exchange_books-requires-clause-old_rules g c = c.requires.old.0

pub exchange_books-requires-clause-old_chosen : goal.exchange_books-requires-clause-old_chosen
exchange_books-requires-clause-old_chosen g c = c.requires.old.1

pub exchange_books-requires-clause-rules : goal.exchange_books-requires-clause-rules
exchange_books-requires-clause-rules g c = c.requires.new.0

pub exchange_books-requires-clause-chosen : goal.exchange_books-requires-clause-chosen
exchange_books-requires-clause-chosen g c = c.requires.new.1

pub returns-in-Ok-clause-ok : goal.returns-in-Ok-clause-ok
returns-in-Ok-clause-ok g c = got c.args.journal c.args.present.now c.args.book.now (g.D.Told.outside c.args.disk.now).told (g.D.Told.outside c.exchange_books.new.disk).told c.in-Ok.last c.in-Ok.ensures.effects

pub returns-in-Err-clause-err : goal.returns-in-Err-clause-err
returns-in-Err-clause-err g c =
    came_to c.args.journal c.args.present.now c.args.book.now (g.D.Told.outside c.args.disk.now).told (g.D.Told.outside c.exchange_books.new.disk).told c.in-Err.fault c.in-Err.ensures.effects

pub returns-in-Err-clause-cause : goal.returns-in-Err-clause-cause
returns-in-Err-clause-cause g c =
    rw c.of_store.ensures (exchange_carrying c.args.journal (g.D.Told.outside c.args.disk.now) (Option Current) (g.D.Told.outside c.args.disk.now) (g.D.Told.outside c.exchange_books.new.disk) c.in-Err.fault (never_fallen (g.D.Told.outside c.args.disk.now).faults)
    c.in-Err.ensures.why_not c.in-Err.ensures.uses)
