use Rattle.store_login.proofs.Carried.{broken_off, nothing_begun, shelf_failed}
use Rattle.store_login.proofs.carrying.keep_and_commit.Goals as goal

pub returns-in-Err-clause-err : goal.returns-in-Err-clause-err
returns-in-Err-clause-err g c = nothing_begun c.args.journal c.args.login.present.now c.args.book.now (g.D.Told.outside c.args.disk.now).told

pub returns-in-Err-clause-cause : goal.returns-in-Err-clause-cause
returns-in-Err-clause-cause g c = shelf_failed c.args.journal (g.D.Told.outside c.args.disk.now) (g.D.Told.outside c.args.disk.now) c.in-Err.fault c.in-Err.ensures

pub returns-in-Err-commit-clause-err : goal.returns-in-Err-commit-clause-err
returns-in-Err-commit-clause-err g c = broken_off c.args.journal c.args.login.present.now c.args.book.now (g.D.Told.outside c.args.disk.now).told (g.D.Told.outside c.commit.new.disk).told c.in-Err-commit.ensures.err
