use Rattle.store_login.proofs.Carried.{got_and_failed, shelf_failed}
use Rattle.store_login.proofs.carrying.come_back.Goals as goal

pub returns-in-Err-clause-carries : goal.returns-in-Err-clause-carries
returns-in-Err-clause-carries g c = c.in-Err.ensures.err

pub returns-in-Ok-keep_result-clause-carries : goal.returns-in-Ok-keep_result-clause-carries
returns-in-Ok-keep_result-clause-carries g c = c.in-Ok.ensures.ok

pub returns-clause-carries : goal.returns-clause-carries
returns-clause-carries g c =
    got_and_failed c.args.journal c.args.login.present.now c.args.book.now (g.D.Told.outside c.args.disk.now).told (g.D.Told.outside c.keep_and_commit.new.disk).told c.in-Ok.ensures.ok

pub returns-clause-cause : goal.returns-clause-cause
returns-clause-cause g c = shelf_failed c.args.journal (g.D.Told.outside c.args.disk.now) (g.D.Told.outside c.keep_and_commit.new.disk) c.in-Err-keep_result.fault c.in-Err-keep_result.ensures
