use Rattle.std.proofs.Common.{rules, ◌≡◌, ◌<◌, ◌≤◌, length, ap, arith, inl, ◌∙◌}
use Rattle.session_engine.specs.Carries.{IsRecovered}
use Rattle.session_engine.specs.Machine.{start}
use Rattle.session_engine.proofs.Loop.{opens, opens_not, recovered_by}
use Rattle.session_engine.proofs.Standing.{few_beside}
use Rattle.session_engine.proofs.session.Session.start.Goals as goal

pub returns-then-as_slice-gt-OTHERS_LIMIT-clause-starts : goal.returns-then-as_slice-gt-OTHERS_LIMIT-clause-starts
returns-then-as_slice-gt-OTHERS_LIMIT-clause-starts g c =
    let found : IsRecovered (g.W.Told.outside c.args.world.now) c.in-Ok.recovered.1 c.in-Ok.recovered.0.journal = recovered_by (g.W.Told.outside c.args.world.now) (g.W.Told.outside c.recover_from.new.disk) c.in-Ok.recovered.1 c.in-Ok.recovered.0.journal (g.met.W.Disk.sized c.recover_from.new.disk) c.in-Ok.ensures.uses.first c.in-Ok.ensures.size c.in-Ok.ensures.recovers in
    let count : length c.in-Ok.recovered.1.others ≡ 8 = omega (arith, ap length c.as_slice-2.ensures, c.if-as_slice-gt-OTHERS_LIMIT.true, few_beside c.in-Ok.recovered.1 c.in-Ok.ensures.rules) in
    inl (record { told = c.in-Ok.ensures.told; kept = c.in-Ok.ensures.kept; cause = (c.in-Ok.ensures.size, (c.in-Ok.recovered.1, c.in-Ok.recovered.0.journal, record { recovered = found; called = c.in-Ok.ensures.called ∙ c.as_slice.ensures; rules = c.in-Ok.ensures.rules }, count)) })

pub returns-then-book-clause-starts : goal.returns-then-book-clause-starts
returns-then-book-clause-starts g c =
    let found : IsRecovered (g.W.Told.outside c.args.world.now) c.in-Ok.recovered.1 c.in-Ok.recovered.0.journal = recovered_by (g.W.Told.outside c.args.world.now) (g.W.Told.outside c.recover_from.new.disk) c.in-Ok.recovered.1 c.in-Ok.recovered.0.journal (g.met.W.Disk.sized c.recover_from.new.disk) c.in-Ok.ensures.uses.first c.in-Ok.ensures.size c.in-Ok.ensures.recovers in
    let few : length c.in-Ok.recovered.1.others ≤ 7 = omega (arith, ap length c.as_slice-2.ensures, c.if-as_slice-gt-OTHERS_LIMIT.false) in
    inl (record { told = c.in-Ok.ensures.told; kept = c.in-Ok.ensures.kept; cause = (c.in-Ok.ensures.size, (c.in-Ok.recovered.1, c.in-Ok.recovered.0.journal, record { recovered = found; called = c.in-Ok.ensures.called ∙ c.as_slice.ensures; rules = c.in-Ok.ensures.rules }, few, c.if-book.true)) })

pub returns-in-Ok-open-clause-starts : goal.returns-in-Ok-open-clause-starts
returns-in-Ok-open-clause-starts g c =
    let found : IsRecovered (g.W.Told.outside c.args.world.now) c.in-Ok.recovered.1 c.in-Ok.recovered.0.journal = recovered_by (g.W.Told.outside c.args.world.now) (g.W.Told.outside c.recover_from.new.disk) c.in-Ok.recovered.1 c.in-Ok.recovered.0.journal (g.met.W.Disk.sized c.recover_from.new.disk) c.in-Ok.ensures.uses.first c.in-Ok.ensures.size c.in-Ok.ensures.recovers in
    let below : c.in-Ok.recovered.1.epoch < 4294967295 = search rules in
    let few : length c.in-Ok.recovered.1.others ≤ 7 = omega (arith, ap length c.as_slice-2.ensures, c.if-as_slice-gt-OTHERS_LIMIT.false) in
    opens c.args.config (g.W.Told.outside c.args.world.now) (g.W.Told.outside c.recover_from.new.disk) (g.W.Told.outside c.open.new.world) c.in-Ok.recovered.1 c.in-Ok.recovered.0 c.in-Ok-open.session c.in-Ok.ensures.same found (c.in-Ok.ensures.called ∙ c.as_slice.ensures) few (c.in-Ok-open.ensures.alone.size ∙ c.in-Ok.ensures.size) below c.in-Ok.ensures.rules c.in-Ok.ensures.told c.in-Ok-open.ensures.done c.in-Ok-open.ensures.shows

pub returns-in-Ok-open-clause-shown : goal.returns-in-Ok-open-clause-shown
returns-in-Ok-open-clause-shown g c = (start c.args.config c.in-Ok.recovered.1, c.in-Ok-open.ensures.shows)

pub returns-in-Err-open-clause-starts : goal.returns-in-Err-open-clause-starts
returns-in-Err-open-clause-starts g c =
    let found : IsRecovered (g.W.Told.outside c.args.world.now) c.in-Ok.recovered.1 c.in-Ok.recovered.0.journal = recovered_by (g.W.Told.outside c.args.world.now) (g.W.Told.outside c.recover_from.new.disk) c.in-Ok.recovered.1 c.in-Ok.recovered.0.journal (g.met.W.Disk.sized c.recover_from.new.disk) c.in-Ok.ensures.uses.first c.in-Ok.ensures.size c.in-Ok.ensures.recovers in
    let below : c.in-Ok.recovered.1.epoch < 4294967295 = search rules in
    let few : length c.in-Ok.recovered.1.others ≤ 7 = omega (arith, ap length c.as_slice-2.ensures, c.if-as_slice-gt-OTHERS_LIMIT.false) in
    opens_not c.args.config (g.W.Told.outside c.args.world.now) (g.W.Told.outside c.recover_from.new.disk) (g.W.Told.outside c.open.new.world) c.in-Ok.recovered.1 c.in-Ok.recovered.0 c.in-Err-open.halt c.fault.result c.in-Ok.ensures.same c.fault.ensures found (c.in-Ok.ensures.called ∙ c.as_slice.ensures) few (c.in-Err-open.ensures.alone.size ∙ c.in-Ok.ensures.size) below c.in-Ok.ensures.rules c.in-Ok.ensures.told c.in-Err-open.ensures.done
