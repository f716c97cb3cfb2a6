use Rattle.sm_world.specs.Worlds.{steady_outside}
use Rattle.session_replay.proofs.RerunLemmas.{book_written}
use Rattle.session_replay.proofs.rerun.write_book.Goals as goal

pub returns-in-Ok-clause-holds : goal.returns-in-Ok-clause-holds
returns-in-Ok-clause-holds c =
    book_written (steady_outside c.args.world.now) (steady_outside c.journal_of.new.world) (steady_outside c.compact.new.disk) c.requires.fresh.0 c.args.book.now c.in_ok-journal.ensures.stands.0 c.in_ok-journal.journal c.in-Ok.journal
    c.requires.fresh.1 c.in_ok-journal.ensures.same c.in-Ok.ensures.uses.first c.in_ok-journal.ensures.stands.1 c.in-Ok.ensures.effects
