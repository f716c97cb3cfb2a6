use Rattle.session_replay.proofs.rerun.journal_of.Goals as goal

pub returns-in-Ok-clause-stands : goal.returns-in-Ok-clause-stands
returns-in-Ok-clause-stands c = (c.in-Ok.recovered.1, c.in-Ok.ensures.recovers)
