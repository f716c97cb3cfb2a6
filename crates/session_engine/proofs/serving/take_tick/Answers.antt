use Rattle.session_engine.proofs.Performing.{told_none}
use Rattle.session_engine.proofs.serving.take_tick.Goals as goal

pub returns-in-Err-clause-carried : goal.returns-in-Err-clause-carried
returns-in-Err-clause-carried g c = λ m shows. record { acts = told_none _ _ _; shows = λ e. absurd cc }
