-- Causes of a start by which nothing is counted.
use Rattle.session_model.specs.declared.events.Reason.{Reason}
use Rattle.session_model.specs.declared.events.Reason.TheVariants.{Discard as ToDiscard, End as ToEnd, Resign as ToResign, Restart as ToRestart}
use Rattle.session_model.specs.Moves.{Cause, Discard, End, Resign, Restart}

-- the cause of a start for this reason, where no client departed
abbrev pub cause_for : Reason → Cause
cause_for ToRestart = Restart
cause_for ToDiscard = Discard
cause_for ToResign = Resign
cause_for ToEnd = End
