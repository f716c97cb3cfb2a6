-- The line of the status.
use Rattle.std.specs.Prelude.{List, codes, decimal, ℕ, ◌++◌}
use Rattle.session_answers.specs.declared.status.Doing.{Doing}
use Rattle.session_answers.specs.declared.status.Doing.TheVariants.{Ending, Idle, Saving, ShuttingDown}
use Rattle.session_answers.specs.declared.status.Status.{Status}

abbrev pub doing_text : Doing → List ℕ
doing_text Idle = codes "idle"
doing_text Saving = codes "saving"
doing_text ShuttingDown = codes "shutdown"
doing_text Ending = codes "ending"

abbrev pub status_text : Status → List ℕ
status_text s =
    codes "connections " ++ decimal s.connections ++ codes ", records " ++ decimal s.records ++ codes ", pending " ++ decimal s.pending ++ codes ", epoch " ++ decimal s.epoch ++ codes ", " ++ doing_text s.doing
