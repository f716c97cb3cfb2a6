-- Whether the run goes on, and who has the store then.
use Rattle.std.specs.Prelude.{Bool, true, false, if◌then◌else◌, Result, Ok, Err}
use Rattle.session_engine.specs.Store.{Stored}
use Rattle.session_engine.specs.declared.fault.Halt.{Halt}
use Rattle.session_engine.specs.declared.serving.Turn.{Turn}
use Rattle.session_engine.specs.declared.serving.Turn.TheVariants.{GoesOn, Ended}

abbrev pub is_end : Turn → Bool
is_end GoesOn = false
is_end Ended = true

-- the run ends in the first of two parts of it, or in the second
abbrev pub either : Bool → Bool → Bool
either first second = if first then true else second

-- who has the store's turn behind some acts
abbrev pub stored : Result (Stored × Turn) Halt → Result Stored Halt
stored (Ok done) = Ok done.0
stored (Err halt) = Err halt
