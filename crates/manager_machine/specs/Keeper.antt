-- What the manager is to those who call it: a session that stands for a history, or one that was stopped.
use Rattle.std.specs.Prelude.{Bool, List, [], false, ◌≡◌}
use Rattle.std.specs.List.{AllByRecursion}
use Rattle.ice_values.specs.declared.numbers.Endian.TheVariants.{Lsb}
use Rattle.checkpoint_records.specs.Rules.{KeepsRules}
use Rattle.xsmp_messages.specs.Messages.{IsTooLong}
use Rattle.xsmp_messages.specs.declared.message.XsmpMessage.TheVariants.{Error}
use Rattle.session_model.specs.declared.events.Act.{Act}
use Rattle.session_model.specs.declared.events.Act.TheVariants.{Blame, Commit, Say}
use Rattle.session_model.specs.Moves.{History}
use Rattle.session_state.specs.Session.{Session}
use Rattle.session_state.specs.Stands.{IsMade, Stands}

-- The manager

-- what is held of the session, and whether a call was refused in the midst of it
pub record Keeper : Type 0 where
  pub session : Session
  pub stopped : Bool

-- a manager that wasn't stopped, and holds what this history of a run says
pub record StandsFor (keeper : Keeper) (h : History) : Type 0 where
  pub running : keeper.stopped ≡ false
  pub made : IsMade h
  pub stands : Stands keeper.session h

-- there is a history of a run that the session stands for
abbrev pub IsOfRun : Session → Type 0
IsOfRun s = ∥ ((h : History) × IsMade h × Stands s h) ∥₁

-- Unless it was stopped, its session is that of a run, and no act is left in it.
abbrev pub IsKept : Bool → Session → Type 0
IsKept stopped s = stopped ≡ false → (s.acts ≡ []) × IsOfRun s

-- Acts

-- A message or an Error that is sent has a body of 65,536 bytes at most, and a book that is written keeps the rules of the store.
abbrev pub IsFit : Act → Type 0
IsFit (Say c m) = ¬ (IsTooLong Lsb m)
IsFit (Blame c error) = ¬ (IsTooLong Lsb (Error error))
IsFit (Commit book) = KeepsRules book
IsFit act = Unit {0}

abbrev pub AreFit : List Act → Type 0
AreFit acts = AllByRecursion IsFit acts
