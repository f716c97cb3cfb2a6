-- What ticks have to do with the clock. All times are in milliseconds.
use Rattle.std.specs.Prelude.{ℕ, ◌+◌, ◌≤◌, List, [], ◌∷◌, Result, Ok, Err}
use Rattle.sm_world.specs.declared.events.Event.{Event}
use Rattle.sm_world.specs.declared.events.Event.TheVariants.{Joined, Piece, Gone, Operator, Tick, End}
use Rattle.sm_world.specs.declared.failures.Failure.{Failure}

pub data Moment : Type 0 where
  -- somebody was given something, or was heard, as the clock showed so much
  Given : ℕ → Moment
  -- a tick told so much
  Told : ℕ → Moment

-- what the ticks told in all
abbrev pub told_in : List Moment → ℕ
told_in [] = 0
told_in (Given at ∷ moments) = told_in moments
told_in (Told passed ∷ moments) = passed + told_in moments

-- As the clock shows `now`, the ticks behind each thing that somebody was given or said have told no more than what went by on it since.
abbrev pub IsTimely : ℕ → List Moment → Type 0
IsTimely now [] = Unit {0}
IsTimely now (Given at ∷ moments) = (at + told_in moments ≤ now) × IsTimely now moments
IsTimely now (Told passed ∷ moments) = IsTimely now moments

-- how much time an event tells
abbrev pub passed_in : Event → ℕ
passed_in (Tick passed) = passed
passed_in (Joined conn) = 0
passed_in (Piece conn bytes) = 0
passed_in (Gone conn) = 0
passed_in (Operator order) = 0
passed_in End = 0

-- how much time a call tells
abbrev pub passed_by : Result Event Failure → ℕ
passed_by (Ok event) = passed_in event
passed_by (Err failure) = 0

-- what an event is that is told as the clock shows so much: time, or somebody who is heard
abbrev pub moment_of : ℕ → Event → Moment
moment_of now (Tick passed) = Told passed
moment_of now (Joined conn) = Given now
moment_of now (Piece conn bytes) = Given now
moment_of now (Gone conn) = Given now
moment_of now (Operator order) = Given now
moment_of now End = Given now

abbrev pub moments_of : ℕ → Result Event Failure → List Moment
moments_of now (Ok event) = moment_of now event ∷ []
moments_of now (Err failure) = []
