-- The rounds of a session: the one that runs, how far all are, and those that wait.
use Rattle.std.specs.Prelude.{Bool, List, None, Option, Some, [], false, true, ℕ, ◌∷◌}
use Rattle.round_agreement.specs.declared.wanted.Wanted.{Wanted}
use Rattle.round_agreement.specs.Agreement.{Agreement, agreed, deserted, two_ready}
use Rattle.session_model.specs.declared.marks.Marks.{Marks}
use Rattle.session_model.specs.declared.phase.Phase.{Phase}
use Rattle.session_model.specs.declared.waits.Wait.{Wait}
use Rattle.session_model.specs.Moves.{Move}
use Rattle.session_model.specs.Reading.{wanted_in}
use Rattle.session_model.specs.Readings.{marks_after}
use Rattle.session_state.specs.Session.{round_after}
use Rattle.session_rounds.specs.declared.running.Progress.{Progress}
use Rattle.session_rounds.specs.declared.running.Progress.TheVariants.{Agreement as Agreed, Deserted, Idle, Saving, SecondPhase}

-- The round that runs

-- the round that runs, and how far the rounds of all clients are
pub record Running : Type 0 where
  pub round : Option Agreement
  pub marks : Marks

-- no round has run yet
abbrev pub none_ran : Running
none_ran = record { round = None; marks = record { begun = 0; ended = 0; agreed = 0 } }

-- after a move, where the clients are in these phases
abbrev pub running_after : Move → (ℕ → Option Phase) → Running → Running
running_after m phase r = record { round = round_after m phase r.round; marks = marks_after m (wanted_in r.round) r.marks }

-- a member of the running round is at such a step
abbrev pub is_member_at : (ℕ → Agreement → Bool) → ℕ → Option Agreement → Bool
is_member_at test c None = false
is_member_at test c (Some round) = test c round

-- a round runs whose second phase can begin
abbrev pub may_begin_second : Option Agreement → Bool
may_begin_second None = false
may_begin_second (Some round) = two_ready round.members

-- by whether the second phase can begin, all members agree, and all have left
abbrev pub progress_by : Bool → Bool → Bool → Progress
progress_by true agree left = SecondPhase
progress_by false true left = Agreed
progress_by false false true = Deserted
progress_by false false false = Saving

abbrev pub progress_with : Agreement → Progress
progress_with round = progress_by (two_ready round.members) (agreed round) (deserted round)

abbrev pub progress_of : Option Agreement → Progress
progress_of None = Idle
progress_of (Some round) = progress_with round

-- The rounds that wait

-- what the first of them is for
abbrev pub first_wanted : List Wait → Option Wanted
first_wanted [] = None
first_wanted (wait ∷ waits) = Some wait.wanted
