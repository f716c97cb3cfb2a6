-- How often a talk asks a window to close.
use Rattle.std.specs.Prelude.{ℕ, ◌+◌, ◌≤◌, IsTrue, Bool, ◌==◌, cond, List, [], ◌∷◌}
use Rattle.std.specs.List.{AllByRecursion, list_any}
use Rattle.program_keeper.specs.Talking.{disturbed, passed, turn_taken}
use Rattle.program_keeper.specs.Windows.{is_target}
use Rattle.program_keeper.specs.declared.talk.Move.{Move}
use Rattle.program_keeper.specs.declared.talk.Move.TheVariants.{Close}
use Rattle.program_keeper.specs.declared.talk.UserTalk.{UserTalk}
use Rattle.program_keeper.specs.declared.windows.Window.{Window}

-- what comes to a talk: a turn over these windows, that something has changed, and so many milliseconds
pub data Moment : Type 0 where
  Turns : List Window → Moment
  Disturbs : Moment
  Passes : List Window → ℕ → Bool → Moment

abbrev pub behind_moment : Moment → UserTalk → UserTalk
behind_moment (Turns windows) talk = (turn_taken windows talk).next
behind_moment Disturbs talk = disturbed talk
behind_moment (Passes windows elapsed answered) talk = passed windows elapsed answered talk

-- one where the move asks this window to close
abbrev pub closes_by : ℕ → Move → ℕ
closes_by number (Close other) = cond (other == number) 1 0
closes_by number move = 0

abbrev pub closes_at : ℕ → Moment → UserTalk → ℕ
closes_at number (Turns windows) talk = closes_by number (turn_taken windows talk).move
closes_at number moment talk = 0

-- how often this window is asked to close in all that comes
abbrev pub closes : ℕ → UserTalk → List Moment → ℕ
closes number talk [] = 0
closes number talk (moment ∷ more) = closes_at number moment talk + closes number (behind_moment moment talk) more

-- the main window of this number stands, where it is a turn
abbrev pub StandsAt : ℕ → Moment → Type 0
StandsAt number (Turns windows) = IsTrue (list_any (is_target number) windows)
StandsAt number moment = Unit {0}

-- A window that stands at each turn is asked to close once, and three times again at most.
abbrev pub ClosesAreFew : Type 0
ClosesAreFew = (number : ℕ) (talk : UserTalk) (moments : List Moment) → AllByRecursion (StandsAt number) moments → closes number talk moments ≤ 4
