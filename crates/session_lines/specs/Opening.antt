-- How a line begins: which clients of the opened book are started again.
use Rattle.std.specs.Prelude.{List, [], map, ◌++◌, ◌≡◌}
use Rattle.owned_lists.specs.declared.commands.Command.{Command}
use Rattle.sm_world.specs.declared.events.Event.{Event}
use Rattle.session_engine.specs.declared.config.Config.{Config}
use Rattle.checkpoint_records.specs.declared.records.Book.{Book}
use Rattle.restart_plan.specs.Restarts.{opening_restarts}
use Rattle.session_engine.specs.declared.acts.Act.TheVariants.{Start}
use Rattle.session_model.specs.declared.events.Reason.TheVariants.{Restart}
use Rattle.session_lines.specs.Lines.{Does, Seen, events_in, line}

-- the command is started, since the run began over the book of its client
abbrev pub again : Command → Seen
again command = Does (Start Restart command)

-- Of each entry of the opened book whose hint isn't Never the RestartCommand is started, where it has one: in the order of the book, one
-- after another, and before anything is heard.
pub record BeginsAgain (book : Book) (seen : List Seen) : Type 0 where
  pub first : List Seen
  pub later : List Seen
  pub parts : first ++ (map again (opening_restarts book.entries) ++ later) ≡ seen
  pub deaf : events_in first ≡ []

-- so every line begins
abbrev pub LinesBeginAgain : Type 0
LinesBeginAgain = (config : Config) (book : Book) (events : List Event) → BeginsAgain book (line config book events)
