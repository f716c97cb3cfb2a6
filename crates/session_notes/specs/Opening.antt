-- How a run begins, as it is seen: which clients of the opened book are started again.
use Rattle.std.specs.Prelude.{List, [], map, ◌++◌, ◌≡◌}
use Rattle.owned_lists.specs.declared.commands.Command.{Command}
use Rattle.checkpoint_records.specs.declared.records.Book.{Book}
use Rattle.restart_plan.specs.Restarts.{opening_restarts}
use Rattle.session_model.specs.declared.events.Act.TheVariants.{Start}
use Rattle.session_model.specs.declared.events.Reason.TheVariants.{Restart}
use Rattle.session_model.specs.declared.events.SessionEvent.{SessionEvent}
use Rattle.session_model.specs.Moves.{Opening}
use Rattle.session_model.specs.Rules.{opened, run}
use Rattle.session_notes.specs.Notes.{Did, Entry, came_in, entries}

-- the command was started, since a run began over the book of its client
abbrev pub again : Command → Entry
again command = Did (Start Restart command)

-- Of each entry of the opened book whose hint isn't Never the RestartCommand was started, where it has one: in the order of the book, one
-- after another, and before anything came.
pub record BeginsAgain (book : Book) (seen : List Entry) : Type 0 where
  pub first : List Entry
  pub later : List Entry
  pub parts : first ++ (map again (opening_restarts book.entries) ++ later) ≡ seen
  pub deaf : came_in first ≡ []

-- so every run begins
abbrev pub RunsBeginAgain : Type 0
RunsBeginAgain = (opening : Opening) (events : List SessionEvent) → BeginsAgain opening.book (entries (run (opened opening) events))
