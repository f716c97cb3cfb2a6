-- What somebody sees and notes who watches a session from outside: what comes, and what the manager does about it. He
-- knows neither phases nor rounds.
use Rattle.std.specs.Prelude.{List, [], cond, map, reverse, ℕ, ◌++◌, ◌==◌, ◌∷◌}
use Rattle.owned_lists.specs.declared.commands.Command.{Command}
use Rattle.sm_world.specs.declared.events.Order.{Order}
use Rattle.checkpoint_records.specs.declared.records.Book.{Book}
use Rattle.xsmp_messages.specs.declared.message.XsmpMessage.{XsmpMessage}
use Rattle.session_model.specs.declared.events.SessionEvent.{SessionEvent}
use Rattle.session_model.specs.declared.events.SessionEvent.TheVariants.{Left, Operator, Said}
use Rattle.session_model.specs.declared.events.Act.{Act}
use Rattle.session_model.specs.declared.events.Act.TheVariants.{Blame, Commit, Say, Shut, Start}
use Rattle.session_model.specs.declared.events.Reason.{Reason}
use Rattle.session_model.specs.Moves.{History, Move, Opened, Outside, acts_of, ◌▷◌}

-- What is seen

pub data Entry : Type 0 where
  -- this came from outside
  Came : SessionEvent → Entry
  -- the manager did this
  Did : Act → Entry

-- What is seen of a move. How rounds begin and end is not seen.
abbrev pub entries_of : Move → List Entry
entries_of (Outside event) = Came event ∷ []
entries_of m = map Did (acts_of m)

-- all that is seen of a history, the oldest first
abbrev pub entries : History → List Entry
entries (Opened opening) = []
entries (m ▷ h) = entries h ++ entries_of m

-- what came from outside, among what is seen
abbrev pub came_in : List Entry → List SessionEvent
came_in [] = []
came_in (Came event ∷ seen) = event ∷ came_in seen
came_in (Did act ∷ seen) = came_in seen

-- the acts among what is seen
abbrev pub acts_in : List Entry → List Act
acts_in [] = []
acts_in (Came event ∷ seen) = acts_in seen
acts_in (Did act ∷ seen) = act ∷ acts_in seen

-- What is noted

pub data Note : Type 0 where
  -- a message of this connection was accepted
  Heard : ℕ → XsmpMessage → Note
  -- the connection was sent a message
  Given : ℕ → XsmpMessage → Note
  -- the connection is gone: the outside ended it, or it was shut
  Gone : ℕ → Note
  -- a book was written
  Wrote : Book → Note
  -- a command was started, for this reason
  Started : Reason → Command → Note
  -- the operator ordered this
  Ordered : Order → Note

-- What is noted of entries, both the latest first. A message is refused where the entry directly behind it is an Error to its
-- connection, and isn't noted then.
abbrev pub noted : List Entry → List Note
noted [] = []
noted (Did (Blame c error) ∷ Came (Said d m sequence frame) ∷ seen) = cond (d == c) (noted seen) (Heard d m ∷ noted seen)
noted (Came (Said c m sequence frame) ∷ seen) = Heard c m ∷ noted seen
noted (Came (Left c) ∷ seen) = Gone c ∷ noted seen
noted (Came (Operator order) ∷ seen) = Ordered order ∷ noted seen
noted (Did (Say c m) ∷ seen) = Given c m ∷ noted seen
noted (Did (Shut c) ∷ seen) = Gone c ∷ noted seen
noted (Did (Commit book) ∷ seen) = Wrote book ∷ noted seen
noted (Did (Start reason command) ∷ seen) = Started reason command ∷ noted seen
noted (entry ∷ seen) = noted seen

-- what is noted of entries, which stand the oldest first, as they are seen; the notes stand the latest first
abbrev pub notes : List Entry → List Note
notes seen = noted (reverse seen)
