-- Who does what to whom: what happens on one connection, against another.
use Rattle.std.specs.Prelude.{Bool, List, None, Option, Some, [], cond, false, map, true, ℕ, ◌++◌, ◌==◌, ◌||◌, ◌∷◌, ◌≡◌, ◌≢◌}
use Rattle.std.specs.List.{AllByRecursion}
use Rattle.sm_world.specs.declared.events.Event.{Event}
use Rattle.sm_world.specs.declared.events.Event.TheVariants.{Gone, Joined, Piece}
use Rattle.checkpoint_records.specs.declared.records.Book.{Book}
use Rattle.interact_queue.specs.Queue.{is_in}
use Rattle.xsmp_messages.specs.declared.message.XsmpMessage.TheVariants.{Die, Interact, SaveComplete, SaveYourself, SaveYourselfPhase2, ShutdownCancelled}
use Rattle.session_model.specs.Readings as of
use Rattle.session_engine.specs.Machine.{Does, Entry, Machine, Step, Took, connection_of, step}
use Rattle.session_engine.specs.declared.acts.Act.TheVariants.{Say, Shut}
use Rattle.protocol_messages.specs.declared.message.Message.{Message}
use Rattle.protocol_messages.specs.declared.message.Message.TheVariants.{Xsmp}
use Rattle.session_notes.specs.Keeping.{id_in, table_in}
use Rattle.session_lines.specs.Lines.{Comes, Seen, notes, seen_of}

-- the connection on which something happens
abbrev pub conn_of : Event → Option ℕ
conn_of (Joined c) = Some c
conn_of (Piece c bytes) = Some c
conn_of (Gone c) = Some c
conn_of event = None

-- a message of a round, of the token or of the logout
abbrev pub is_of_round : Message → Bool
is_of_round (Xsmp (SaveYourself kind shutdown style fast)) = true
is_of_round (Xsmp SaveYourselfPhase2) = true
is_of_round (Xsmp Interact) = true
is_of_round (Xsmp SaveComplete) = true
is_of_round (Xsmp ShutdownCancelled) = true
is_of_round (Xsmp Die) = true
is_of_round message = false

-- No part of this connection's stream is taken, and it is sent nothing but these messages. It is shut only where it isn't registered
-- and a logout was agreed.
abbrev pub Spares : ℕ → Machine → Machine → Entry → Type 0
Spares d before after (Took e part) = e ≢ d
Spares d before after (Does (Say e message)) = e ≡ d → is_of_round message ≡ true
Spares d before after (Does (Shut e)) = e ≡ d → (is_in d (of.registered before.session) ≡ false) × (of.is_ending after.session ≡ true)
Spares d before after entry = Unit {0}

-- this connection is shut
abbrev pub is_shut : ℕ → List Entry → Bool
is_shut d [] = false
is_shut d (Does (Shut e) ∷ line) = e == d || is_shut d line
is_shut d (entry ∷ line) = is_shut d line

-- A step spares a connection in all that it does. Unless the connection is shut, it stays as it was: its set-up, its stream, and how
-- many parts of it were taken.
pub record LeavesAlone (d : ℕ) (m : Machine) (s : Step) : Type 0 where
  pub spares : AllByRecursion (Spares d m s.next) s.line
  pub connection : connection_of d s.next.connections ≡ cond (is_shut d s.line) None (connection_of d m.connections)

-- what happens on one connection leaves every other alone
abbrev pub OthersAreLeftAlone : Type 0
OthersAreLeftAlone = (m : Machine) (event : Event) (c d : ℕ) → conn_of event ≡ Some c → d ≢ c → LeavesAlone d m (step m event)

-- of this connection the same ID and the same table are noted
pub record IsNotedAlike (book : Book) (d : ℕ) (before after : List Seen) : Type 0 where
  pub id : id_in d (notes after) ≡ id_in d (notes before)
  pub table : table_in book d (notes after) ≡ table_in book d (notes before)

-- What happens on one connection changes neither the ID nor the table of another, unless that is shut.
abbrev pub NotesOfOthersStay : Type 0
NotesOfOthersStay =
    (book : Book) (seen : List Seen) (m : Machine) (event : Event) (c d : ℕ) → conn_of event ≡ Some c → d ≢ c → is_shut d (step m event).line ≡ false
    → IsNotedAlike book d seen (seen ++ Comes event ∷ map seen_of (step m event).line)
