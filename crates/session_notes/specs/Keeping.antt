-- What notes say of what is kept: the book that stands, what clients say of themselves, and which states nobody needs. A run
-- begins with the book that was opened.
use Rattle.std.specs.Prelude.{Bool, List, None, Option, Some, [], cond, false, not, true, ℕ, ◌&&◌, ◌<◌, ◌==◌, ◌^◌, ◌||◌, ◌∷◌, ◌≡◌}
use Rattle.owned_lists.specs.declared.commands.Command.{Command}
use Rattle.ice_values.specs.declared.property.Property.{Property}
use Rattle.xsmp_properties.specs.Tables.{set_all, without_names}
use Rattle.xsmp_messages.specs.declared.message.XsmpMessage.TheVariants.{DeleteProperties, RegisterClient, RegisterClientReply, SaveYourself, SaveYourselfDone, SetProperties, ShutdownCancelled}
use Rattle.checkpoint_records.specs.declared.records.Book.{Book}
use Rattle.checkpoint_records.specs.Books.{same_command}
use Rattle.checkpoint_records.specs.Rules.{client_id}
use Rattle.round_agreement.specs.Agreement.{is_nil}
use Rattle.discard_ledger.specs.Discards.{discard_of}
use Rattle.session_model.specs.declared.events.Reason.TheVariants.{Discard}
use Rattle.session_model.specs.Tables.{first_table, is_same}
use Rattle.session_notes.specs.Notes.{Given, Gone, Heard, Note, Started, Wrote}
use Rattle.session_notes.specs.Watching.{was_asked}

-- the book that stands: the one that was written last, or the one that was opened
abbrev pub book_in : Book → List Note → Book
book_in opened [] = opened
book_in opened (Wrote book ∷ notes) = book
book_in opened (note ∷ notes) = book_in opened notes

-- IDs

-- the ID under which it is registered
abbrev pub id_in : ℕ → List Note → Option (List ℕ)
id_in c [] = None
id_in c (Given d (RegisterClientReply id) ∷ notes) = cond (d == c) (Some id) (id_in c notes)
id_in c (Gone d ∷ notes) = cond (d == c) None (id_in c notes)
id_in c (note ∷ notes) = id_in c notes

-- It asked for a new ID: the previous-ID of its latest RegisterClient is empty.
abbrev pub is_newcomer : ℕ → List Note → Bool
is_newcomer c [] = false
is_newcomer c (Heard d (RegisterClient previous) ∷ notes) = cond (d == c) (is_nil previous) (is_newcomer c notes)
is_newcomer c (Gone d ∷ notes) = not (d == c) && is_newcomer c notes
is_newcomer c (note ∷ notes) = is_newcomer c notes

-- all IDs that were given; the latest first
abbrev pub given_ids : List Note → List (List ℕ)
given_ids [] = []
given_ids (Given c (RegisterClientReply id) ∷ notes) = id ∷ given_ids notes
given_ids (note ∷ notes) = given_ids notes

-- the new IDs: those that answered an empty previous-ID; the latest first
abbrev pub new_ids : List Note → List (List ℕ)
new_ids [] = []
new_ids (Given c (RegisterClientReply id) ∷ notes) = cond (is_newcomer c notes) (id ∷ new_ids notes) (new_ids notes)
new_ids (note ∷ notes) = new_ids notes

-- an ID of the run of this epoch
pub record IsOfRun (epoch : ℕ) (id : List ℕ) : Type 0 where
  pub number : ℕ
  pub fits : number < 2 ^ 32
  pub is : id ≡ client_id epoch number

-- What clients say of themselves

-- Its table: all that it has set and not deleted since it registered. It begins with what the book that stood then had
-- under its ID.
abbrev pub table_in : Book → ℕ → List Note → List Property
table_in opened c [] = []
table_in opened c (Given d (RegisterClientReply id) ∷ notes) = cond (d == c) (first_table (book_in opened notes) id) (table_in opened c notes)
table_in opened c (Heard d (SetProperties list) ∷ notes) = cond (d == c) (set_all (table_in opened c notes) list) (table_in opened c notes)
table_in opened c (Heard d (DeleteProperties names) ∷ notes) = cond (d == c) (without_names names (table_in opened c notes)) (table_in opened c notes)
table_in opened c (Gone d ∷ notes) = cond (d == c) [] (table_in opened c notes)
table_in opened c (note ∷ notes) = table_in opened c notes

-- Its table as it said that its save was a success. There is none before that, from each SaveYourself on, and after that was
-- cancelled.
abbrev pub snapshot_in : Book → ℕ → List Note → Option (List Property)
snapshot_in opened c [] = None
snapshot_in opened c (Heard d (SaveYourselfDone true) ∷ notes) = cond (d == c && was_asked c notes) (Some (table_in opened c notes)) (snapshot_in opened c notes)
snapshot_in opened c (Given d (SaveYourself kind shutdown style fast) ∷ notes) = cond (d == c) None (snapshot_in opened c notes)
snapshot_in opened c (Given d ShutdownCancelled ∷ notes) = cond (d == c) None (snapshot_in opened c notes)
snapshot_in opened c (Gone d ∷ notes) = cond (d == c) None (snapshot_in opened c notes)
snapshot_in opened c (note ∷ notes) = snapshot_in opened c notes

-- Discards

-- Somebody sets this as his DiscardCommand by a list of properties. Where a list has a name twice, the last one counts.
abbrev pub sets_discard : Command → List Property → Bool
sets_discard command list = is_same command (discard_of (set_all [] list))

-- The command was started to discard a state, and nobody has set it as his DiscardCommand since.
abbrev pub is_discarded : Command → List Note → Bool
is_discarded command [] = false
is_discarded command (Started Discard other ∷ notes) = same_command command other || is_discarded command notes
is_discarded command (Heard c (SetProperties list) ∷ notes) = not (sets_discard command list) && is_discarded command notes
is_discarded command (note ∷ notes) = is_discarded command notes

-- the command was started to discard a state since the last book was written
abbrev pub is_started : Command → List Note → Bool
is_started command [] = false
is_started command (Wrote book ∷ notes) = false
is_started command (Started Discard other ∷ notes) = same_command command other || is_started command notes
is_started command (note ∷ notes) = is_started command notes
