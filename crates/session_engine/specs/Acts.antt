-- What the manager does, one act after the other, and what of it the outside can see.
use Rattle.std.specs.Prelude.{ℕ, ◌+◌, Bool, true, false, List, [], ◌∷◌, ◌++◌, Option, Some, None, if◌then◌else◌}
use Rattle.std.specs.List.{flat_map}
use Rattle.sm_world.specs.Effects.{Deed, Sends, Shuts, Starts, Prints}
use Rattle.checkpoint_records.specs.Rules.{KeepsRules}
use Rattle.checkpoint_records.specs.declared.records.Book.{Book}
use Rattle.xsmp_messages.specs.declared.message.XsmpMessage.TheVariants.{Error as XsmpError}
use Rattle.session_model.specs.declared.events.Act.{Act as SessionAct}
use Rattle.session_model.specs.declared.events.Act.TheVariants.{Say as SaysXsmp, Blame, Unset, Shut as ShutsConn, Start as StartsCommand, Commit as Commits, Print as PrintsLine, Finish as Finishes}
use Rattle.session_engine.specs.Messages.{spelled}
use Rattle.protocol_messages.specs.Messages.{IsTooLong}
use Rattle.session_engine.specs.declared.acts.Act.{Act}
use Rattle.session_engine.specs.declared.acts.Act.TheVariants.{Say, Shut, Start, Commit, Print, Finish}
use Rattle.protocol_messages.specs.declared.message.Message.{Message}
use Rattle.protocol_messages.specs.declared.message.Message.TheVariants.{Xsmp}

-- What an act is to the outside: a deed, a book that the store has from then on, or nothing. A line is printed with its newline.
pub data Kind : Type 0 where
  Shown : Deed → Kind
  Saved : Book → Kind
  Hidden : Kind

abbrev pub kind_of : Act → Kind
kind_of (Say conn message) = Shown (Sends conn (spelled message))
kind_of (Shut conn) = Shown (Shuts conn)
kind_of (Start reason command) = Shown (Starts command)
kind_of (Commit book) = Saved book
kind_of (Print text) = Shown (Prints (text ++ 10 ∷ []))
kind_of Finish = Hidden

abbrev pub deeds_by : Kind → List Deed
deeds_by (Shown deed) = deed ∷ []
deeds_by (Saved book) = []
deeds_by Hidden = []

abbrev pub deed_in : Act → List Deed
deed_in act = deeds_by (kind_of act)

-- the deeds among acts, in their order
abbrev pub deeds_in : List Act → List Deed
deeds_in acts = flat_map deed_in acts

-- the book that the store has after an act, where it had one before
abbrev pub book_by : Book → Kind → Book
book_by before (Shown deed) = before
book_by before (Saved book) = book
book_by before Hidden = before

abbrev pub book_with : Book → Act → Book
book_with before act = book_by before (kind_of act)

-- the checkpoint that stands once these acts are done: the book of the last commit among them, or the one that stood before
abbrev pub book_after : Book → List Act → Book
book_after before [] = before
book_after before (act ∷ acts) = book_after (book_with before act) acts

abbrev pub books_by : Kind → List Book
books_by (Shown deed) = []
books_by (Saved book) = book ∷ []
books_by Hidden = []

abbrev pub book_in : Act → List Book
book_in act = books_by (kind_of act)

-- the books that are committed, in their order
abbrev pub books_in : List Act → List Book
books_in acts = flat_map book_in acts

-- how often a book is written
abbrev pub commits_by : Kind → ℕ
commits_by (Shown deed) = 0
commits_by (Saved book) = 1
commits_by Hidden = 0

abbrev pub commits_in : List Act → ℕ
commits_in [] = 0
commits_in (act ∷ acts) = commits_by (kind_of act) + commits_in acts

-- it ends the run
abbrev pub is_finish : Act → Bool
is_finish (Say conn message) = false
is_finish (Shut conn) = false
is_finish (Start reason command) = false
is_finish (Commit book) = false
is_finish (Print text) = false
is_finish Finish = true

abbrev pub has_finish : List Act → Bool
has_finish [] = false
has_finish (act ∷ acts) = if is_finish act then true else has_finish acts

-- a message in it has a spelling that is not too long, and a book in it keeps the rules of the store
abbrev pub CanBeDone : Act → Type 0
CanBeDone (Say conn message) = ¬ (IsTooLong message)
CanBeDone (Shut conn) = Unit {0}
CanBeDone (Start reason command) = Unit {0}
CanBeDone (Commit book) = KeepsRules book
CanBeDone (Print text) = Unit {0}
CanBeDone Finish = Unit {0}

-- what is said to a client, if anything
abbrev pub says : ℕ → Option Message → List Act
says c None = []
says c (Some message) = Say c message ∷ []

-- what is done about an act of the session: an Error of XSMP is sent as any message of XSMP, and where XSMP ends on a
-- connection, nothing is done to the outside
abbrev pub acts_for : SessionAct → List Act
acts_for (SaysXsmp conn message) = Say conn (Xsmp message) ∷ []
acts_for (Blame conn error) = Say conn (Xsmp (XsmpError error)) ∷ []
acts_for (Unset conn) = []
acts_for (ShutsConn conn) = Shut conn ∷ []
acts_for (StartsCommand reason command) = Start reason command ∷ []
acts_for (Commits book) = Commit book ∷ []
acts_for (PrintsLine text) = Print text ∷ []
acts_for Finishes = Finish ∷ []

abbrev pub acts_for_all : List SessionAct → List Act
acts_for_all acts = flat_map acts_for acts
