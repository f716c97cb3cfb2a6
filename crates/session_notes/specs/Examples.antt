-- Worked sessions, of which the definitions compute what is noted. Each begins with the empty book.
use Rattle.std.specs.Prelude.{List, None, Some, [], codes, false, take, true, ◌++◌, ◌∷◌, ◌≡◌, ℕ}
use Rattle.sm_world.specs.declared.events.Order.TheVariants.{Checkpoint, Forget, Shutdown}
use Rattle.ice_values.specs.declared.saves.SaveKind.TheVariants.{Both}
use Rattle.ice_values.specs.declared.saves.SaveStyle.TheVariants.{Errors}
use Rattle.ice_values.specs.declared.saves.Dialog.TheVariants.{Normal}
use Rattle.ice_values.specs.declared.property.Property.{Property}
use Rattle.checkpoint_records.specs.Books.{empty_book}
use Rattle.xsmp_messages.specs.declared.message.XsmpMessage.TheVariants.{InteractDone, InteractRequest, SaveYourself, SaveYourselfDone, SaveYourselfPhase2Request, SaveYourselfRequest, SetProperties}
use Rattle.session_model.specs.declared.events.SessionEvent.{SessionEvent}
use Rattle.session_model.specs.declared.events.SessionEvent.TheVariants.{Left, Operator}
use Rattle.session_model.specs.Rules.{opened, run}
use Rattle.session_model.specs.Examples.{asks_all, discards_by, entry_1, first_book, hints, keeping, log_in_and_save, logs_in, logs_in_as, removes, saved, says, sets, waits_forever}
use Rattle.session_notes.specs.Notes.{Given, Heard, Note, entries, notes}
use Rattle.session_notes.specs.Watching.{has_answered, has_token, is_to_save, requests, was_asked}
use Rattle.session_notes.specs.Kept.{kept_in}
use Rattle.session_notes.specs.Keeping.{book_in, given_ids, id_in, is_discarded, is_newcomer, new_ids, snapshot_in}

-- what is noted after these events
abbrev pub notes_after : List SessionEvent → List Note
notes_after events = notes (entries (run (opened (waits_forever empty_book)) events))

-- two clients that save with any dialog, and both ask for the token
abbrev pub two_ask : List SessionEvent
two_ask = log_in_and_save (1 ∷ 2 ∷ []) ++ asks_all ∷ says 1 (InteractRequest Normal) ∷ says 2 (InteractRequest Normal) ∷ []

-- the first of them has the token, and the request of the other is open
abbrev pub TheTokenIsNoted : Type 0
TheTokenIsNoted = (has_token 1 (notes_after two_ask) ≡ true) × (has_token 2 (notes_after two_ask) ≡ false) × (requests (notes_after two_ask) ≡ 2 ∷ [])

-- the token goes on where its holder gives it back, and where it leaves
abbrev pub TheTokenGoesOn : Type 0
TheTokenGoesOn =
    (has_token 1 (notes_after (two_ask ++ says 1 (InteractDone false) ∷ [])) ≡ false)
    × (has_token 2 (notes_after (two_ask ++ says 1 (InteractDone false) ∷ [])) ≡ true)
    × (has_token 2 (notes_after (two_ask ++ Left 1 ∷ [])) ≡ true)

-- a request that is answered by an Error isn't noted, and none is open
abbrev pub ARefusedRequestIsNotNoted : Type 0
ARefusedRequestIsNotNoted =
    take 2 (notes_after (log_in_and_save (1 ∷ []) ++ says 1 (SaveYourselfRequest Both false Errors false true) ∷ says 1 (InteractRequest Normal) ∷ []))
    ≡ Given 1 (SaveYourself Both false Errors false) ∷ Heard 1 (SaveYourselfRequest Both false Errors false true) ∷ []

-- one that has the token cancels a shutdown
abbrev pub one_cancels : List SessionEvent
one_cancels = log_in_and_save (1 ∷ 2 ∷ []) ++ Operator Shutdown ∷ says 1 (InteractRequest Normal) ∷ says 2 (InteractRequest Normal) ∷ says 1 (InteractDone true) ∷ []

-- nobody has the token or asks for it then, and nobody is to save
abbrev pub ACancelledShutdownIsNoted : Type 0
ACancelledShutdownIsNoted =
    (has_token 1 (notes_after one_cancels) ≡ false) × (requests (notes_after one_cancels) ≡ [])
    × (was_asked 2 (notes_after one_cancels) ≡ false) × (is_to_save 2 (notes_after one_cancels) ≡ false)

-- a checkpoint of two clients, of which one wants the second phase
abbrev pub one_wants_two : List SessionEvent
one_wants_two = log_in_and_save (1 ∷ 2 ∷ []) ++ Operator Checkpoint ∷ says 1 SaveYourselfPhase2Request ∷ []

-- both are to save until both have, and one has answered
abbrev pub AnswersAreNoted : Type 0
AnswersAreNoted =
    (is_to_save 1 (notes_after one_wants_two) ≡ true) × (has_answered 1 (notes_after one_wants_two) ≡ true)
    × (is_to_save 2 (notes_after one_wants_two) ≡ true) × (has_answered 2 (notes_after one_wants_two) ≡ false)
    × (is_to_save 2 (notes_after (one_wants_two ++ saved 2 ∷ saved 1 ∷ [])) ≡ false)

-- a new client that says what it keeps, and saves
abbrev pub one_saves : List SessionEvent
one_saves = logs_in 1 ++ says 1 (SetProperties (keeping (codes "a"))) ∷ saved 1 ∷ []

-- its ID is a new one, its snapshot is what it said, and both stand in the book
abbrev pub ASaveIsNoted : Type 0
ASaveIsNoted =
    (id_in 1 (notes_after one_saves) ≡ Some (codes "smd-00000001-00000001")) × (new_ids (notes_after one_saves) ≡ codes "smd-00000001-00000001" ∷ [])
    × (snapshot_in empty_book 1 (notes_after one_saves) ≡ Some (keeping (codes "a"))) × (book_in empty_book (notes_after one_saves) ≡ first_book (entry_1 (codes "a") ∷ []) [])

-- the client leaves and comes back under its ID, and another asks for a new one
abbrev pub one_comes_back : List SessionEvent
one_comes_back = one_saves ++ Left 1 ∷ logs_in_as 2 (codes "smd-00000001-00000001") ++ logs_in 3

-- a recorded ID that is given again is no new one
abbrev pub ARecordedIdIsNotNew : Type 0
ARecordedIdIsNotNew =
    (new_ids (notes_after one_comes_back) ≡ codes "smd-00000001-00000002" ∷ codes "smd-00000001-00000001" ∷ [])
    × (given_ids (notes_after one_comes_back) ≡ codes "smd-00000001-00000002" ∷ codes "smd-00000001-00000001" ∷ codes "smd-00000001-00000001" ∷ [])
    × (is_newcomer 2 (notes_after one_comes_back) ≡ false) × (is_newcomer 3 (notes_after one_comes_back) ≡ true)

-- the snapshot is gone as the client is asked to save again
abbrev pub AnOldSnapshotIsGone : Type 0
AnOldSnapshotIsGone = snapshot_in empty_book 1 (notes_after (one_saves ++ Operator Checkpoint ∷ [])) ≡ None

-- a save takes the place of another
abbrev pub one_saves_again : List SessionEvent
one_saves_again = one_saves ++ Operator Checkpoint ∷ sets 1 (discards_by (codes "b")) ∷ saved 1 ∷ []

-- the old state is discarded, until the client names it again
abbrev pub ADiscardIsNoted : Type 0
ADiscardIsNoted =
    (is_discarded (removes (codes "a")) (notes_after one_saves_again) ≡ true) × (is_discarded (removes (codes "b")) (notes_after one_saves_again) ≡ false)
    × (is_discarded (removes (codes "a")) (notes_after (one_saves_again ++ sets 1 (discards_by (codes "a")) ∷ [])) ≡ false)

-- What is kept

abbrev pub first_id : List ℕ
first_id = codes "smd-00000001-00000001"

-- the tables of which one is sure to stand under the first client's ID, after these events
abbrev pub kept_after : List SessionEvent → List (List Property)
kept_after events = kept_in empty_book first_id (notes_after events)

-- a save that is complete is kept, and one that fails later ends nothing
abbrev pub ASaveIsKept : Type 0
ASaveIsKept = (kept_after one_saves ≡ keeping (codes "a") ∷ []) × (kept_after (one_saves ++ Operator Checkpoint ∷ says 1 (SaveYourselfDone false) ∷ []) ≡ keeping (codes "a") ∷ [])

-- two clients save again, and the first has told its success
abbrev pub one_is_done : List SessionEvent
one_is_done = one_saves ++ logs_in 2 ++ saved 2 ∷ Operator Checkpoint ∷ sets 1 (discards_by (codes "b")) ∷ saved 1 ∷ []

-- either table may stand, until all have saved
abbrev pub ALaterSaveIsKept : Type 0
ALaterSaveIsKept = (kept_after one_is_done ≡ keeping (codes "a") ∷ keeping (codes "b") ∷ []) × (kept_after (one_is_done ++ saved 2 ∷ []) ≡ keeping (codes "b") ∷ [])

-- a client that leaves and whose hint doesn't let its entry stay
abbrev pub WhoLeavesIsLetGo : Type 0
WhoLeavesIsLetGo = kept_after (one_saves ++ Left 1 ∷ []) ≡ []

-- a client with the hint Anyway saves, and leaves
abbrev pub anyway : List Property
anyway = hints 1 ∷ keeping (codes "a")

abbrev pub one_stays : List SessionEvent
one_stays = logs_in 1 ++ says 1 (SetProperties anyway) ∷ saved 1 ∷ []

-- its entry stays, until somebody has it forgotten while it isn't there
abbrev pub WhoIsForgottenIsLetGo : Type 0
WhoIsForgottenIsLetGo =
    (kept_after (one_stays ++ Operator (Forget first_id) ∷ []) ≡ anyway ∷ []) × (kept_after (one_stays ++ Left 1 ∷ []) ≡ anyway ∷ []) × (kept_after (one_stays ++ Left 1 ∷ Operator (Forget first_id) ∷ []) ≡ [])

-- what is saved as a shutdown is agreed is kept too
abbrev pub ALogoutIsKept : Type 0
ALogoutIsKept = kept_after (one_saves ++ Operator Shutdown ∷ sets 1 (discards_by (codes "b")) ∷ saved 1 ∷ []) ≡ keeping (codes "b") ∷ []
