-- Worked sessions, and what is held after each. Each begins with the empty book, where no other is named.
use Rattle.std.specs.Prelude.{List, None, Option, Some, [], codes, false, map, replicate, true, ℕ, ◌++◌, ◌∷◌, ◌≡◌}
use Rattle.sm_world.specs.declared.events.Order.TheVariants.{Checkpoint, Shutdown, Status}
use Rattle.ice_values.specs.declared.saves.Dialog.TheVariants.{Normal}
use Rattle.ice_values.specs.declared.property.Property.{Property}
use Rattle.ice_values.specs.declared.severity.Severity.TheVariants.{CanContinue, FatalToProtocol}
use Rattle.checkpoint_records.specs.Books.{default_name, empty_book}
use Rattle.checkpoint_records.specs.Rules.{client_id}
use Rattle.checkpoint_records.specs.declared.records.Book.{Book}
use Rattle.checkpoint_records.specs.declared.records.Entry.{Entry}
use Rattle.xsmp_messages.specs.declared.message.XsmpMessage.TheVariants.{InteractDone, InteractRequest, RegisterClientReply, SaveComplete, SaveYourselfDone, SaveYourselfPhase2Request, SetProperties}
use Rattle.round_agreement.specs.declared.round.Member.{Member}
use Rattle.round_agreement.specs.declared.round.Step.{Step}
use Rattle.round_agreement.specs.declared.round.Step.TheVariants.{Done, Saving, SavingTwo, WantsTwo}
use Rattle.round_agreement.specs.Agreement.{Agreement}
use Rattle.session_model.specs.declared.phase.Phase.TheVariants.{Idle}
use Rattle.session_model.specs.declared.events.Act.TheVariants.{Blame, Commit, Say, Unset}
use Rattle.session_model.specs.declared.events.SessionEvent.{SessionEvent}
use Rattle.session_model.specs.declared.events.SessionEvent.TheVariants.{Left, Operator}
use Rattle.session_model.specs.Waits.{checkpoint_wait}
use Rattle.session_model.specs.Examples.{asks_all, asks_for_save, discards_by, hints, keeping, log_in_and_save, logs_in, logs_in_as, prints, removes, restarts, saved, says, sets, up_to, waits_forever}
use Rattle.session_state.specs.Session.{Session, opened_in, taken_in}

-- after these events more
abbrev pub held_from : Session → List SessionEvent → Session
held_from s [] = s
held_from s (event ∷ events) = held_from (taken_in event s) events

-- after these events of a run that opens this book
abbrev pub held_over : Book → List SessionEvent → Session
held_over book events = held_from (opened_in (waits_forever book)) events

-- after these events
abbrev pub held_after_all : List SessionEvent → Session
held_after_all events = held_over empty_book events

-- a member of a round, and how far it is
abbrev pub member : ℕ → Step → Member
member c step = record { conn = c; step = step }

-- the operator's checkpoint of these members
abbrev pub checkpoint_of : List Member → Option Agreement
checkpoint_of members = Some (record { members = members; began_empty = false; wanted = checkpoint_wait.wanted })

-- Clients

-- what a client says of itself, and what of that was saved
abbrev pub own_table : List Property
own_table = restarts (codes "c") ∷ []

-- A client that saved is idle, and its snapshot is the table that it had then.
abbrev pub ASnapshotIsHeld : Type 0
ASnapshotIsHeld =
    (held_after_all (logs_in 1 ++ says 1 (SetProperties own_table) ∷ saved 1 ∷ sets 1 (hints 1) ∷ [])).clients
    ≡ record {
      rows = record { conn = 1; phase = Some Idle; id = Some (codes "smd-00000001-00000001"); table = own_table ++ hints 1 ∷ []; saved = Some own_table; quiet = 0 } ∷ [];
      registered = 1 ∷ [];
    }

-- who left is no client any more
abbrev pub TheOthersAreHeld : Type 0
TheOthersAreHeld = (held_after_all (log_in_and_save (1 ∷ 2 ∷ 3 ∷ []) ++ Left 2 ∷ [])).clients.registered ≡ 1 ∷ 3 ∷ []

-- Rounds

-- A member that saved is done, with success or without; one that wants the second phase waits for it; one that left is no member.
abbrev pub MembersGoOn : Type 0
MembersGoOn =
    (held_after_all (log_in_and_save (up_to 5) ++ Operator Checkpoint ∷ saved 1 ∷ says 2 SaveYourselfPhase2Request ∷ Left 3 ∷ says 4 (SaveYourselfDone false) ∷ [])).round
    ≡ checkpoint_of (member 1 (Done true) ∷ member 2 WantsTwo ∷ member 4 (Done false) ∷ member 5 Saving ∷ [])

-- when the last one is done, who waited for the second phase saves in it
abbrev pub TheSecondPhaseIsNoted : Type 0
TheSecondPhaseIsNoted =
    (held_after_all (log_in_and_save (1 ∷ 2 ∷ []) ++ Operator Checkpoint ∷ says 2 SaveYourselfPhase2Request ∷ saved 1 ∷ [])).round
    ≡ checkpoint_of (member 1 (Done true) ∷ member 2 SavingTwo ∷ [])

-- a round that was agreed is gone
abbrev pub AnAgreedRoundIsGone : Type 0
AnAgreedRoundIsGone = (held_after_all (log_in_and_save (1 ∷ []) ++ Operator Checkpoint ∷ saved 1 ∷ [])).round ≡ None

-- another checkpoint waits while one runs
abbrev pub ACheckpointWaits : Type 0
ACheckpointWaits = (held_after_all (log_in_and_save (1 ∷ []) ++ Operator Checkpoint ∷ Operator Checkpoint ∷ [])).waits ≡ checkpoint_wait ∷ []

-- The token

-- the next one has it when its holder leaves
abbrev pub TheTokenIsPassedOn : Type 0
TheTokenIsPassedOn =
    (held_after_all (log_in_and_save (1 ∷ 2 ∷ 3 ∷ []) ++ asks_all ∷ says 1 (InteractRequest Normal) ∷ says 3 (InteractRequest Normal) ∷ says 2 (InteractRequest Normal) ∷ Left 1 ∷ [])).turns
    ≡ record { waiting = 2 ∷ []; holder = Some 3 }

-- who gives it back has it no more
abbrev pub TheTokenIsGivenBack : Type 0
TheTokenIsGivenBack =
    (held_after_all (log_in_and_save (1 ∷ []) ++ asks_all ∷ says 1 (InteractRequest Normal) ∷ says 1 (InteractDone false) ∷ [])).turns
    ≡ record { waiting = []; holder = None }

-- after a shutdown was cancelled nobody waits for the token, and nobody has it
abbrev pub ACancelledQueueIsEmpty : Type 0
ACancelledQueueIsEmpty =
    (held_after_all (log_in_and_save (1 ∷ 2 ∷ []) ++ Operator Shutdown ∷ says 1 (InteractRequest Normal) ∷ says 2 (InteractRequest Normal) ∷ says 1 (InteractDone true) ∷ [])).turns
    ≡ record { waiting = []; holder = None }

-- Books

-- a client's command that nobody needs any more is a stray until the next book is written
abbrev pub AStrayIsHeld : Type 0
AStrayIsHeld = (held_after_all (log_in_and_save (1 ∷ []) ++ sets 1 (discards_by (codes "a")) ∷ sets 1 (discards_by (codes "b")) ∷ [])).strays ≡ removes (codes "a") ∷ []

abbrev pub ABookTakesStraysUp : Type 0
ABookTakesStraysUp =
    (held_after_all (log_in_and_save (1 ∷ []) ++ sets 1 (discards_by (codes "a")) ∷ sets 1 (discards_by (codes "b")) ∷ Operator Checkpoint ∷ saved 1 ∷ [])).strays ≡ []

-- a client that was started again at once is counted under its ID
abbrev pub ARespawnIsCounted : Type 0
ARespawnIsCounted =
    (held_after_all (logs_in 1 ++ says 1 (SetProperties (restarts (codes "c") ∷ hints 2 ∷ [])) ∷ saved 1 ∷ Left 1 ∷ [])).counts
    ≡ (codes "smd-00000001-00000001", 1) ∷ []

-- Acts

-- what was done since the last event came, in its order
abbrev pub ActsAreInOrder : Type 0
ActsAreInOrder = (held_after_all (log_in_and_save (1 ∷ 2 ∷ []) ++ Operator Checkpoint ∷ [])).acts ≡ prints (codes "ok") ∷ asks_for_save 1 ∷ asks_for_save 2 ∷ []

-- Beside another session

-- a book of epoch 1 with these entries, beside a session `work` with those
abbrev pub beside_work : List Entry → List Entry → Book
beside_work entries theirs = record { entries = entries; pending = []; epoch = 1; name = default_name; others = record { name = codes "work"; entries = theirs } ∷ [] }

-- the n-th client of the first run, with this file to be discarded
abbrev pub kept_entry : ℕ → List ℕ → Entry
kept_entry n file = record { id = client_id 1 n; table = keeping file }

-- an ID of the other session is refused, as one that the book doesn't have
abbrev pub AnIdOfAnotherSessionIsRefused : Type 0
AnIdOfAnotherSessionIsRefused =
    (held_over (beside_work [] (kept_entry 1 (codes "a") ∷ [])) (logs_in_as 1 (client_id 1 1))).acts
    ≡ Blame 1 (record { class = 32771; minor = 1; severity = CanContinue; sequence = 9; values = 8 ∷ 0 ∷ 0 ∷ 0 ∷ 32 ∷ 0 ∷ 0 ∷ 0 ∷ 21 ∷ 0 ∷ 0 ∷ 0 ∷ codes "smd-00000001-00000001" ++ replicate 7 0 }) ∷ []

-- with 127 IDs in the other session there is room for one more, and with 128 there is none
abbrev pub IdsOfAnotherSessionAreKnown : Type 0
IdsOfAnotherSessionAreKnown =
    ((held_over (beside_work [] (map (λ n. kept_entry n []) (up_to 127))) (logs_in 1)).acts ≡ Say 1 (RegisterClientReply (codes "smd-00000002-00000001")) ∷ asks_for_save 1 ∷ [])
    × ((held_over (beside_work [] (map (λ n. kept_entry n []) (up_to 128))) (logs_in 1)).acts
    ≡ Blame 1 (record { class = 32771; minor = 1; severity = FatalToProtocol; sequence = 9; values = 8 ∷ 0 ∷ 0 ∷ 0 ∷ 8 ∷ 0 ∷ 0 ∷ 0 ∷ replicate 8 0 }) ∷ Unset 1 ∷ [])

-- the status counts the entries of the session that runs
abbrev pub EntriesOfAnotherSessionAreNotCounted : Type 0
EntriesOfAnotherSessionAreNotCounted =
    (held_over (beside_work (kept_entry 1 [] ∷ []) (kept_entry 2 [] ∷ kept_entry 3 [] ∷ [])) (Operator Status ∷ [])).acts
    ≡ prints (codes "connections 0, records 1, pending 0, epoch 2, idle") ∷ []

-- Both sessions have the same to be discarded. As the one that runs has something else in its place, nothing is started and nothing is
-- pending, and the other session stays.
abbrev pub WhatAnotherSessionNeedsIsKept : Type 0
WhatAnotherSessionNeedsIsKept =
    (held_over (beside_work (kept_entry 1 (codes "a") ∷ []) (kept_entry 2 (codes "a") ∷ [])) (logs_in_as 1 (client_id 1 1) ++ sets 1 (discards_by (codes "b")) ∷ Operator Checkpoint ∷ saved 1 ∷ [])).acts
    ≡ Commit (record (beside_work (kept_entry 1 (codes "b") ∷ []) (kept_entry 2 (codes "a") ∷ [])) { epoch = 2 }) ∷ Say 1 SaveComplete ∷ []
