-- What is held after each worked session computes.
use Rattle.std.specs.Prelude.{refl}
use Rattle.std.specs.Str.{is_utf8, chars}
use Rattle.std.specs.Fmt.{digits}
use Rattle.hex.specs.Hex.{encode_with}
use lib.Utf8.{encode}
use Rattle.session_state.specs.Examples.{ASnapshotIsHeld, TheOthersAreHeld, MembersGoOn, TheSecondPhaseIsNoted, AnAgreedRoundIsGone, ACheckpointWaits, TheTokenIsPassedOn, TheTokenIsGivenBack, ACancelledQueueIsEmpty, AStrayIsHeld, ABookTakesStraysUp, ARespawnIsCounted, ActsAreInOrder, AnIdOfAnotherSessionIsRefused, IdsOfAnotherSessionAreKnown, EntriesOfAnotherSessionAreNotCounted, WhatAnotherSessionNeedsIsKept}

pub a_snapshot_is_held : ASnapshotIsHeld
unfolding encode_with is_utf8 chars encode digits
a_snapshot_is_held = refl

pub the_others_are_held : TheOthersAreHeld
unfolding encode_with is_utf8 chars encode digits
the_others_are_held = refl

pub members_go_on : MembersGoOn
unfolding encode_with is_utf8 chars encode digits
members_go_on = refl

pub the_second_phase_is_noted : TheSecondPhaseIsNoted
unfolding encode_with is_utf8 chars encode digits
the_second_phase_is_noted = refl

pub an_agreed_round_is_gone : AnAgreedRoundIsGone
unfolding encode_with is_utf8 chars encode digits
an_agreed_round_is_gone = refl

pub a_checkpoint_waits : ACheckpointWaits
unfolding encode_with is_utf8 chars encode digits
a_checkpoint_waits = refl

pub the_token_is_passed_on : TheTokenIsPassedOn
unfolding encode_with is_utf8 chars encode digits
the_token_is_passed_on = refl

pub the_token_is_given_back : TheTokenIsGivenBack
unfolding encode_with is_utf8 chars encode digits
the_token_is_given_back = refl

pub a_cancelled_queue_is_empty : ACancelledQueueIsEmpty
unfolding encode_with is_utf8 chars encode digits
a_cancelled_queue_is_empty = refl

pub a_stray_is_held : AStrayIsHeld
unfolding encode_with is_utf8 chars encode digits
a_stray_is_held = refl

pub a_book_takes_strays_up : ABookTakesStraysUp
unfolding encode_with is_utf8 chars encode digits
a_book_takes_strays_up = refl

pub a_respawn_is_counted : ARespawnIsCounted
unfolding encode_with is_utf8 chars encode digits
a_respawn_is_counted = refl

pub acts_are_in_order : ActsAreInOrder
unfolding encode_with is_utf8 chars encode digits
acts_are_in_order = refl

pub an_id_of_another_session_is_refused : AnIdOfAnotherSessionIsRefused
unfolding encode_with is_utf8 chars encode digits
an_id_of_another_session_is_refused = refl

pub ids_of_another_session_are_known : IdsOfAnotherSessionAreKnown
unfolding encode_with is_utf8 chars encode digits
ids_of_another_session_are_known = (refl, refl)

pub entries_of_another_session_are_not_counted : EntriesOfAnotherSessionAreNotCounted
unfolding encode_with is_utf8 chars encode digits
entries_of_another_session_are_not_counted = refl

pub what_another_session_needs_is_kept : WhatAnotherSessionNeedsIsKept
unfolding encode_with is_utf8 chars encode digits
what_another_session_needs_is_kept = refl
