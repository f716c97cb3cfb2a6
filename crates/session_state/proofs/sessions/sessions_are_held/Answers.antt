use Rattle.session_state.proofs.Computed.{a_snapshot_is_held, the_others_are_held, members_go_on, the_second_phase_is_noted, an_agreed_round_is_gone, a_checkpoint_waits, the_token_is_passed_on, the_token_is_given_back, a_cancelled_queue_is_empty, a_stray_is_held, a_book_takes_strays_up, a_respawn_is_counted, acts_are_in_order, an_id_of_another_session_is_refused, ids_of_another_session_are_known, entries_of_another_session_are_not_counted, what_another_session_needs_is_kept}
use Rattle.session_state.proofs.sessions.sessions_are_held.Goals as goal

pub returns : goal.returns
returns c = record {
  a_snapshot_is_held = a_snapshot_is_held;
  the_others_are_held = the_others_are_held;
  members_go_on = members_go_on;
  the_second_phase_is_noted = the_second_phase_is_noted;
  an_agreed_round_is_gone = an_agreed_round_is_gone;
  a_checkpoint_waits = a_checkpoint_waits;
  the_token_is_passed_on = the_token_is_passed_on;
  the_token_is_given_back = the_token_is_given_back;
  a_cancelled_queue_is_empty = a_cancelled_queue_is_empty;
  a_stray_is_held = a_stray_is_held;
  a_book_takes_strays_up = a_book_takes_strays_up;
  a_respawn_is_counted = a_respawn_is_counted;
  acts_are_in_order = acts_are_in_order;
  an_id_of_another_session_is_refused = an_id_of_another_session_is_refused;
  ids_of_another_session_are_known = ids_of_another_session_are_known;
  entries_of_another_session_are_not_counted = entries_of_another_session_are_not_counted;
  what_another_session_needs_is_kept = what_another_session_needs_is_kept;
}
