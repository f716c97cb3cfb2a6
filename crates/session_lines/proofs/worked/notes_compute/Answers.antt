use Rattle.session_lines.proofs.Computed.{a_request_is_noted, a_refused_request_is_not_noted, a_ping_is_not_noted, the_token_is_noted, a_discard_is_noted, an_end_is_noted_once}
use Rattle.session_lines.proofs.worked.notes_compute.Goals as goal

pub returns : goal.returns
returns c = record {
  a_request_is_noted = a_request_is_noted;
  a_refused_request_is_not_noted = a_refused_request_is_not_noted;
  a_ping_is_not_noted = a_ping_is_not_noted;
  the_token_is_noted = the_token_is_noted;
  a_discard_is_noted = a_discard_is_noted;
  an_end_is_noted_once = an_end_is_noted_once;
}
