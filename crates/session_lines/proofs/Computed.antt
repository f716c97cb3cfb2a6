-- What is noted of each worked front computes.
use Rattle.std.specs.Prelude.{refl}
use Rattle.ice_values.specs.Frames.{body_at, cut, ended, means_at}
use Rattle.ice_values.specs.Reading.{nothing_at}
use Rattle.xsmp_messages.specs.Reading.{decode_at, flagged_at}
use Rattle.session_lines.specs.Examples.{ADiscardIsNoted, APingIsNotNoted, ARefusedRequestIsNotNoted, ARequestIsNoted, AnEndIsNotedOnce, TheTokenIsNoted}

pub a_request_is_noted : ARequestIsNoted
unfolding decode_at flagged_at body_at cut ended means_at nothing_at
a_request_is_noted error = refl

pub a_refused_request_is_not_noted : ARefusedRequestIsNotNoted
a_refused_request_is_not_noted error = (refl, refl)

pub a_ping_is_not_noted : APingIsNotNoted
a_ping_is_not_noted = refl

pub the_token_is_noted : TheTokenIsNoted
unfolding decode_at flagged_at body_at cut ended means_at nothing_at
the_token_is_noted = (refl, refl)

pub a_discard_is_noted : ADiscardIsNoted
a_discard_is_noted = (refl, refl)

pub an_end_is_noted_once : AnEndIsNotedOnce
an_end_is_noted_once = refl
