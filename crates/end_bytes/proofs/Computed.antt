-- Each worked pair computes.
use Rattle.std.specs.Prelude.{refl}
use Rattle.std.specs.Str.{is_utf8, chars}
use Rattle.std.specs.Fmt.{digits}
use Rattle.hex.specs.Hex.{encode_with}
use lib.Utf8.{encode}
use Rattle.ice_values.specs.Frames.{body_at, both_at, cut as cut_body, ended, means_at}
use Rattle.ice_values.specs.Properties.{array8_at}
use Rattle.ice_values.specs.Reading.{after_at, many_at, nothing_at, pair_at, proof_data_at, text16_at, version_at}
use Rattle.ice_framing.specs.Frames.{cut}
use Rattle.ice_messages.specs.Reading.{authentication_reply_at, authentication_required_at, byte_order_at, connection_reply_at, connection_setup_at, decode_at as ice_at, lists_at, makers_at, offer_at, protocol_at, protocol_reply_at, protocol_setup_at}
use Rattle.xsmp_messages.specs.Reading.{decode_at as xsmp_at, flagged_at, save_yourself_at, valued_at}
use Rattle.end_bytes.specs.Examples.{AClientRegisters, AClientSaves, AConnectionIsGreeted}

pub a-connection-is-greeted : AConnectionIsGreeted
a-connection-is-greeted = record { up = refl; down = refl; said_up = refl; said_down = refl }

pub a-client-registers : AClientRegisters
unfolding is_utf8 chars digits encode_with encode body_at both_at cut_body ended means_at array8_at after_at many_at nothing_at pair_at proof_data_at text16_at version_at cut authentication_reply_at authentication_required_at byte_order_at connection_reply_at connection_setup_at ice_at lists_at makers_at offer_at protocol_at protocol_reply_at protocol_setup_at xsmp_at valued_at
a-client-registers = record { said_up = refl; said_down = refl }

pub a-client-saves : AClientSaves
unfolding is_utf8 chars digits encode_with encode body_at both_at cut_body ended means_at array8_at after_at many_at nothing_at pair_at proof_data_at text16_at version_at cut authentication_reply_at authentication_required_at byte_order_at connection_reply_at connection_setup_at ice_at lists_at makers_at offer_at protocol_at protocol_reply_at protocol_setup_at xsmp_at valued_at flagged_at save_yourself_at
a-client-saves = record { said_up = refl; said_down = refl }
