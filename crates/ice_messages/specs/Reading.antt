-- The message that a frame spells, as a function of its bytes.
use Rattle.std.specs.Prelude.{ℕ, List, slice_index, Option, Result, Ok, Err, ◌==◌, if◌then◌else◌}
use Rattle.ice_values.specs.Reading.{text16_at, version_at, many_at, proof_data_at, nothing_at, pair_at, after_at}
use Rattle.ice_values.specs.Frames.{◌>>=◌, body_at, means_at, bool_meaning, order_meaning, error_at}
use Rattle.ice_values.specs.declared.numbers.Endian.{Endian}
use Rattle.ice_values.specs.declared.version.Version.{Version}
use Rattle.ice_values.specs.declared.refusals.DecodeRefusal.{DecodeRefusal}
use Rattle.ice_values.specs.declared.refusals.DecodeRefusal.TheVariants.{BadMinor}
use Rattle.ice_messages.specs.declared.message.IceMessage.{IceMessage}
use Rattle.ice_messages.specs.declared.message.IceMessage.TheVariants.{Error, ByteOrder, ConnectionSetup, AuthenticationRequired, AuthenticationReply, AuthenticationNextPhase, ConnectionReply, ProtocolSetup, ProtocolReply, Ping, PingReply, WantToClose, NoClose}
pub use Rattle.ice_values.specs.Frames.{Gives}

-- the vendor and the release
unfoldable pub makers_at : Endian → List ℕ → Option ((List ℕ × List ℕ) × List ℕ)
makers_at e bytes = pair_at (text16_at e) (text16_at e) bytes

-- so many names and versions
unfoldable pub lists_at : Endian → ℕ → ℕ → List ℕ → Option ((List (List ℕ) × List Version) × List ℕ)
lists_at e names offered bytes = pair_at (many_at (text16_at e) names) (many_at (version_at e) offered) bytes

-- the vendor and the release, the names and the versions
unfoldable pub offer_at : Endian → ℕ → ℕ → List ℕ → Option (((List ℕ × List ℕ) × (List (List ℕ) × List Version)) × List ℕ)
offer_at e names offered bytes = pair_at (makers_at e) (lists_at e names offered) bytes

-- the same after a name of a protocol
unfoldable pub protocol_at : Endian → ℕ → ℕ → List ℕ → Option ((List ℕ × ((List ℕ × List ℕ) × (List (List ℕ) × List Version))) × List ℕ)
protocol_at e names offered bytes = pair_at (text16_at e) (offer_at e names offered) bytes

-- a message without a body
unfoldable pub empty_at : IceMessage → List ℕ → Result IceMessage DecodeRefusal
empty_at m bytes = do
  end ← body_at nothing_at bytes
  Ok m

unfoldable pub byte_order_at : List ℕ → Result IceMessage DecodeRefusal
byte_order_at bytes = do
  end ← body_at nothing_at bytes
  order ← means_at order_meaning bytes 2
  Ok (ByteOrder order)

unfoldable pub connection_setup_at : Endian → List ℕ → Result IceMessage DecodeRefusal
connection_setup_at e bytes = do
  offer ← body_at (after_at 8 (offer_at e (slice_index bytes 3) (slice_index bytes 2))) bytes
  must ← means_at bool_meaning bytes 8
  Ok (ConnectionSetup must offer.0.0 offer.0.1 offer.1.0 offer.1.1)

unfoldable pub authentication_required_at : Endian → List ℕ → Result IceMessage DecodeRefusal
authentication_required_at e bytes = do
  proof ← body_at (proof_data_at e) bytes
  Ok (AuthenticationRequired (slice_index bytes 2) proof)

unfoldable pub authentication_reply_at : Endian → List ℕ → Result IceMessage DecodeRefusal
authentication_reply_at e bytes = do
  proof ← body_at (proof_data_at e) bytes
  Ok (AuthenticationReply proof)

unfoldable pub authentication_next_phase_at : Endian → List ℕ → Result IceMessage DecodeRefusal
authentication_next_phase_at e bytes = do
  proof ← body_at (proof_data_at e) bytes
  Ok (AuthenticationNextPhase proof)

unfoldable pub connection_reply_at : Endian → List ℕ → Result IceMessage DecodeRefusal
connection_reply_at e bytes = do
  makers ← body_at (makers_at e) bytes
  Ok (ConnectionReply (slice_index bytes 2) makers.0 makers.1)

unfoldable pub protocol_setup_at : Endian → List ℕ → Result IceMessage DecodeRefusal
protocol_setup_at e bytes = do
  setup ← body_at (after_at 8 (protocol_at e (slice_index bytes 9) (slice_index bytes 8))) bytes
  must ← means_at bool_meaning bytes 3
  Ok (ProtocolSetup (slice_index bytes 2) must setup.0 setup.1.0.0 setup.1.0.1 setup.1.1.0 setup.1.1.1)

unfoldable pub protocol_reply_at : Endian → List ℕ → Result IceMessage DecodeRefusal
protocol_reply_at e bytes = do
  makers ← body_at (makers_at e) bytes
  Ok (ProtocolReply (slice_index bytes 2) (slice_index bytes 3) makers.0 makers.1)

unfoldable pub ice_error_at : Endian → List ℕ → Result IceMessage DecodeRefusal
ice_error_at e bytes = do
  error ← error_at e bytes
  Ok (Error error)

unfoldable pub decode_at : Endian → List ℕ → Result IceMessage DecodeRefusal
decode_at e bytes =
    if slice_index bytes 1 == 0 then ice_error_at e bytes
    else if slice_index bytes 1 == 1 then byte_order_at bytes
    else if slice_index bytes 1 == 2 then connection_setup_at e bytes
    else if slice_index bytes 1 == 3 then authentication_required_at e bytes
    else if slice_index bytes 1 == 4 then authentication_reply_at e bytes
    else if slice_index bytes 1 == 5 then authentication_next_phase_at e bytes
    else if slice_index bytes 1 == 6 then connection_reply_at e bytes
    else if slice_index bytes 1 == 7 then protocol_setup_at e bytes
    else if slice_index bytes 1 == 8 then protocol_reply_at e bytes
    else if slice_index bytes 1 == 9 then empty_at Ping bytes
    else if slice_index bytes 1 == 10 then empty_at PingReply bytes
    else if slice_index bytes 1 == 11 then empty_at WantToClose bytes
    else if slice_index bytes 1 == 12 then empty_at NoClose bytes
    else Err BadMinor
