-- The message that a frame spells, as a function of its bytes.
use Rattle.std.specs.Prelude.{ℕ, List, slice_index, Option, Result, Ok, Err, IsOk, ◌==◌, if◌then◌else◌}
use Rattle.ice_values.specs.Reading.{nothing_at, after_at}
use Rattle.ice_values.specs.Properties.{array8_at, array8_list_at, property_list_at}
use Rattle.ice_values.specs.Frames.{◌>>=◌, body_at, means_at, bool_meaning, error_at}
use Rattle.ice_values.specs.Saves.{kind_meaning, style_meaning, dialog_meaning}
use Rattle.ice_values.specs.declared.numbers.Endian.{Endian}
use Rattle.ice_values.specs.declared.refusals.DecodeRefusal.{DecodeRefusal}
use Rattle.ice_values.specs.declared.refusals.DecodeRefusal.TheVariants.{BadMinor}
use Rattle.xsmp_messages.specs.declared.message.XsmpMessage.{XsmpMessage}
use Rattle.xsmp_messages.specs.declared.message.XsmpMessage.TheVariants.{Error, RegisterClient, RegisterClientReply, SaveYourself, SaveYourselfRequest, InteractRequest, Interact, InteractDone, SaveYourselfDone, Die, ShutdownCancelled, ConnectionClosed, SetProperties, DeleteProperties, GetProperties, GetPropertiesReply, SaveYourselfPhase2Request, SaveYourselfPhase2, SaveComplete}
pub use Rattle.ice_values.specs.Frames.{Gives}

-- a message whose body is one value
unfoldable pub valued_at : {A : Type 0} → (List ℕ → Option (A × List ℕ)) → (A → XsmpMessage) → List ℕ → Result XsmpMessage DecodeRefusal
valued_at read make bytes = do
  x ← body_at read bytes
  Ok (make x)

-- a message without a body
abbrev pub empty_at : XsmpMessage → List ℕ → Result XsmpMessage DecodeRefusal
empty_at m bytes = valued_at nothing_at (λ end. m) bytes

-- a message without a body, whose byte 2 is enumerated
unfoldable pub flagged_at : {A : Type 0} → (ℕ → Option A) → (A → XsmpMessage) → List ℕ → Result XsmpMessage DecodeRefusal
flagged_at meaning make bytes = do
  end ← body_at nothing_at bytes
  x ← means_at meaning bytes 2
  Ok (make x)

-- the two messages that ask for a save, whose bytes are read by their places
unfoldable pub save_yourself_at : List ℕ → Result XsmpMessage DecodeRefusal
save_yourself_at bytes = do
  end ← body_at (after_at 8 nothing_at) bytes
  kind ← means_at kind_meaning bytes 8
  shutdown ← means_at bool_meaning bytes 9
  style ← means_at style_meaning bytes 10
  fast ← means_at bool_meaning bytes 11
  Ok (SaveYourself kind shutdown style fast)

unfoldable pub save_yourself_request_at : List ℕ → Result XsmpMessage DecodeRefusal
save_yourself_request_at bytes = do
  end ← body_at (after_at 8 nothing_at) bytes
  kind ← means_at kind_meaning bytes 8
  shutdown ← means_at bool_meaning bytes 9
  style ← means_at style_meaning bytes 10
  fast ← means_at bool_meaning bytes 11
  global ← means_at bool_meaning bytes 12
  Ok (SaveYourselfRequest kind shutdown style fast global)

unfoldable pub xsmp_error_at : Endian → List ℕ → Result XsmpMessage DecodeRefusal
xsmp_error_at e bytes = do
  error ← error_at e bytes
  Ok (Error error)

unfoldable pub decode_at : Endian → List ℕ → Result XsmpMessage DecodeRefusal
decode_at e bytes =
    if slice_index bytes 1 == 0 then xsmp_error_at e bytes
    else if slice_index bytes 1 == 1 then valued_at (array8_at e) RegisterClient bytes
    else if slice_index bytes 1 == 2 then valued_at (array8_at e) RegisterClientReply bytes
    else if slice_index bytes 1 == 3 then save_yourself_at bytes
    else if slice_index bytes 1 == 4 then save_yourself_request_at bytes
    else if slice_index bytes 1 == 5 then flagged_at dialog_meaning InteractRequest bytes
    else if slice_index bytes 1 == 6 then empty_at Interact bytes
    else if slice_index bytes 1 == 7 then flagged_at bool_meaning InteractDone bytes
    else if slice_index bytes 1 == 8 then flagged_at bool_meaning SaveYourselfDone bytes
    else if slice_index bytes 1 == 9 then empty_at Die bytes
    else if slice_index bytes 1 == 10 then empty_at ShutdownCancelled bytes
    else if slice_index bytes 1 == 11 then valued_at (array8_list_at e) ConnectionClosed bytes
    else if slice_index bytes 1 == 12 then valued_at (property_list_at e) SetProperties bytes
    else if slice_index bytes 1 == 13 then valued_at (array8_list_at e) DeleteProperties bytes
    else if slice_index bytes 1 == 14 then empty_at GetProperties bytes
    else if slice_index bytes 1 == 15 then valued_at (property_list_at e) GetPropertiesReply bytes
    else if slice_index bytes 1 == 16 then empty_at SaveYourselfPhase2Request bytes
    else if slice_index bytes 1 == 17 then empty_at SaveYourselfPhase2 bytes
    else if slice_index bytes 1 == 18 then empty_at SaveComplete bytes
    else Err BadMinor

-- Some message is read.
abbrev pub IsSpelled : Endian → List ℕ → Type 0
IsSpelled e bytes = IsOk (decode_at e bytes)
