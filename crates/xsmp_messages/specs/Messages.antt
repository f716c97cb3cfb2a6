-- How each message is spelled, and which bytes are refused (XSMP, chapter 10: Messages).
use Rattle.std.specs.Prelude.{◌≡◌, ◌≢◌, ℕ, ◌<◌, List, [], ◌∷◌, ◌++◌, length, slice_index, Some}
use Rattle.ice_values.specs.Cells.{Cells, byte, free, zeros, Begins}
use Rattle.ice_values.specs.Fields.{bool_number, error_own, error_body, IsError, spelling}
use Rattle.ice_values.specs.Properties.{array8, IsArray8, array8_list, property_list, IsListed, IsProperty}
use Rattle.ice_values.specs.Saves.{kind_number, style_number, dialog_number}
use Rattle.ice_values.specs.declared.numbers.Endian.{Endian}
use Rattle.ice_values.specs.declared.refusals.DecodeRefusal.{DecodeRefusal}
use Rattle.ice_values.specs.declared.refusals.DecodeRefusal.TheVariants.{BadMinor, BadLength, BadValue, NoMemory}
use Rattle.xsmp_messages.specs.declared.message.XsmpMessage.{XsmpMessage}
use Rattle.xsmp_messages.specs.declared.message.XsmpMessage.TheVariants.{Error, RegisterClient, RegisterClientReply, SaveYourself, SaveYourselfRequest, InteractRequest, Interact, InteractDone, SaveYourselfDone, Die, ShutdownCancelled, ConnectionClosed, SetProperties, DeleteProperties, GetProperties, GetPropertiesReply, SaveYourselfPhase2Request, SaveYourselfPhase2, SaveComplete}
pub use Rattle.ice_values.specs.Frames.{IsFrame, first_wrong, IsChoice}
use Rattle.ice_values.specs.Reading.{IsBytes}

abbrev pub minor_of : XsmpMessage → ℕ
minor_of (Error error) = 0
minor_of (RegisterClient previous) = 1
minor_of (RegisterClientReply id) = 2
minor_of (SaveYourself kind shutdown style fast) = 3
minor_of (SaveYourselfRequest kind shutdown style fast global) = 4
minor_of (InteractRequest dialog) = 5
minor_of Interact = 6
minor_of (InteractDone cancel) = 7
minor_of (SaveYourselfDone success) = 8
minor_of Die = 9
minor_of ShutdownCancelled = 10
minor_of (ConnectionClosed reasons) = 11
minor_of (SetProperties properties) = 12
minor_of (DeleteProperties names) = 13
minor_of GetProperties = 14
minor_of (GetPropertiesReply properties) = 15
minor_of SaveYourselfPhase2Request = 16
minor_of SaveYourselfPhase2 = 17
minor_of SaveComplete = 18

-- The two bytes of each message's own, and its body, with `mark n` where the enumerated byte n stands.
abbrev pub layout : (ℕ → Cells) → Endian → XsmpMessage → Cells × Cells
layout mark e (Error error) = (error_own e error, error_body mark e error)
layout mark e (RegisterClient previous) = (free 2, array8 e previous)
layout mark e (RegisterClientReply id) = (free 2, array8 e id)
layout mark e (SaveYourself kind shutdown style fast) = (free 2, mark (kind_number kind) ++ mark (bool_number shutdown) ++ mark (style_number style) ++ mark (bool_number fast) ++ free 4)
layout mark e (SaveYourselfRequest kind shutdown style fast global) = (free 2, mark (kind_number kind) ++ mark (bool_number shutdown) ++ mark (style_number style) ++ mark (bool_number fast) ++ mark (bool_number global) ++ free 3)
layout mark e (InteractRequest dialog) = (mark (dialog_number dialog) ++ free 1, [])
layout mark e Interact = (free 2, [])
layout mark e (InteractDone cancel) = (mark (bool_number cancel) ++ free 1, [])
layout mark e (SaveYourselfDone success) = (mark (bool_number success) ++ free 1, [])
layout mark e Die = (free 2, [])
layout mark e ShutdownCancelled = (free 2, [])
layout mark e (ConnectionClosed reasons) = (free 2, array8_list e reasons)
layout mark e (SetProperties properties) = (free 2, property_list e properties)
layout mark e (DeleteProperties names) = (free 2, array8_list e names)
layout mark e GetProperties = (free 2, [])
layout mark e (GetPropertiesReply properties) = (free 2, property_list e properties)
layout mark e SaveYourselfPhase2Request = (free 2, [])
layout mark e SaveYourselfPhase2 = (free 2, [])
layout mark e SaveComplete = (free 2, [])

-- all of it, under its sender's major opcode
abbrev pub shape : (ℕ → Cells) → Endian → ℕ → XsmpMessage → Cells
shape mark e opcode m = spelling e opcode (minor_of m) (layout mark e m).0 (layout mark e m).1

-- Where the enumerated bytes stand, and how many meanings each has: those from 0 on. Other messages have none.
abbrev pub enumerated : XsmpMessage → List (ℕ × ℕ)
enumerated (Error error) = (9, 3) ∷ []
enumerated (SaveYourself kind shutdown style fast) = (8, 3) ∷ (9, 2) ∷ (10, 3) ∷ (11, 2) ∷ []
enumerated (SaveYourselfRequest kind shutdown style fast global) = (8, 3) ∷ (9, 2) ∷ (10, 3) ∷ (11, 2) ∷ (12, 2) ∷ []
enumerated (InteractRequest dialog) = (2, 2) ∷ []
enumerated (InteractDone cancel) = (2, 2) ∷ []
enumerated (SaveYourselfDone success) = (2, 2) ∷ []
enumerated m = []

-- What has a spelling. Each other message has one.
abbrev pub IsMessage : XsmpMessage → Type 0
IsMessage (Error error) = IsError error
IsMessage (RegisterClient previous) = IsArray8 previous
IsMessage (RegisterClientReply id) = IsArray8 id
IsMessage (ConnectionClosed reasons) = IsListed IsArray8 reasons
IsMessage (SetProperties properties) = IsListed IsProperty properties
IsMessage (DeleteProperties names) = IsListed IsArray8 names
IsMessage (GetPropertiesReply properties) = IsListed IsProperty properties
IsMessage m = Unit {0}

-- a frame of bytes, under any major opcode
pub record IsXsmpFrame (e : Endian) (bytes : List ℕ) : Type 0 where
  pub frame : IsFrame e bytes
  pub fits : IsBytes bytes

-- The bytes are a spelling of the message under a major opcode. Unused and padding bytes are free.
abbrev pub Spells : Endian → ℕ → XsmpMessage → List ℕ → Type 0
Spells e opcode m bytes = IsMessage m × Begins (shape byte e opcode m) bytes []

-- The same, whatever the enumerated bytes are.
abbrev pub HasForm : Endian → ℕ → XsmpMessage → List ℕ → Type 0
HasForm e opcode m bytes = IsMessage m × Begins (shape (λ n. free 1) e opcode m) bytes []

-- the spelling with zeros in unused and padding bytes
abbrev pub canon : Endian → ℕ → XsmpMessage → List ℕ
canon e opcode m = zeros (shape byte e opcode m)

-- Some choice of the enumerated bytes makes the bytes a spelling of the message.
abbrev pub HasChoice : Endian → ℕ → XsmpMessage → List ℕ → Type 0
HasChoice e opcode m bytes = (chosen : List ℕ) × IsChoice (enumerated m) bytes chosen × Spells e opcode m chosen

-- Which refusal answers the bytes.
abbrev pub Refused : Endian → List ℕ → DecodeRefusal → Type 0
-- no message has their minor opcode
Refused e bytes BadMinor = (m : XsmpMessage) → minor_of m ≢ slice_index bytes 1
-- some message has it, and no choice of the enumerated bytes makes them a spelling under any major opcode
Refused e bytes BadLength = ((m : XsmpMessage) × (minor_of m ≡ slice_index bytes 1)) × ((opcode : ℕ) (m : XsmpMessage) → HasChoice e opcode m bytes → ⊥)
-- some choice does, under theirs, and this is the first enumerated byte without a meaning
Refused e bytes (BadValue at len) = (len ≡ 1) × ((m : XsmpMessage) × HasForm e (slice_index bytes 0) m bytes × (first_wrong (enumerated m) bytes ≡ Some at))
Refused e bytes NoMemory = Unit {0}

-- The body has more than 65,536 bytes. So it has where a string or a list is longer than its count can say.
abbrev pub IsTooLong : Endian → XsmpMessage → Type 0
IsTooLong e m = 65536 < length (layout byte e m).1
