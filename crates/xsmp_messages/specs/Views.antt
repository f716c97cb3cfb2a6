-- Messages read where they lie.
use Rattle.std.specs.Prelude.{◌≡◌, ℕ, List, slice_index, Option, Some, None, Result, Ok, Err, IsOk}
use Rattle.ice_values.specs.Frames.{body_at}
use Rattle.ice_values.specs.Properties.{property_list_at}
use Rattle.ice_values.specs.Walks.{walk_left}
use Rattle.ice_values.specs.declared.numbers.Endian.{Endian}
use Rattle.ice_values.specs.declared.property.Property.{Property}
use Rattle.ice_values.specs.declared.refusals.DecodeRefusal.{DecodeRefusal}
use Rattle.ice_values.specs.declared.walk.PropertyWalk.{PropertyWalk}
use Rattle.xsmp_messages.specs.Messages.{Spells}
use Rattle.xsmp_messages.specs.Reading.{decode_at}
use Rattle.xsmp_messages.specs.Refusals.{as_decoding}
use Rattle.xsmp_messages.specs.declared.message.XsmpMessage.{XsmpMessage}
use Rattle.xsmp_messages.specs.declared.message.XsmpMessage.TheVariants.{SetProperties, GetPropertiesReply}
use Rattle.xsmp_messages.specs.declared.refusals.ViewRefusal.{ViewRefusal}
use Rattle.xsmp_messages.specs.declared.view.XsmpView.{XsmpView}

-- There is a view exactly where a message is read, and else the same refusal.
abbrev pub IsViewOf : Result XsmpMessage DecodeRefusal → Result XsmpView ViewRefusal → Type 0
IsViewOf answer (Ok view) = IsOk answer
IsViewOf answer (Err refusal) = answer ≡ Err (as_decoding refusal)

-- the properties of the two messages that have a list of them
abbrev pub properties_in : XsmpMessage → Option (List Property)
properties_in (SetProperties properties) = Some properties
properties_in (GetPropertiesReply properties) = Some properties
properties_in m = None

-- a walk over this list, in this order of numbers; none where there is no list
abbrev pub WalksOf : Endian → Option (List Property) → Option PropertyWalk → Type 0
WalksOf e (Some list) (Some walk) = (walk.endian ≡ e) × (walk_left walk ≡ list)
WalksOf e (Some list) None = ⊥
WalksOf e None (Some walk) = ⊥
WalksOf e None None = Unit {0}

-- This message is read from the bytes.
abbrev pub IsRead : Endian → List ℕ → XsmpMessage → Type 0
IsRead e bytes m = decode_at e bytes ≡ Ok m

-- The bytes spell what is read from them, under their major opcode.
abbrev pub SpellsWhatIsRead : Endian → List ℕ → Type 0
SpellsWhatIsRead e bytes = (m : XsmpMessage) → IsRead e bytes m → Spells e (slice_index bytes 0) m bytes

-- a walk over the properties of the message that is read from the bytes
abbrev pub WalksMessage : Endian → List ℕ → Option PropertyWalk → Type 0
WalksMessage e bytes walk = (m : XsmpMessage) → IsRead e bytes m → WalksOf e (properties_in m) walk

-- a walk over the list that is read from the body of a frame
abbrev pub WalksBody : Endian → List ℕ → Option PropertyWalk → Type 0
WalksBody e bytes walk = (list : List Property) → body_at (property_list_at e) bytes ≡ Ok list → WalksOf e (Some list) walk
