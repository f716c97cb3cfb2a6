-- The properties that a frame sets, and their values, read where they lie.
use Rattle.std.specs.Prelude.{◌≡◌, ◌&&◌, not, Bool, true, false, ℕ, List, [], ◌∷◌, length, Option, Some, None}
use Rattle.ice_values.specs.Properties.{array8_at}
use Rattle.ice_values.specs.Reading.{◌>>=◌, card_at, skip_at}
use Rattle.ice_values.specs.Walks.{up_to, Views}
use Rattle.ice_values.specs.declared.numbers.Endian.{Endian}
use Rattle.ice_values.specs.declared.property.Property.{Property}
use Rattle.ice_values.specs.declared.view.PropertyView.{PropertyView}
use Rattle.ice_framing.specs.declared.cutting.WholeFrame.{WholeFrame}
use Rattle.frame_speech.specs.Passing.{may_say}
use Rattle.frame_speech.specs.Speech.{reading_of}
use Rattle.frame_speech.specs.declared.reading.Reading.{Reading}
use Rattle.frame_speech.specs.declared.reading.Reading.TheVariants.{Nothing, Greets, Opens, Sets, Unread}
use Rattle.frame_speech.specs.declared.speech.Speech.{Speech}
use Rattle.frame_speech.specs.declared.values.ValueWalk.{ValueWalk}

-- the properties that a frame sets
abbrev pub set_in : Reading → Option (List Property)
set_in (Sets properties) = Some properties
set_in Nothing = None
set_in Greets = None
set_in (Opens opcode) = None
set_in Unread = None

abbrev pub is_set : Option (List Property) → Bool
is_set (Some properties) = true
is_set None = false

-- A frame that may change how its sender is understood: one that may say something, but sets no properties.
abbrev pub may_turn : Speech → WholeFrame → Bool
may_turn speech f = may_say speech f && not (is_set (set_in (reading_of speech f)))

-- the count in front of a list, and what follows it and the four unused bytes
abbrev pub head_at : Endian → List ℕ → Option (ℕ × List ℕ)
head_at e bytes = card_at e 4 bytes >>= λ n. skip_at 4 n.1 >>= λ rest. Some (n.0, rest)

-- the values that are left of a walk
abbrev pub values_left : ValueWalk → List (List ℕ)
values_left walk = up_to (array8_at walk.endian) walk.count walk.bytes.now

-- The next value of a walk. None exactly where none is left.
abbrev pub GivesValue : ValueWalk → Option (List ℕ) → ValueWalk → Type 0
GivesValue old (Some value) new = values_left old ≡ value ∷ values_left new
GivesValue old None new = (values_left old ≡ []) × (values_left new ≡ [])

-- a walk over the values of a property, all of which it counts
pub record WalksValues (p : Property) (walk : ValueWalk) : Type 0 where
  pub left : values_left walk ≡ p.values
  pub count : walk.count ≡ length p.values

-- whatever property the view shows
abbrev pub ShownBy : Endian → PropertyView → ValueWalk → Type 0
ShownBy e view walk = (p : Property) → Views e view p → WalksValues p walk
