-- Which frames may change what is known of a logout; all others are passed over.
use Rattle.std.specs.Prelude.{◌≡◌, ℕ, ◌==◌, ◌&&◌, ◌||◌, Bool, false, List, slice_index, Option, Some, None}
use Rattle.std.specs.List.{list_any}
use Rattle.ice_values.specs.declared.property.Property.{Property}
use Rattle.ice_framing.specs.declared.cutting.WholeFrame.{WholeFrame}
use Rattle.frame_speech.specs.Settings.{set_in, may_turn}
use Rattle.frame_speech.specs.Speech.{says, reading_of}
use Rattle.frame_speech.specs.Passing.{may_say}
use Rattle.frame_speech.specs.declared.speech.Speech.{Speech}
use Rattle.client_quirks.specs.Meanings.{is_amended}
use Rattle.client_quirks.specs.Sides.{CutsOn}
use Rattle.client_quirks.specs.Leaving.{mark_of, behind}
use Rattle.client_quirks.specs.declared.stage.Stage.{Stage}
use Rattle.client_quirks.specs.declared.stage.Stage.TheVariants.{Free, Asked, Answered, Kept, Released}
use Rattle.client_quirks.specs.declared.keeper.Keeper.{Keeper}

-- SaveYourselfDone answers a logout, and ConnectionClosed ends one that was answered.
abbrev pub is_answer : Speech → List ℕ → Bool
is_answer speech bytes = says speech 8 bytes || says speech 11 bytes

-- It sets properties to one of which a rule applies.
abbrev pub is_meant_anew : Option (List Property) → Bool
is_meant_anew (Some properties) = list_any is_amended properties
is_meant_anew None = false

-- a frame that may be handed on otherwise than it came, or change how its sender is understood
abbrev pub may_mean : Speech → WholeFrame → Bool
may_mean speech f = may_turn speech f || is_meant_anew (set_in (reading_of speech f))

abbrev pub MeansNothing : Speech → WholeFrame → Type 0
MeansNothing speech f = may_mean speech f ≡ false

-- Who isn't asked has nothing to answer.
abbrev pub may_answer : Speech → Stage → WholeFrame → Bool
may_answer speech Free f = may_turn speech f
may_answer speech Asked f = may_turn speech f || is_answer speech f.bytes
may_answer speech Answered f = may_turn speech f || is_answer speech f.bytes
may_answer speech Kept f = may_turn speech f || is_answer speech f.bytes
may_answer speech Released f = may_turn speech f || is_answer speech f.bytes

abbrev pub AnswersNothing : Speech → Stage → WholeFrame → Type 0
AnswersNothing speech stage f = may_answer speech stage f ≡ false

-- SaveYourself of a shutdown
abbrev pub is_logout : Speech → List ℕ → Bool
is_logout speech bytes = says speech 3 bytes && slice_index bytes 9 == 1

-- whatever begins a logout or ends one
abbrev pub is_turn : Speech → List ℕ → Bool
is_turn speech bytes = says speech 3 bytes || (says speech 9 bytes || (says speech 10 bytes || says speech 18 bytes))

-- For who isn't asked no logout ends.
abbrev pub may_ask : Speech → Stage → WholeFrame → Bool
may_ask speech Free f = may_say speech f || is_logout speech f.bytes
may_ask speech Asked f = may_say speech f || is_turn speech f.bytes
may_ask speech Answered f = may_say speech f || is_turn speech f.bytes
may_ask speech Kept f = may_say speech f || is_turn speech f.bytes
may_ask speech Released f = may_say speech f || is_turn speech f.bytes

abbrev pub AsksNothing : Speech → Stage → WholeFrame → Type 0
AsksNothing speech stage f = may_ask speech stage f ≡ false

-- A piece of the client's leaves all as it was.
pub record HasNothing (k : Keeper) (piece : List ℕ) : Type 0 where
  pub cuts : CutsOn k.came.cutter piece k.came.cutter
  pub behind_is : behind k piece ≡ mark_of k.came k.stage
