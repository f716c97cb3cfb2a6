-- The program by which a client is known: the first value of the last property of that name that it set.
use Rattle.std.specs.Prelude.{ℕ, List, [], ◌∷◌, codes, Option, Some, None, if◌then◌else◌}
use Rattle.std.specs.Str.{bytes_eq}
use Rattle.ice_framing.specs.Parts.{Part, Whole, TooMuch}
use Rattle.ice_framing.specs.declared.cutting.WholeFrame.{WholeFrame}
use Rattle.ice_values.specs.declared.property.Property.{Property}
use Rattle.xsmp_messages.specs.declared.message.XsmpMessage.{XsmpMessage}
use Rattle.xsmp_messages.specs.declared.message.XsmpMessage.TheVariants.{Error, RegisterClient, RegisterClientReply, SaveYourself, SaveYourselfRequest, InteractRequest, Interact, InteractDone, SaveYourselfDone, Die, ShutdownCancelled, ConnectionClosed, SetProperties, DeleteProperties, GetProperties, GetPropertiesReply, SaveYourselfPhase2Request, SaveYourselfPhase2, SaveComplete}
use Rattle.trace_replay.specs.Frames.{xsmp_in}

abbrev pub first_of : List (List ℕ) → Option (List ℕ)
first_of [] = None
first_of (value ∷ values) = Some value

abbrev pub after_property : Option (List ℕ) → Property → Option (List ℕ)
after_property known p = if bytes_eq p.name (codes "Program") then first_of p.values else known

abbrev pub after_properties : Option (List ℕ) → List Property → Option (List ℕ)
after_properties known [] = known
after_properties known (p ∷ properties) = after_properties (after_property known p) properties

-- No other message says a program.
abbrev pub after_message : Option (List ℕ) → XsmpMessage → Option (List ℕ)
after_message known (SetProperties properties) = after_properties known properties
after_message known other = known

abbrev pub after_some : Option (List ℕ) → Option XsmpMessage → Option (List ℕ)
after_some known (Some message) = after_message known message
after_some known None = known

abbrev pub after_frame : Option (List ℕ) → WholeFrame → Option (List ℕ)
after_frame known frame = after_some known (xsmp_in frame)

abbrev pub after_part : Option (List ℕ) → Part → Option (List ℕ)
after_part known (Whole frame) = after_frame known frame
after_part known (TooMuch header) = known

abbrev pub after_parts : Option (List ℕ) → List Part → Option (List ℕ)
after_parts known [] = known
after_parts known (part ∷ parts) = after_parts (after_part known part) parts
