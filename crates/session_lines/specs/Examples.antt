-- Worked fronts of lines, of which the definitions compute what is noted. In all of them the messages of XSMP have major opcode 1.
use Rattle.std.specs.Prelude.{[], false, true, ℕ, ◌∷◌, ◌≡◌}
use Rattle.owned_lists.specs.declared.commands.Command.{Command}
use Rattle.ice_values.specs.declared.saves.Dialog.TheVariants.{Normal}
use Rattle.sm_world.specs.declared.events.Event.TheVariants.{Gone as HasGone, Joined}
use Rattle.ice_values.specs.Fields.{ErrorFields}
use Rattle.ice_values.specs.declared.numbers.Endian.TheVariants.{Lsb}
use Rattle.ice_messages.specs.declared.message.IceMessage.TheVariants.{Error as IceError}
use Rattle.xsmp_messages.specs.declared.message.XsmpMessage.TheVariants.{Error as XsmpError, Interact, InteractRequest}
use Rattle.ice_framing.specs.Parts.{Whole}
use Rattle.session_engine.specs.declared.acts.Act.TheVariants.{Say, Shut, Start}
use Rattle.protocol_messages.specs.declared.message.Message.TheVariants.{Ice, Xsmp}
use Rattle.session_model.specs.declared.events.Reason.TheVariants.{Discard, Restart}
use Rattle.session_notes.specs.Keeping.{is_discarded}
use Rattle.session_notes.specs.Notes.{Given, Gone, Heard}
use Rattle.session_notes.specs.Watching.{has_token}
use Rattle.session_lines.specs.Lines.{Comes, Does, Seen, Took, notes}

-- a frame without a body
abbrev pub frame : ℕ → ℕ → ℕ → ℕ → Seen
frame c major minor value = Took c (Whole (record { endian = Lsb; bytes = major ∷ minor ∷ value ∷ 0 ∷ 0 ∷ 0 ∷ 0 ∷ 0 ∷ [] }))

-- a client asks for the token, for a dialog of any kind
abbrev pub asks : ℕ → Seen
asks c = frame c 1 5 1

-- the request is noted, and an Error to another connection doesn't take it back
abbrev pub ARequestIsNoted : Type 0
ARequestIsNoted = (error : ErrorFields) → notes (asks 1 ∷ Does (Say 2 (Xsmp (XsmpError error))) ∷ []) ≡ Heard 1 (InteractRequest Normal) ∷ []

-- an Error of XSMP or of ICE to its connection does
abbrev pub ARefusedRequestIsNotNoted : Type 0
ARefusedRequestIsNotNoted = (error : ErrorFields) → (notes (asks 1 ∷ Does (Say 1 (Xsmp (XsmpError error))) ∷ []) ≡ []) × (notes (asks 1 ∷ Does (Say 1 (Ice (IceError error))) ∷ []) ≡ [])

-- a frame of ICE, as Ping is, isn't noted
abbrev pub APingIsNotNoted : Type 0
APingIsNotNoted = notes (frame 1 0 9 0 ∷ []) ≡ []

-- the token is given, and is gone with its connection
abbrev pub TheTokenIsNoted : Type 0
TheTokenIsNoted = (has_token 1 (notes (asks 1 ∷ Does (Say 1 (Xsmp Interact)) ∷ [])) ≡ true) × (notes (Does (Say 1 (Xsmp Interact)) ∷ Does (Shut 1) ∷ []) ≡ Gone 1 ∷ Given 1 Interact ∷ [])

-- a command that was started to discard a state is noted so, and one that was started for another reason isn't
abbrev pub removes : Command
removes = record { words = (114 ∷ 109 ∷ []) ∷ []; directory = []; environment = [] }

abbrev pub ADiscardIsNoted : Type 0
ADiscardIsNoted = (is_discarded removes (notes (Does (Start Discard removes) ∷ [])) ≡ true) × (is_discarded removes (notes (Does (Start Restart removes) ∷ [])) ≡ false)

-- only a connection that is open can end
abbrev pub AnEndIsNotedOnce : Type 0
AnEndIsNotedOnce = notes (Comes (Joined 1) ∷ Comes (HasGone 1) ∷ Comes (HasGone 1) ∷ Comes (HasGone 2) ∷ []) ≡ Gone 1 ∷ []
