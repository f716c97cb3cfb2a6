-- How far a client is, and how that changes by what it says and by what it is given (XSMP, chapter 9:
-- the state diagrams). A connection on which XSMP hasn't begun has no phase.
use Rattle.std.specs.Prelude.{Bool, None, Option, Some, cond, false, true}
use Rattle.ice_values.specs.declared.saves.SaveStyle.{SaveStyle}
use Rattle.ice_values.specs.declared.saves.SaveStyle.TheVariants.{Any, Errors, Nothing}
use Rattle.ice_values.specs.declared.saves.Dialog.{Dialog}
use Rattle.ice_values.specs.declared.saves.Dialog.TheVariants.{Error as AboutError, Normal}
use Rattle.xsmp_messages.specs.declared.message.XsmpMessage.{XsmpMessage}
use Rattle.xsmp_messages.specs.declared.message.XsmpMessage.TheVariants.{Die, Interact, InteractDone, InteractRequest, RegisterClientReply, SaveComplete, SaveYourself, SaveYourselfDone, SaveYourselfPhase2, SaveYourselfPhase2Request, ShutdownCancelled}
use Rattle.round_agreement.specs.declared.wanted.Wanted.{Wanted}
use Rattle.session_model.specs.declared.phase.Phase.{Phase}
use Rattle.session_model.specs.declared.phase.Phase.TheVariants.{Asked, AskedTwo, Done, Dying, Idle, Interacting, InteractingTwo, Owing, Saving, SavingTwo, Unregistered, WantsTwo}
use Rattle.round_agreement.specs.declared.round.Step.{Step}
use Rattle.round_agreement.specs.declared.round.Step.TheVariants.{Done as AllDone, Saving as ToSave, SavingTwo as ToSaveTwo, WantsTwo as ToWantTwo}

-- What a phase tells

-- registered, and not yet told to die
abbrev pub is_bound : Option Phase → Bool
is_bound None = false
is_bound (Some Unregistered) = false
is_bound (Some Dying) = false
is_bound phase = true

-- registered, or told to die since
abbrev pub is_registered : Option Phase → Bool
is_registered None = false
is_registered (Some Unregistered) = false
is_registered phase = true

abbrev pub is_unregistered : Option Phase → Bool
is_unregistered (Some Unregistered) = true
is_unregistered phase = false

abbrev pub is_dying : Option Phase → Bool
is_dying (Some Dying) = true
is_dying phase = false

abbrev pub is_owing : Option Phase → Bool
is_owing (Some Owing) = true
is_owing phase = false

-- it saves, in the first phase or in the second
abbrev pub is_saving : Option Phase → Bool
is_saving (Some Saving) = true
is_saving (Some SavingTwo) = true
is_saving phase = false

abbrev pub is_first_saving : Option Phase → Bool
is_first_saving (Some Saving) = true
is_first_saving phase = false

-- it waits for the token
abbrev pub is_asked : Option Phase → Bool
is_asked (Some Asked) = true
is_asked (Some AskedTwo) = true
is_asked phase = false

-- it has the token
abbrev pub is_interacting : Option Phase → Bool
is_interacting (Some Interacting) = true
is_interacting (Some InteractingTwo) = true
is_interacting phase = false

-- It is waited for: it saves, or owes an answer. Who waits for the token or has it, and who waits for the second phase, isn't.
abbrev pub is_awaited : Option Phase → Bool
is_awaited (Some Saving) = true
is_awaited (Some SavingTwo) = true
is_awaited (Some Owing) = true
is_awaited phase = false

-- it was asked to save by a round that still runs
abbrev pub is_member : Option Phase → Bool
is_member None = false
is_member (Some Unregistered) = false
is_member (Some Idle) = false
is_member (Some Owing) = false
is_member (Some Dying) = false
is_member phase = true

-- how far a member of a round is, where its last save was a success or not
abbrev pub step_of : Option Phase → Bool → Step
step_of (Some Done) success = AllDone success
step_of (Some WantsTwo) success = ToWantTwo
step_of (Some SavingTwo) success = ToSaveTwo
step_of (Some AskedTwo) success = ToSaveTwo
step_of (Some InteractingTwo) success = ToSaveTwo
step_of phase success = ToSave

-- Which dialogs a save allows

abbrev pub allows : SaveStyle → Dialog → Bool
allows Any dialog = true
allows Errors AboutError = true
allows Errors Normal = false
allows Nothing dialog = false

-- the running round, where there is one, allows this dialog
abbrev pub may_interact : Option Wanted → Dialog → Bool
may_interact None dialog = false
may_interact (Some wanted) dialog = allows wanted.style dialog

-- the running round is a shutdown
abbrev pub is_shutdown : Option Wanted → Bool
is_shutdown None = false
is_shutdown (Some wanted) = wanted.shutdown

-- What a client says

-- it asks for the token
abbrev pub asked_phase : Option Phase → Option Phase
asked_phase (Some Saving) = Some Asked
asked_phase (Some SavingTwo) = Some AskedTwo
asked_phase phase = phase

-- it gives the token back
abbrev pub talked_phase : Option Phase → Option Phase
talked_phase (Some Interacting) = Some Saving
talked_phase (Some InteractingTwo) = Some SavingTwo
talked_phase phase = phase

-- it has saved
abbrev pub saved_phase : Option Phase → Option Phase
saved_phase (Some Saving) = Some Done
saved_phase (Some SavingTwo) = Some Done
saved_phase (Some Owing) = Some Idle
saved_phase phase = phase

-- it wants to save in the second phase
abbrev pub second_phase : Option Phase → Option Phase
second_phase (Some Saving) = Some WantsTwo
second_phase phase = phase

-- The phase after the client said this, where these dialogs are allowed. A message that has no place in
-- its phase leaves the phase.
abbrev pub phase_said : (Dialog → Bool) → XsmpMessage → Option Phase → Option Phase
phase_said allowed (InteractRequest dialog) phase = cond (allowed dialog) (asked_phase phase) phase
phase_said allowed (InteractDone false) phase = talked_phase phase
phase_said allowed (SaveYourselfDone success) phase = saved_phase phase
phase_said allowed SaveYourselfPhase2Request phase = second_phase phase
phase_said allowed m phase = phase

-- What a client is given

abbrev pub registered_phase : Option Phase → Option Phase
registered_phase (Some Unregistered) = Some Idle
registered_phase phase = phase

-- it is asked to save
abbrev pub begun_phase : Option Phase → Option Phase
begun_phase (Some Idle) = Some Saving
begun_phase phase = phase

-- it gets the token
abbrev pub held_phase : Option Phase → Option Phase
held_phase (Some Asked) = Some Interacting
held_phase (Some AskedTwo) = Some InteractingTwo
held_phase phase = phase

-- it is asked to save in the second phase
abbrev pub second_begun_phase : Option Phase → Option Phase
second_begun_phase (Some WantsTwo) = Some SavingTwo
second_begun_phase phase = phase

-- its round was agreed
abbrev pub completed_phase : Option Phase → Option Phase
completed_phase (Some Done) = Some Idle
completed_phase phase = phase

-- Its round was cancelled. Where it hasn't saved yet, it owes the answer to its SaveYourself.
abbrev pub cancelled_phase : Option Phase → Option Phase
cancelled_phase (Some Done) = Some Idle
cancelled_phase (Some Saving) = Some Owing
cancelled_phase (Some Asked) = Some Owing
cancelled_phase (Some Interacting) = Some Owing
cancelled_phase (Some WantsTwo) = Some Owing
cancelled_phase (Some SavingTwo) = Some Owing
cancelled_phase (Some AskedTwo) = Some Owing
cancelled_phase (Some InteractingTwo) = Some Owing
cancelled_phase phase = phase

-- it is told to die
abbrev pub dying_phase : Option Phase → Option Phase
dying_phase None = None
dying_phase (Some Unregistered) = Some Unregistered
dying_phase (Some phase) = Some Dying

-- the phase after the client was given this
abbrev pub phase_given : XsmpMessage → Option Phase → Option Phase
phase_given (RegisterClientReply id) phase = registered_phase phase
phase_given (SaveYourself kind shutdown style fast) phase = begun_phase phase
phase_given Interact phase = held_phase phase
phase_given SaveYourselfPhase2 phase = second_begun_phase phase
phase_given SaveComplete phase = completed_phase phase
phase_given ShutdownCancelled phase = cancelled_phase phase
phase_given Die phase = dying_phase phase
phase_given m phase = phase

-- the phase after XSMP began on the connection
abbrev pub ready_phase : Option Phase → Option Phase
ready_phase None = Some Unregistered
ready_phase (Some phase) = Some phase
