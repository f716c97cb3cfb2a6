-- How far a client is, and how that changes by what it says and by what it is given (XSMP, chapter 9: the
-- state diagrams).
use Rattle.std.specs.Prelude.{Bool, List, None, Option, Some, cond, false, true, ℕ}
use Rattle.ice_values.specs.declared.severity.Severity.{Severity}
use Rattle.ice_values.specs.declared.severity.Severity.TheVariants.{CanContinue}
use Rattle.xsmp_messages.specs.declared.message.XsmpMessage.{XsmpMessage}
use Rattle.xsmp_messages.specs.declared.message.XsmpMessage.TheVariants.{Die, Error, Interact, RegisterClientReply, SaveComplete, SaveYourself, SaveYourselfPhase2, ShutdownCancelled}
use Rattle.client_machine.specs.declared.phase.ClientPhase.{ClientPhase}
use Rattle.client_machine.specs.declared.phase.ClientPhase.TheVariants.{Asked, AskedTwo, Dead, Done, Idle, Interacting, InteractingTwo, Owing, Registering, Saving, SavingTwo, WantsTwo}
use Rattle.client_machine.specs.declared.requests.Request.{Request}
use Rattle.client_machine.specs.declared.requests.Request.TheVariants.{Close, Done as SayDone, Interact as AskDialog, InteractDone as SayTalked, PhaseTwo}
use Rattle.client_machine.specs.declared.saves.SaveAsk.{SaveAsk}

-- All of a client that its messages and its requests depend on.
pub record ClientState : Type 0 where
  pub phase : ClientPhase
  -- its ID, or while it registers the previous ID that it has sent
  pub id : List ℕ
  -- the last save that it was asked for
  pub asked : SaveAsk

-- What a phase tells

abbrev pub is_registering : ClientPhase → Bool
is_registering Registering = true
is_registering phase = false

abbrev pub is_dead : ClientPhase → Bool
is_dead Dead = true
is_dead phase = false

-- it has an ID and is alive
abbrev pub is_registered : ClientPhase → Bool
is_registered Registering = false
is_registered Dead = false
is_registered phase = true

abbrev pub is_done : ClientPhase → Bool
is_done Done = true
is_done phase = false

abbrev pub is_owing : ClientPhase → Bool
is_owing Owing = true
is_owing phase = false

-- the ID that the manager gave it
abbrev pub id_of : ClientState → Option (List ℕ)
id_of c = cond (is_registered c.phase) (Some c.id) None

-- it has answered every SaveYourself
abbrev pub is_resting : ClientPhase → Bool
is_resting Idle = true
is_resting Done = true
is_resting phase = false

-- it saves, in the first phase or in the second
abbrev pub is_saving : ClientPhase → Bool
is_saving Saving = true
is_saving SavingTwo = true
is_saving phase = false

abbrev pub is_first_saving : ClientPhase → Bool
is_first_saving Saving = true
is_first_saving phase = false

-- it has the token
abbrev pub is_interacting : ClientPhase → Bool
is_interacting Interacting = true
is_interacting InteractingTwo = true
is_interacting phase = false

-- it was asked to save, and that save is neither complete nor cancelled
abbrev pub is_member : ClientPhase → Bool
is_member Registering = false
is_member Idle = false
is_member Owing = false
is_member Dead = false
is_member phase = true

-- What a client says

-- it asks for the token
abbrev pub asked_phase : ClientPhase → ClientPhase
asked_phase Saving = Asked
asked_phase SavingTwo = AskedTwo
asked_phase phase = phase

-- it has talked to the user
abbrev pub talked_phase : ClientPhase → ClientPhase
talked_phase Interacting = Saving
talked_phase InteractingTwo = SavingTwo
talked_phase phase = phase

-- it has saved
abbrev pub saved_phase : ClientPhase → ClientPhase
saved_phase Saving = Done
saved_phase SavingTwo = Done
saved_phase Owing = Idle
saved_phase phase = phase

-- it wants to save in the second phase
abbrev pub second_phase : ClientPhase → ClientPhase
second_phase Saving = WantsTwo
second_phase phase = phase

-- the phase after the client said this, where it may
abbrev pub phase_said : Request → ClientPhase → ClientPhase
phase_said (AskDialog dialog) phase = asked_phase phase
phase_said (SayTalked cancel) phase = talked_phase phase
phase_said (SayDone success) phase = saved_phase phase
phase_said PhaseTwo phase = second_phase phase
phase_said (Close reasons) phase = Dead
phase_said request phase = phase

-- What a client is given

-- an Error that is fatal ends the session for it
abbrev pub blamed_phase : Severity → ClientPhase → ClientPhase
blamed_phase CanContinue phase = phase
blamed_phase severity phase = Dead

abbrev pub registered_phase : ClientPhase → ClientPhase
registered_phase Registering = Idle
registered_phase phase = phase

-- it is asked to save
abbrev pub begun_phase : ClientPhase → ClientPhase
begun_phase Idle = Saving
begun_phase Done = Saving
begun_phase phase = phase

-- it has the token
abbrev pub held_phase : ClientPhase → ClientPhase
held_phase Asked = Interacting
held_phase AskedTwo = InteractingTwo
held_phase phase = phase

-- it is asked to save in the second phase
abbrev pub second_begun_phase : ClientPhase → ClientPhase
second_begun_phase WantsTwo = SavingTwo
second_begun_phase phase = phase

-- all have saved
abbrev pub completed_phase : ClientPhase → ClientPhase
completed_phase Done = Idle
completed_phase phase = phase

-- Its save was cancelled. Where it hasn't saved yet, it owes the answer to its SaveYourself.
abbrev pub cancelled_phase : ClientPhase → ClientPhase
cancelled_phase Done = Idle
cancelled_phase Saving = Owing
cancelled_phase Asked = Owing
cancelled_phase Interacting = Owing
cancelled_phase WantsTwo = Owing
cancelled_phase SavingTwo = Owing
cancelled_phase AskedTwo = Owing
cancelled_phase InteractingTwo = Owing
cancelled_phase phase = phase

-- it is told to die, which has its place only where no SaveYourself is open
abbrev pub dying_phase : ClientPhase → ClientPhase
dying_phase Idle = Dead
dying_phase Done = Dead
dying_phase phase = phase

-- the phase after the client was given this
abbrev pub phase_given : XsmpMessage → ClientPhase → ClientPhase
phase_given (Error error) phase = blamed_phase error.severity phase
phase_given (RegisterClientReply id) phase = registered_phase phase
phase_given (SaveYourself kind shutdown style fast) phase = begun_phase phase
phase_given Interact phase = held_phase phase
phase_given SaveYourselfPhase2 phase = second_begun_phase phase
phase_given SaveComplete phase = completed_phase phase
phase_given ShutdownCancelled phase = cancelled_phase phase
phase_given Die phase = dying_phase phase
phase_given m phase = phase
