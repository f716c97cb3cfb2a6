-- What the manager knows of one client, where it agrees with the client, and what it may give the client.
use Rattle.std.specs.Prelude.{Bool, None, Option, Some, false, true, ◌≡◌}
use Rattle.ice_values.specs.declared.saves.SaveStyle.{SaveStyle}
use Rattle.xsmp_messages.specs.declared.message.XsmpMessage.{XsmpMessage}
use Rattle.xsmp_messages.specs.declared.message.XsmpMessage.TheVariants.{Die, Interact, SaveComplete, SaveYourself, SaveYourselfPhase2, ShutdownCancelled}
use Rattle.session_model.specs.Phases.{is_asked, phase_given}
use Rattle.session_model.specs.declared.phase.Phase.{Phase}
use Rattle.session_model.specs.declared.phase.Phase.TheVariants.{Asked, AskedTwo, Done, Dying, Idle, Interacting, InteractingTwo, Owing, Saving, SavingTwo, Unregistered, WantsTwo}
use Rattle.client_machine.specs.Phases.{ClientState}
use Rattle.client_machine.specs.declared.phase.ClientPhase.{ClientPhase}
use Rattle.client_machine.specs.declared.phase.ClientPhase.TheVariants.{Asked as ItAsked, AskedTwo as ItAskedTwo, Dead, Done as ItIsDone, Idle as ItIsIdle, Interacting as ItInteracts, InteractingTwo as ItInteractsTwo, Owing as ItOwes, Registering, Saving as ItSaves, SavingTwo as ItSavesTwo, WantsTwo as ItWantsTwo}

-- The manager's side of one client: how far the client is, and of the last save that it was asked for, whether that was a shutdown
-- and which dialogs it allowed.
pub record Side : Type 0 where
  pub phase : Option Phase
  pub shutdown : Bool
  pub style : SaveStyle

abbrev pub at_phase : Option Phase → Side → Side
at_phase phase side = record side { phase = phase }

-- How far the client says that it is, where the manager says this. Who isn't heard any more is dead, and who isn't registered
-- registers. Each other phase is the one of its name.
abbrev pub mirror : Option Phase → ClientPhase
mirror None = Dead
mirror (Some Unregistered) = Registering
mirror (Some Idle) = ItIsIdle
mirror (Some Saving) = ItSaves
mirror (Some Asked) = ItAsked
mirror (Some Interacting) = ItInteracts
mirror (Some WantsTwo) = ItWantsTwo
mirror (Some SavingTwo) = ItSavesTwo
mirror (Some AskedTwo) = ItAskedTwo
mirror (Some InteractingTwo) = ItInteractsTwo
mirror (Some Done) = ItIsDone
mirror (Some Owing) = ItOwes
mirror (Some Dying) = Dead

-- asked to save, and not done with that
abbrev pub is_at_work : Option Phase → Bool
is_at_work None = false
is_at_work (Some Unregistered) = false
is_at_work (Some Idle) = false
is_at_work (Some Done) = false
is_at_work (Some Owing) = false
is_at_work (Some Dying) = false
is_at_work phase = true

-- Both ends say the same: the phase, and of a save that goes on, whether it is a shutdown and which dialogs it allows.
pub record Agrees (side : Side) (s : ClientState) : Type 0 where
  pub phase : s.phase ≡ mirror side.phase
  pub shutdown : is_at_work side.phase ≡ true → s.asked.shutdown ≡ side.shutdown
  pub style : is_at_work side.phase ≡ true → s.asked.style ≡ side.style

-- What the manager gives by itself

-- it has saved, or saves still
abbrev pub may_cancel : Option Phase → Bool
may_cancel (Some Done) = true
may_cancel phase = is_at_work phase

-- it has nothing to answer
abbrev pub may_die : Option Phase → Bool
may_die (Some Idle) = true
may_die (Some Done) = true
may_die phase = false

abbrev pub may_save : Option Phase → Bool
may_save (Some Idle) = true
may_save phase = false

abbrev pub may_begin_two : Option Phase → Bool
may_begin_two (Some WantsTwo) = true
may_begin_two phase = false

abbrev pub may_complete : Option Phase → Bool
may_complete (Some Done) = true
may_complete phase = false

-- in which phase the manager may give this by itself, which is no answer to a message of the client
abbrev pub may_give : XsmpMessage → Option Phase → Bool
may_give (SaveYourself kind shutdown style fast) phase = may_save phase
may_give Interact phase = is_asked phase
may_give SaveYourselfPhase2 phase = may_begin_two phase
may_give SaveComplete phase = may_complete phase
may_give ShutdownCancelled phase = may_cancel phase
may_give Die phase = may_die phase
may_give m phase = false

-- a SaveYourself names its round
abbrev pub round_given : XsmpMessage → Side → Side
round_given (SaveYourself kind shutdown style fast) side = record side { shutdown = shutdown; style = style }
round_given m side = side

-- the side after the client was given this
abbrev pub side_given : XsmpMessage → Side → Side
side_given m side = at_phase (phase_given m side.phase) (round_given m side)
