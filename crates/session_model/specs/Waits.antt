-- The rounds that wait for their turn, and what adds, replaces and drops them.
use Rattle.std.specs.Prelude.{Bool, List, None, Option, Some, [], cond, false, filter, is_none, map, not, true, ℕ, ◌++◌, ◌==◌, ◌||◌, ◌∷◌}
use Rattle.std.specs.List.{list_any}
use Rattle.sm_world.specs.declared.events.Order.{Order}
use Rattle.sm_world.specs.declared.events.Order.TheVariants.{Checkpoint, Shutdown}
use Rattle.ice_values.specs.declared.saves.SaveKind.{SaveKind}
use Rattle.ice_values.specs.declared.saves.SaveKind.TheVariants.{Both, Local}
use Rattle.ice_values.specs.declared.saves.SaveStyle.{SaveStyle}
use Rattle.ice_values.specs.declared.saves.SaveStyle.TheVariants.{Any, Nothing}
use Rattle.xsmp_messages.specs.declared.message.XsmpMessage.{XsmpMessage}
use Rattle.xsmp_messages.specs.declared.message.XsmpMessage.TheVariants.{SaveYourselfRequest}
use Rattle.round_agreement.specs.declared.wanted.Wanted.{Wanted}
use Rattle.session_model.specs.declared.phase.Phase.{Phase}
use Rattle.session_model.specs.declared.waits.Owner.{Owner}
use Rattle.session_model.specs.declared.waits.Owner.TheVariants.{Newcomer, Nobody, Operator as TheOperator, Sender}
use Rattle.session_model.specs.declared.waits.Wait.{Wait}
use Rattle.session_model.specs.Phases.{is_bound}

-- the round of a client that has just registered anew
abbrev pub first_save : ℕ → Wait
first_save c = record { wanted = record { only = Some c; from = None; kind = Local; shutdown = false; style = Nothing; fast = false }; owner = Newcomer }

-- the operator's rounds
abbrev pub checkpoint_wait : Wait
checkpoint_wait = record { wanted = record { only = None; from = None; kind = Local; shutdown = false; style = Nothing; fast = false }; owner = TheOperator }

abbrev pub shutdown_wait : Wait
shutdown_wait = record { wanted = record { only = None; from = None; kind = Both; shutdown = true; style = Any; fast = false }; owner = TheOperator }

-- a client's request, for itself alone
abbrev pub lone_wait : ℕ → SaveKind → SaveStyle → Bool → Wait
lone_wait c kind style fast = record { wanted = record { only = Some c; from = Some c; kind = kind; shutdown = false; style = style; fast = fast }; owner = Sender c }

-- a client's request for all
abbrev pub global_wait : ℕ → SaveKind → Bool → SaveStyle → Bool → Wait
global_wait c kind shutdown style fast = record { wanted = record { only = None; from = Some c; kind = kind; shutdown = shutdown; style = style; fast = fast }; owner = Sender c }

abbrev pub is_operator : Owner → Bool
is_operator TheOperator = true
is_operator owner = false

abbrev pub is_sender : ℕ → Owner → Bool
is_sender c (Sender d) = d == c
is_sender c owner = false

-- c, and only c, is named
abbrev pub is_only : ℕ → Option ℕ → Bool
is_only c None = false
is_only c (Some d) = d == c

-- a round of all clients
abbrev pub is_global : Wanted → Bool
is_global wanted = is_none wanted.only

-- A sender's request takes the place of the one of its that waits; where there is none it goes last.
abbrev pub with_request : ℕ → Wait → List Wait → List Wait
with_request c request [] = request ∷ []
with_request c request (wait ∷ waits) = cond (is_sender c wait.owner) (request ∷ waits) (wait ∷ with_request c request waits)

-- after c said this: a client asks for a save of all, or of itself alone where that is no shutdown
abbrev pub waits_said : ℕ → XsmpMessage → (ℕ → Option Phase) → List Wait → List Wait
waits_said c (SaveYourselfRequest kind false style fast false) phase waits = cond (is_bound (phase c)) (with_request c (lone_wait c kind style fast) waits) waits
waits_said c (SaveYourselfRequest kind shutdown style fast true) phase waits = cond (is_bound (phase c)) (with_request c (global_wait c kind shutdown style fast) waits) waits
waits_said c m phase waits = waits

-- the operator has to wait: a shutdown was agreed, or a round of the operator waits
abbrev pub is_busy : Bool → List Wait → Bool
is_busy ending waits = ending || list_any (λ wait. is_operator wait.owner) waits

-- after an order, where a shutdown was agreed or not
abbrev pub waits_ordered : Order → Bool → List Wait → List Wait
waits_ordered Checkpoint ending waits = cond (is_busy ending waits) waits (waits ++ checkpoint_wait ∷ [])
waits_ordered Shutdown ending waits = cond (is_busy ending waits) waits (waits ++ shutdown_wait ∷ [])
waits_ordered order ending waits = waits

-- what this client asked for belongs to nobody from now on
abbrev pub disowned : ℕ → Wait → Wait
disowned c wait = record wait { owner = cond (is_sender c wait.owner) Nobody wait.owner }

-- after a client departed: the rounds for it alone are dropped, and its requests for all stay
abbrev pub waits_left : ℕ → List Wait → List Wait
waits_left c waits = map (disowned c) (filter (λ wait. not (is_only c wait.wanted.only)) waits)
