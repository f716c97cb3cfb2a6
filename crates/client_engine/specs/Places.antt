-- Where a client stands.
use Rattle.std.specs.Prelude.{ℕ, ◌≤◌, Bool, false, true, length, Option, None, List, []}
use Rattle.client_machine.specs.Phases.{ClientState, id_of}
use Rattle.client_machine.specs.declared.phase.ClientPhase.{ClientPhase}
use Rattle.client_machine.specs.declared.phase.ClientPhase.TheVariants.{Registering, Dead}
use Rattle.client_engine.specs.declared.place.Place.{Place}
use Rattle.client_engine.specs.declared.place.Place.TheVariants.{Opening, Speaking, Stopped}

-- whether it takes frames
abbrev pub is_listening : Place → Bool
is_listening (Opening opener previous) = true
is_listening (Speaking joined c) = true
is_listening Stopped = false

-- the phase of a client
abbrev pub phase_at : Place → ClientPhase
phase_at (Opening opener previous) = Registering
phase_at (Speaking joined c) = c.phase
phase_at Stopped = Dead

-- the ID that the manager gave it
abbrev pub id_at : Place → Option (List ℕ)
id_at (Opening opener previous) = None
id_at (Speaking joined c) = id_of c
id_at Stopped = None

-- what becomes of it
abbrev pub on_client : (ClientState → ClientState) → Place → Place
on_client change (Opening opener previous) = Opening opener previous
on_client change (Speaking joined c) = Speaking joined (change c)
on_client change Stopped = Stopped

-- the previous ID with which it will register
abbrev pub previous_at : Place → List ℕ
previous_at (Opening opener previous) = previous
previous_at place = []

abbrev pub HasShortId : Place → Type 0
HasShortId place = length (previous_at place) ≤ 512
