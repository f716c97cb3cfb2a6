-- Moves by which nothing changes but what was done.
use Rattle.std.proofs.Common.{◌≡◌, refl, ℕ, List, [], ◌∷◌, ◌++◌, ◌∙◌, map-id}
use Rattle.ice_values.specs.Fields.{ErrorFields}
use Rattle.owned_lists.specs.declared.commands.Command.{Command}
use Rattle.session_model.specs.declared.events.Act.TheVariants.{Blame, Finish, Print, Start}
use Rattle.session_model.specs.declared.events.Reason.{Reason}
use Rattle.session_model.specs.declared.events.Reason.TheVariants.{Discard as ToDiscard, End as ToEnd, Resign as ToResign, Restart as ToRestart}
use Rattle.session_model.specs.Moves.{Blamed, Finished, Printed, Respawn, Tried}
use Rattle.session_state.specs.Session.{Session, moved, one_more_of}
use Rattle.manager_machine.specs.Kept.{cause_for}

pub blamed : (c : ℕ) (error : ErrorFields) (s : Session) → moved (Blamed c error) s ≡ record s { acts = s.acts ++ Blame c error ∷ [] }
blamed c error s = λ i. record s { clients = record { rows = map-id s.clients.rows i; registered = s.clients.registered }; acts = s.acts ++ Blame c error ∷ [] }

pub printed : (text : List ℕ) (s : Session) → moved (Printed text) s ≡ record s { acts = s.acts ++ Print text ∷ [] }
printed text s = λ i. record s { clients = record { rows = map-id s.clients.rows i; registered = s.clients.registered }; acts = s.acts ++ Print text ∷ [] }

pub finished : (s : Session) → moved Finished s ≡ record s { acts = s.acts ++ Finish ∷ [] }
finished s = λ i. record s { clients = record { rows = map-id s.clients.rows i; registered = s.clients.registered }; acts = s.acts ++ Finish ∷ [] }

started-for : (reason : Reason) (command : Command) (s : Session) → moved (Tried (cause_for reason) command) s ≡ record s { clients = record { rows = (moved (Tried (cause_for reason) command) s).clients.rows; registered = s.clients.registered }; acts = s.acts ++ Start reason command ∷ [] }
started-for ToRestart command s = refl
started-for ToDiscard command s = refl
started-for ToResign command s = refl
started-for ToEnd command s = refl

rows-kept : (reason : Reason) (command : Command) (s : Session) → (moved (Tried (cause_for reason) command) s).clients.rows ≡ s.clients.rows
rows-kept ToRestart command s = map-id s.clients.rows
rows-kept ToDiscard command s = map-id s.clients.rows
rows-kept ToResign command s = map-id s.clients.rows
rows-kept ToEnd command s = map-id s.clients.rows

pub started : (reason : Reason) (command : Command) (s : Session) → moved (Tried (cause_for reason) command) s ≡ record s { acts = s.acts ++ Start reason command ∷ [] }
started reason command s = started-for reason command s ∙ (λ i. record s { clients = record { rows = rows-kept reason command s i; registered = s.clients.registered }; acts = s.acts ++ Start reason command ∷ [] })

pub respawned : (id : List ℕ) (command : Command) (s : Session) → moved (Tried (Respawn id) command) s ≡ record s { counts = one_more_of id s.counts; acts = s.acts ++ Start ToRestart command ∷ [] }
respawned id command s = λ i. record s { clients = record { rows = map-id s.clients.rows i; registered = s.clients.registered }; counts = one_more_of id s.counts; acts = s.acts ++ Start ToRestart command ∷ [] }
