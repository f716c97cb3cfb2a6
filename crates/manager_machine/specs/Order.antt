-- What holds of every session that stands for a history, as far as the parts of the manager ask for it.
use Rattle.std.specs.Prelude.{Bool, None, Option, Some, false, filter, true, ℕ, ◌≡◌}
use Rattle.xsmp_messages.specs.declared.message.XsmpMessage.TheVariants.{Interact}
use Rattle.interact_queue.specs.Queue.{is_holder, is_in}
use Rattle.round_agreement.specs.Agreement.{Agreement, are_distinct, conns_of, is_at, is_first_saving as saves_first, is_saving as saves}
use Rattle.session_model.specs.declared.phase.Phase.{Phase}
use Rattle.session_model.specs.declared.phase.Phase.TheVariants.{WantsTwo}
use Rattle.session_model.specs.Phases.{is_asked, is_first_saving, is_interacting, is_saving}
use Rattle.session_clients.specs.Clients.{phase_in}
use Rattle.session_model.specs.Moves.{Gave}
use Rattle.session_model.specs.Rules.{wanting_two}
use Rattle.session_state.specs.Session.{Session, moved, settle_in}
use Rattle.session_rounds.specs.Rounds.{is_member_at}

-- a client waits for the second phase of its save
abbrev pub wants_second : Option Phase → Bool
wants_second (Some WantsTwo) = true
wants_second phase = false

pub record InOrder (s : Session) : Type 0 where
  -- nobody is registered twice, and nobody waits twice for the token
  pub registered_once : are_distinct s.clients.registered ≡ true
  pub waiting_once : are_distinct s.turns.waiting ≡ true
  -- those that wait for the token, and the one that has it, are those whose phase says so
  pub asked : (c : ℕ) → is_in c s.turns.waiting ≡ is_asked (phase_in c s.clients.rows)
  pub holding : (c : ℕ) → is_holder c s.turns.holder ≡ is_interacting (phase_in c s.clients.rows)
  -- who saves, in the first phase or in the second, is a member of the running round that does
  pub saving : (c : ℕ) → is_saving (phase_in c s.clients.rows) ≡ true → is_member_at (λ d round. is_at saves d round.members) c s.round ≡ true
  pub saving_first : (c : ℕ) → is_first_saving (phase_in c s.clients.rows) ≡ true → is_member_at (λ d round. is_at saves_first d round.members) c s.round ≡ true
  -- the members that want the second phase are those whose phase says so
  pub wanting : (round : Agreement) → s.round ≡ Some round → filter (λ c. wants_second (phase_in c s.clients.rows)) (conns_of round.members) ≡ wanting_two round.members

-- it goes on so while the session settles
abbrev pub SettlesInOrder : Session → Type 0
SettlesInOrder s = (n : ℕ) → InOrder (settle_in n s)

-- The next one was given the token, where there is one, and nothing was done where there is none.
abbrev pub MatchNext : Option ℕ → Bool → Session → Session → Type 0
MatchNext None given old new = (given ≡ false) × (new ≡ old)
MatchNext (Some c) given old new = (given ≡ true) × (new ≡ moved (Gave c Interact) old)
