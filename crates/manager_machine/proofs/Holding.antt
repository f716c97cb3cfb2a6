-- The token goes to the first that waits for it.
use Rattle.std.proofs.Common.{◌≡◌, refl, ℕ, Bool, true, false, cond, not, ◌&&◌, List, [], ◌∷◌, ◌++◌, sym, ap, ◌∙◌, arith}
use Rattle.std.specs.Prelude.{Option, Some, None}
use Rattle.xsmp_messages.specs.declared.message.XsmpMessage.TheVariants.{Interact}
use Rattle.round_agreement.specs.Agreement.{are_distinct}
use Rattle.interact_queue.specs.Queue.{is_in, without}
use Rattle.session_model.specs.declared.events.Act.TheVariants.{Say}
use Rattle.session_model.specs.Moves.{Gave}
use Rattle.session_clients.specs.Clients.{held_by}
use Rattle.session_state.specs.Session.{Session, moved}
use Rattle.session_state.proofs.Known.{own}
use Rattle.session_state.proofs.Reached.{without-none}
use Rattle.manager_machine.specs.Order.{MatchNext}

not-first : (x y : Bool) → (not x && y) ≡ true → x ≡ false
not-first true y e = absurd (grind arith)
not-first false y e = refl

-- where nobody waits twice, the others are left when the first is taken out
pub others-left : (c : ℕ) (rest waiting : List ℕ) → are_distinct waiting ≡ true → waiting ≡ c ∷ rest → rest ≡ without c waiting
others-left c rest waiting once e =
    let n : is_in c rest ≡ false = not-first (is_in c rest) (are_distinct rest) (sym (ap (λ (cs : List ℕ). are_distinct cs) e) ∙ once) in
    sym (ap (λ (cs : List ℕ). without c cs) e ∙ ap (λ (b : Bool). cond (not b) (c ∷ without c rest) (without c rest)) (own c) ∙ without-none c rest n)

pub held-by : (c : ℕ) (s : Session) (waiting : List ℕ) (holder : Option ℕ) → waiting ≡ without c s.turns.waiting → holder ≡ Some c
    → record s { clients = held_by (Gave c Interact) s.clients; turns = record { waiting = waiting; holder = holder }; acts = s.acts ++ Say c Interact ∷ [] } ≡ moved (Gave c Interact) s
held-by c s waiting holder w e = λ i. record s { clients = held_by (Gave c Interact) s.clients; turns = record { waiting = w i; holder = e i }; acts = s.acts ++ Say c Interact ∷ [] }

pub next-given : (next : Option ℕ) (c : ℕ) (s t : Session) → Some c ≡ next → t ≡ moved (Gave c Interact) s → MatchNext next true s t
next-given None c s t e k = absurd (grind arith)
next-given (Some d) c s t e k = let same : c ≡ d = cc in (refl, k ∙ ap (λ (x : ℕ). moved (Gave x Interact) s) same)
