-- One rule after another.
use Rattle.std.proofs.Common.{◌≡◌, refl, ℕ, suc, Bool, true, false, not, List, [], ◌∷◌, sym, ap, subst, ◌∙◌, arith}
use Rattle.std.specs.Prelude.{Option, Some, None, is_some}
use Rattle.interact_queue.specs.Queue.{next_holder}
use Rattle.round_agreement.specs.Agreement.{is_nil}
use Rattle.session_model.specs.Moves.{Move}
use Rattle.session_model.specs.Rules.{round_rule, rule, token_rule}
use Rattle.session_state.specs.Session.{Session, go_on_in, moved_all, reading_in, settle_in}
use Rattle.manager_machine.specs.Order.{InOrder, MatchNext, SettlesInOrder}
use Rattle.manager_machine.specs.Settling.{WentOn}

-- The token first

pub not-given : (o : Option ℕ) (given : Bool) (s t : Session) → given ≡ false → MatchNext o given s t → (o ≡ None) × (t ≡ s)
not-given None given s t e m = (refl, m.1)
not-given (Some c) given s t e m = absurd (grind arith)

-- where nobody is given the token the rounds go on
pub rounds-went : (s t new : Session) (given went : Bool) → given ≡ false → MatchNext (next_holder (is_some s.turns.holder) s.turns.waiting) given s t
    → WentOn (round_rule (reading_in t) t.round) went t new → WentOn (rule (reading_in s)) went s new
rounds-went s t new given went e m w =
    let none = not-given (next_holder (is_some s.turns.holder) s.turns.waiting) given s t e m in
    subst (λ (o : Option ℕ). WentOn (token_rule o (reading_in s)) went s new) (sym none.0) (subst (λ (x : Session). WentOn (round_rule (reading_in x) x.round) went x new) none.1 w)

-- Settling

went-moves : (moves : List Move) (n : ℕ) (s : Session) → not (is_nil moves) ≡ true → go_on_in (λ t. settle_in n t) s moves ≡ settle_in n (moved_all moves s)
went-moves [] n s e = absurd (grind arith)
went-moves (m ∷ moves) n s e = refl

-- a rule held, and the others go on from there
pub settle-went : (n : ℕ) (s t : Session) (went : Bool) → went ≡ true → WentOn (rule (reading_in s)) went s t → settle_in n t ≡ settle_in (suc n) s
settle-went n s t went e w = ap (λ (x : Session). settle_in n x) w.0 ∙ sym (went-moves (rule (reading_in s)) n s (sym w.1 ∙ e))

-- it goes on in order
pub in-order-went : (s t : Session) (went : Bool) → went ≡ true → WentOn (rule (reading_in s)) went s t → SettlesInOrder s → SettlesInOrder t
in-order-went s t went e w o = λ n. subst (λ (x : Session). InOrder x) (sym (settle-went n s t went e w)) (o (suc n))
