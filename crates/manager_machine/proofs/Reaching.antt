-- A session that stands for a history which answers and rules reach is in order, and goes on so while it settles.
use Rattle.std.proofs.Common.{◌≡◌, refl, ℕ, suc, zero, Bool, true, false, cond, List, [], ◌∷◌, filter, sym, ap, subst, ◌∙◌, arith}
use Rattle.std.specs.Prelude.{Option, Some, None, is_some}
use Rattle.ice_values.specs.declared.property.Property.{Property}
use Rattle.round_agreement.specs.declared.round.Member.{Member}
use Rattle.round_agreement.specs.Agreement.{Agreement, conns_of, is_at, wants_two}
use Rattle.round_agreement.specs.Agreement as steps
use Rattle.interact_queue.specs.Queue.{is_in}
use Rattle.session_model.specs.declared.phase.Phase.{Phase}
use Rattle.session_model.specs.declared.phase.Phase.TheVariants.{WantsTwo}
use Rattle.session_model.specs.Phases.{is_asked, is_interacting, is_saving, is_first_saving, step_of}
use Rattle.session_model.specs.Moves.{History, Move, onto}
use Rattle.session_model.specs.Reading.{reading}
use Rattle.session_model.specs.Readings as of
use Rattle.session_model.specs.Rules.{rule, wanting_two}
use Rattle.session_model.proofs.Asked.{phases-tell}
use Rattle.session_model.proofs.Lists.{Once, distinct-from_once}
use Rattle.session_model.proofs.Ruled.{rows_now}
use Rattle.session_clients.specs.Clients.{phase_in}
use Rattle.session_state.specs.Session.{Session, go_on_in, moved_all, reading_in, settle_in}
use Rattle.session_state.proofs.Reached.{Reaches, first_saving-at, reaches-rule, round-members, saving-at, saving-round, waiting-distinct}
use Rattle.manager_machine.specs.Order.{InOrder, SettlesInOrder, wants_second}
use Rattle.session_rounds.specs.Rounds.{is_member_at}

-- Members that save

member-some : (test : ℕ → Agreement → Bool) (c : ℕ) (o : Option Agreement) → is_some o ≡ true → ((round : Agreement) → o ≡ Some round → test c round ≡ true) → is_member_at test c o ≡ true
member-some test c None e k = absurd (grind arith)
member-some test c (Some round) e k = k round refl

first-saving : (p : Option Phase) → is_first_saving p ≡ true → is_saving p ≡ true
first-saving None e = absurd (grind arith)
first-saving (Some p) e = grind arith

-- Members that want the second phase

wants-step : (p : Option Phase) (success : Bool) → wants_second p ≡ wants_two (step_of p success)
wants-step (Some WantsTwo) success = refl
wants-step p success = refl

row-at : (b : Bool) (m : Member) (conns : List ℕ) (members : List Member) → conns ≡ conns_of members → cond b (m.conn ∷ conns) conns ≡ conns_of (cond b (m ∷ members) members)
row-at true m conns members e = ap (λ (cs : List ℕ). m.conn ∷ cs) e
row-at false m conns members e = e

wanting-rows : (phase : ℕ → Option Phase) (saved : ℕ → Option (List Property)) (cs : List ℕ) → filter (λ c. wants_second (phase c)) (conns_of (of.rows phase saved cs)) ≡ wanting_two (of.rows phase saved cs)
wanting-rows phase saved [] = refl
wanting-rows phase saved (c ∷ cs) =
    row-at (wants_second (phase c)) (record { conn = c; step = step_of (phase c) (is_some (saved c)) }) (filter (λ d. wants_second (phase d)) (conns_of (of.rows phase saved cs))) (filter (λ m. wants_two m.step) (of.rows phase saved cs)) (wanting-rows phase saved cs)
    ∙ ap (λ (b : Bool). conns_of (cond b (record { conn = c; step = step_of (phase c) (is_some (saved c)) } ∷ filter (λ m. wants_two m.step) (of.rows phase saved cs)) (filter (λ m. wants_two m.step) (of.rows phase saved cs)))) (wants-step (phase c) (is_some (saved c)))

-- In order

pub in-order : (s : Session) (h : History) → Reaches s h → InOrder s
in-order s h r = record {
  registered_once = distinct-from_once s.clients.registered (subst (λ (cs : List ℕ). Once cs) (sym r.stands.registered_is) r.good.sound.once);
  waiting_once = waiting-distinct s h r.stands;
  asked = λ c. ap (λ (cs : List ℕ). is_in c cs) r.stands.waiting_is ∙ phases-tell h c ∙ sym (ap (λ (p : Option Phase). is_asked p) (r.stands.phases_are c));
  holding = λ c. r.stands.holder_is c ∙ sym (ap (λ (p : Option Phase). is_interacting p) (r.stands.phases_are c));
  saving = λ c e. member-some (λ d round. is_at steps.is_saving d round.members) c s.round (saving-round c s h r e) (λ round k. saving-at c round s h r k e);
  saving_first = λ c e. member-some (λ d round. is_at steps.is_first_saving d round.members) c s.round (saving-round c s h r (first-saving (phase_in c s.clients.rows) e)) (λ round k. first_saving-at c round s h r k e);
  wanting = λ round e.
      let members : round.members ≡ rows_now h = round-members round s h r.stands e in
      (λ i. filter (λ c. wants_second (r.stands.phases_are c i)) (conns_of (members i))) ∙ wanting-rows (λ c. of.phase_of c h) (λ c. of.saved_of c h) (of.members h) ∙ sym (ap (λ (ms : List Member). wanting_two ms) members);
}

-- While the session settles

settles-by : (n : ℕ) (moves : List Move) (s : Session) (h g : History) → ((t : Session) (f : History) → Reaches t f → InOrder (settle_in n t)) → Reaches s h → Reaches (moved_all moves s) g → InOrder (go_on_in (λ t. settle_in n t) s moves)
settles-by n [] s h g further r q = in-order s h r
settles-by n (m ∷ moves) s h g further r q = further (moved_all (m ∷ moves) s) g q

settles-so : (n : ℕ) (s : Session) (h : History) → Reaches s h → InOrder (settle_in n s)
settles-so zero s h r = in-order s h r
settles-so (suc n) s h r = settles-by n (rule (reading_in s)) s h (onto h (rule (reading h))) (λ t f q. settles-so n t f q) r (reaches-rule s h r)

pub settles-in-order : (s : Session) (h : History) → Reaches s h → SettlesInOrder s
settles-in-order s h r = λ n. settles-so n s h r
