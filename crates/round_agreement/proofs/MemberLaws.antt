-- The connections of members, as their steps change and as one leaves.
use Rattle.std.proofs.Common.{◌≡◌, ℕ, ◌==◌, true, false, not, cond, List, [], ◌∷◌, length, refl, ap, ◌∙◌, arith}
use Rattle.std.specs.Prelude.{filter}
use Rattle.round_agreement.specs.declared.round.Member.{Member}
use Rattle.round_agreement.specs.declared.round.Step.{Step}
use Rattle.round_agreement.specs.Agreement.{is_nil, conns_of, all_saving, with_step, without_member, with_second}

pub is_nil_law : {A : Type 0} (xs : List A) → (length xs == 0) ≡ is_nil xs
is_nil_law [] = refl
is_nil_law (x ∷ xs) = grind arith

pub conns-saving : (conns : List ℕ) → conns_of (all_saving conns) ≡ conns
conns-saving [] = refl
conns-saving (conn ∷ conns) = ap (λ cs. conn ∷ cs) (conns-saving conns)

pub conns-moved : (conn : ℕ) (step : Step) (ms : List Member) → conns_of (with_step conn step ms) ≡ conns_of ms
conns-moved conn step [] = refl
conns-moved conn step (m ∷ ms) = ap (λ cs. m.conn ∷ cs) (conns-moved conn step ms)

pub conns-second : (ms : List Member) → conns_of (with_second ms) ≡ conns_of ms
conns-second [] = refl
conns-second (m ∷ ms) = ap (λ cs. m.conn ∷ cs) (conns-second ms)

pub conns-without : (conn : ℕ) (ms : List Member) → filter (λ other. not (other == conn)) (conns_of ms) ≡ conns_of (without_member conn ms)
conns-without conn [] = refl
conns-without conn (m ∷ ms) =
    ap (λ cs. cond (not (m.conn == conn)) (m.conn ∷ cs) cs) (conns-without conn ms)
    ∙ (elim (not (m.conn == conn)) as (λ b. cond b (m.conn ∷ conns_of (without_member conn ms)) (conns_of (without_member conn ms)) ≡ conns_of (cond b (m ∷ without_member conn ms) (without_member conn ms))) [ true ↦ refl | false ↦ refl ])
