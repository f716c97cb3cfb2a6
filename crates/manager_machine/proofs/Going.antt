-- The running round goes on to its second phase.
use Rattle.std.proofs.Common.{◌≡◌, refl, Bool, true, false, cond, not, ◌&&◌, ◌||◌, List, [], ◌∷◌, sym, ap, ◌∙◌, arith, filter}
use Rattle.std.specs.Prelude.{Option, Some, None}
use Rattle.std.specs.List.{list_all, list_any}
use Rattle.xsmp_messages.specs.declared.message.XsmpMessage.TheVariants.{SaveYourselfPhase2}
use Rattle.round_agreement.specs.declared.round.Member.{Member}
use Rattle.round_agreement.specs.Agreement.{Agreement, agreed, conns_of, deserted, is_done, is_nil, two_ready, wants_two}
use Rattle.session_model.specs.Moves.{Move, gave_each}
use Rattle.session_model.specs.Reading.{Reading}
use Rattle.session_model.specs.Rules.{round_rule, running_rule, wanting_two}
use Rattle.session_state.specs.Session.{Session, moved_all}
use Rattle.session_rounds.specs.declared.running.Progress.TheVariants.{SecondPhase}
use Rattle.manager_machine.specs.Settling.{WentOn}
use Rattle.session_rounds.specs.Rounds.{progress_by, progress_of}

ready : (b agree left : Bool) → progress_by b agree left ≡ SecondPhase → b ≡ true
ready true agree left e = refl
ready false true left e = absurd (grind arith)
ready false false true e = absurd (grind arith)
ready false false false e = absurd (grind arith)

both : (a b : Bool) → (a && b) ≡ true → b ≡ true
both true b e = e
both false b e = absurd (grind arith)

some-at : (w rest : Bool) (m : Member) (found : List Member) → (w || rest) ≡ true → (rest ≡ true → is_nil (gave_each SaveYourselfPhase2 (conns_of found)) ≡ false)
    → is_nil (gave_each SaveYourselfPhase2 (conns_of (cond w (m ∷ found) found))) ≡ false
some-at true rest m found e k = refl
some-at false rest m found e k = k e

-- somebody is told, where somebody wants the second phase
some-told : (members : List Member) → list_any (λ m. wants_two m.step) members ≡ true → is_nil (gave_each SaveYourselfPhase2 (wanting_two members)) ≡ false
some-told [] e = absurd (grind arith)
some-told (m ∷ members) e = some-at (wants_two m.step) (list_any (λ x. wants_two x.step) members) m (filter (λ x. wants_two x.step) members) e (some-told members)

pub second-went : (r : Reading) (o : Option Agreement) (old new : Session) → progress_of o ≡ SecondPhase
    → ((round : Agreement) → o ≡ Some round → two_ready round.members ≡ true → new ≡ moved_all (gave_each SaveYourselfPhase2 (wanting_two round.members)) old) → WentOn (round_rule r o) true old new
second-went r None old new e k = absurd (grind arith)
second-went r (Some round) old new e k =
    let t : two_ready round.members ≡ true = ready (two_ready round.members) (agreed round) (deserted round) e in
    let same : gave_each SaveYourselfPhase2 (wanting_two round.members) ≡ round_rule r (Some round) = sym (ap (λ (b : Bool). running_rule b r round) t) in
    let told : is_nil (gave_each SaveYourselfPhase2 (wanting_two round.members)) ≡ false =
    some-told round.members (both (list_all (λ m. is_done m.step || wants_two m.step) round.members) (list_any (λ m. wants_two m.step) round.members) t)
    in
    (k round refl t ∙ ap (λ (moves : List Move). moved_all moves old) same, sym (ap (λ (b : Bool). not b) told) ∙ ap (λ (moves : List Move). not (is_nil moves)) same)
