-- The second phase begins for one after another of those that want it, and so for all of them at once.
use Rattle.std.proofs.Common.{◌≡◌, refl, ℕ, Bool, true, false, cond, ◌||◌, List, [], ◌∷◌, map, filter, sym, ap, ◌∙◌, arith, map-id}
use Rattle.std.specs.Prelude.{Option, Some, None, ◌==◌}
use Rattle.std.specs.List.{AllByRecursion}
use Rattle.round_agreement.specs.declared.round.Member.{Member}
use Rattle.round_agreement.specs.declared.round.Step.{Step}
use Rattle.round_agreement.specs.declared.round.Step.TheVariants.{Done, Saving, SavingTwo, WantsTwo}
use Rattle.round_agreement.specs.Agreement.{Agreement, conns_of, second_saving, second_step, wants_two, with_second}
use Rattle.interact_queue.specs.Queue.{is_in}
use Rattle.xsmp_messages.specs.declared.message.XsmpMessage.TheVariants.{SaveYourselfPhase2}
use Rattle.session_model.specs.Moves.{Gave, gave_each}
use Rattle.session_model.specs.Rules.{wanting_two}
use Rattle.session_model.proofs.Replied.{cond-same}
use Rattle.session_state.specs.Session.{Session, in_round, moved, moved_all, with_second_at}
use Rattle.session_state.proofs.Known.{flips, head-in, or-later}

-- those of these connections that want the second phase come to save in it
abbrev second_of : List ℕ → Member → Member
second_of conns m = cond (is_in m.conn conns) (second_saving m) m

abbrev seconds_of : List ℕ → List Member → List Member
seconds_of conns members = map (second_of conns) members

-- One after another

step-twice : (step : Step) → second_step (second_step step) ≡ second_step step
step-twice Saving = refl
step-twice WantsTwo = refl
step-twice SavingTwo = refl
step-twice (Done success) = refl

second-twice : (m : Member) → second_saving (second_saving m) ≡ second_saving m
second-twice m = ap (λ (step : Step). record { conn = m.conn; step = step }) (step-twice m.step)

again-at : (i : Bool) (m : Member) → cond i (second_saving (second_saving m)) (second_saving m) ≡ second_saving m
again-at true m = second-twice m
again-at false m = refl

-- b: the member is the first of them
next-at : (b : Bool) (c : ℕ) (conns : List ℕ) (m : Member) → (c == m.conn) ≡ b → second_of conns (cond b (second_saving m) m) ≡ cond (b || is_in m.conn conns) (second_saving m) m
next-at true c conns m e = again-at (is_in m.conn conns) m
next-at false c conns m e = refl

next-one : (c : ℕ) (conns : List ℕ) (m : Member) → second_of conns (cond (m.conn == c) (second_saving m) m) ≡ second_of (c ∷ conns) m
next-one c conns m = ap (λ (b : Bool). second_of conns (cond b (second_saving m) m)) (flips m.conn c) ∙ next-at (c == m.conn) c conns m refl

next-all : (c : ℕ) (conns : List ℕ) (members : List Member) → seconds_of conns (with_second_at c members) ≡ seconds_of (c ∷ conns) members
next-all c conns [] = refl
next-all c conns (m ∷ members) = λ i. next-one c conns m i ∷ next-all c conns members i

round-none : (round : Option Agreement) → round ≡ in_round (seconds_of []) round
round-none None = refl
round-none (Some round) = λ i. Some (record { members = sym (map-id round.members) i; began_empty = round.began_empty; wanted = round.wanted })

round-next : (c : ℕ) (conns : List ℕ) (round : Option Agreement) → in_round (seconds_of conns) (in_round (with_second_at c) round) ≡ in_round (seconds_of (c ∷ conns)) round
round-next c conns None = refl
round-next c conns (Some round) = λ i. Some (record { members = next-all c conns round.members i; began_empty = round.began_empty; wanted = round.wanted })

seconds-moved : (conns : List ℕ) (s : Session) → (moved_all (gave_each SaveYourselfPhase2 conns) s).round ≡ in_round (seconds_of conns) s.round
seconds-moved [] s = round-none s.round
seconds-moved (c ∷ conns) s = seconds-moved conns (moved (Gave c SaveYourselfPhase2) s) ∙ round-next c conns s.round

-- All that want it

-- whoever wants the second phase is among these connections
abbrev AreAll : List ℕ → List Member → Type 0
AreAll conns members = AllByRecursion (λ (m : Member). wants_two m.step ≡ true → is_in m.conn conns ≡ true) members

all-later : (c : ℕ) (conns : List ℕ) (members : List Member) → AreAll conns members → AreAll (c ∷ conns) members
all-later c conns [] a = tt
all-later c conns (m ∷ members) a = (λ e. or-later (c == m.conn) (is_in m.conn conns) (a.0 e), all-later c conns members a.1)

-- w: the first of the members wants it
all-at : (w : Bool) (m : Member) (ms : List Member) (members : List Member) → wants_two m.step ≡ w → AreAll (conns_of ms) members → AreAll (conns_of (cond w (m ∷ ms) ms)) (m ∷ members)
all-at true m ms members e a = (λ f. head-in m.conn (conns_of ms), all-later m.conn (conns_of ms) members a)
all-at false m ms members e a = (λ f. absurd (grind arith), a)

all-wanting : (members : List Member) → AreAll (wanting_two members) members
all-wanting [] = tt
all-wanting (m ∷ members) = all-at (wants_two m.step) m (filter (λ x. wants_two x.step) members) members refl (all-wanting members)

step-kept : (step : Step) → wants_two step ≡ false → step ≡ second_step step
step-kept Saving e = refl
step-kept WantsTwo e = absurd (grind arith)
step-kept SavingTwo e = refl
step-kept (Done success) e = refl

second-kept : (m : Member) → wants_two m.step ≡ false → m ≡ second_saving m
second-kept m e = ap (λ (step : Step). record { conn = m.conn; step = step }) (step-kept m.step e)

one-at : (w : Bool) (conns : List ℕ) (m : Member) → wants_two m.step ≡ w → (wants_two m.step ≡ true → is_in m.conn conns ≡ true) → second_of conns m ≡ second_saving m
one-at true conns m e a = ap (λ (b : Bool). cond b (second_saving m) m) (a e)
one-at false conns m e a = ap (λ (x : Member). cond (is_in m.conn conns) (second_saving m) x) (second-kept m e) ∙ cond-same (is_in m.conn conns) (second_saving m)

all-second : (conns : List ℕ) (members : List Member) → AreAll conns members → seconds_of conns members ≡ with_second members
all-second conns [] a = refl
all-second conns (m ∷ members) a = λ i. one-at (wants_two m.step) conns m refl a.0 i ∷ all-second conns members a.1 i

-- after the rule of the second phase all that wanted it save in it
pub second-begun : (s : Session) (round : Agreement) → s.round ≡ Some round
    → (moved_all (gave_each SaveYourselfPhase2 (wanting_two round.members)) s).round ≡ Some (record { members = with_second round.members; began_empty = round.began_empty; wanted = round.wanted })
second-begun s round e =
    seconds-moved (wanting_two round.members) s
    ∙ ap (λ (o : Option Agreement). in_round (seconds_of (wanting_two round.members)) o) e
    ∙ (λ i. Some (record { members = all-second (wanting_two round.members) round.members (all-wanting round.members) i; began_empty = round.began_empty; wanted = round.wanted }))
