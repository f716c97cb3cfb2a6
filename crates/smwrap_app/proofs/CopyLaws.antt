-- The copies that a run makes: their numbers rise, so that no two have one path.
use Rattle.std.proofs.Common.{◌≡◌, ◌⊎◌, inl, inr, ℕ, ◌+◌, ◌<◌, ◌≤◌, ◌^◌, false, List, [], ◌∷◌, ◌++◌, map, Option, None, Some, refl, sym, ◌∙◌, ap, subst, arith}
use Rattle.std.specs.List.{AllByRecursion, flat_map}
use Rattle.sm_world.specs.Disk.{UsesDisk}
use Rattle.sm_world.specs.Outside.{NotFallen, Outside, adds}
use Rattle.sm_world.proofs.Adding.{adds-adds, adds-none, fallen_never, never_fallen}
use Rattle.xsmp_messages.specs.declared.message.XsmpMessage.{XsmpMessage}
use Rattle.client_engine.specs.Answering.{answer_messages}
use Rattle.client_machine.specs.declared.saves.SaveAnswer.{SaveAnswer}
use Rattle.client_machine.specs.declared.saves.Stage.{Stage}
use Rattle.client_machine.specs.declared.saves.Stage.TheVariants.{First, Second, Talking, TalkingTwo}
use Rattle.named_joiner.specs.Doing.{Follows}
use Rattle.named_joiner.specs.Script.{Callbacks, Entry, Says, AsksSave, AsksReasons}
use Rattle.named_joiner.specs.declared.callbacks.NamedAsk.{NamedAsk}
use Rattle.state_saver.specs.Files.{Holds}
use Rattle.state_saver.specs.Saving.{AnswersAt, AnswersSo, Saves, Shelf}
use Rattle.state_saver.specs.declared.plan.SavePlan.{SavePlan}
use Rattle.state_saver.proofs.PlanLaws.{own_paths}
use Rattle.smwrap_app.specs.Copies.{AreApart, Copy, HoldEach, MakesCopies, Rises, asked_tells, copied, copy_tells, tells}
use Rattle.smwrap_app.specs.Statuses.{NoReasons, SavesBy}

-- ---- numbers

rises_from : (m n : ℕ) (copies : List Copy) → m ≤ n → Rises n copies → Rises m copies
rises_from m n [] below rises = tt
rises_from m n (copy ∷ copies) below rises = (omega (arith, below, rises.0), rises.1)

rises_behind : (last : ℕ) (front rest : List Copy) (one : Copy) → Rises last (front ++ (one ∷ rest)) → Rises one.number rest
rises_behind last [] rest one rises = rises.1
rises_behind last (copy ∷ front) rest one rises = rises_behind copy.number front rest one rises.1

rises_to : (last : ℕ) (between back : List Copy) (other : Copy) → Rises last (between ++ (other ∷ back)) → last < other.number
rises_to last [] back other rises = rises.0
rises_to last (copy ∷ between) back other rises = omega (arith, rises.0, rises_to copy.number between back other rises.1)

all_at : (P : Copy → Type 0) (front rest : List Copy) (one : Copy) → AllByRecursion P (front ++ (one ∷ rest)) → P one × AllByRecursion P rest
all_at P [] rest one all = all
all_at P (copy ∷ front) rest one all = all_at P front rest one all.1

abbrev IsSmall : Copy → Type 0
IsSmall copy = copy.number < 2 ^ 32

pub apart_by : (plan : SavePlan) (last : ℕ) (copies : List Copy) → Rises last copies → AllByRecursion IsSmall copies → AreApart plan copies
apart_by plan last copies rises small front between back one other are same =
    let up : Rises one.number (between ++ (other ∷ back)) = rises_behind last front (between ++ (other ∷ back)) one (subst (λ (cs : List Copy). Rises last cs) (sym are) rises) in
    let above : one.number < other.number = rises_to one.number between back other up in
    let all = all_at IsSmall front (between ++ (other ∷ back)) one (subst (λ (cs : List Copy). AllByRecursion IsSmall cs) (sym are) small) in
    let equal : one.number ≡ other.number = own_paths plan.state one.number other.number all.0 (all_at IsSmall between back other all.1).0 same in
    omega (arith, above, equal)

-- ---- one save

-- A save made a copy.
pub record AddsCopy (plan : SavePlan) (answer : Option SaveAnswer) (old new : Shelf) : Type 0 where
  pub copy : Copy
  pub above : old.number < copy.number
  pub small : copy.number < 2 ^ 32
  pub number : new.number ≡ copy.number
  pub held : Holds old.outside plan.state copy.bytes
  pub told : new.outside.told ≡ adds old.outside.told (copied plan copy ∷ [])
  pub tells_it : (ask : NamedAsk) → asked_tells (AsksSave ask answer) ≡ copy_tells plan copy

-- It made none, and tells of none.
pub record AddsNone (answer : Option SaveAnswer) (old new : Shelf) : Type 0 where
  pub number : old.number ≤ new.number
  pub told : new.outside.told ≡ old.outside.told
  pub tells_none : (ask : NamedAsk) → asked_tells (AsksSave ask answer) ≡ []

told_as : (answer other : SaveAnswer) (messages : List XsmpMessage) → answer ≡ other → flat_map tells (answer_messages other) ≡ messages → (ask : NamedAsk) → asked_tells (AsksSave ask (Some answer)) ≡ messages
told_as answer other messages is tell ask = ap (λ (a : SaveAnswer). flat_map tells (answer_messages a)) is ∙ tell

saved : (plan : SavePlan) (id : List ℕ) (old new : Shelf) (answer : SaveAnswer) → Saves plan id old new answer → AddsCopy plan (Some answer) old new ⊎ AddsNone (Some answer) old new
saved plan id old new answer (inl copies) = inl (record {
  copy = record { number = new.number; id = id; bytes = copies.bytes };
  above = omega (arith, copies.next.raised);
  small = omega (arith, copies.next.raised, copies.next.room);
  number = refl;
  held = copies.held;
  told = copies.told;
  tells_it = told_as answer _ _ copies.says refl;
})
saved plan id old new answer (inr (inl misses)) = inr (record { number = omega (arith, misses.next.raised); told = misses.told; tells_none = told_as answer _ [] misses.says refl })
saved plan id old new answer (inr (inr refuses)) = inr (record { number = omega (arith, ap (λ (s : Shelf). s.number) refuses.same); told = ap (λ (s : Shelf). s.outside.told) refuses.same; tells_none = told_as answer _ [] refuses.says refl })

answered : (stage : Stage) (plan : SavePlan) (id : List ℕ) (old new : Shelf) (answer : SaveAnswer) → AnswersAt stage plan id old new answer → AddsCopy plan (Some answer) old new ⊎ AddsNone (Some answer) old new
answered First plan id old new answer so = saved plan id old new answer so
answered Second plan id old new answer so = saved plan id old new answer so
answered Talking plan id old new answer so = inr (record { number = omega (arith, ap (λ (s : Shelf). s.number) so.same); told = ap (λ (s : Shelf). s.outside.told) so.same; tells_none = told_as answer _ [] so.says refl })
answered TalkingTwo plan id old new answer so = inr (record { number = omega (arith, ap (λ (s : Shelf). s.number) so.same); told = ap (λ (s : Shelf). s.outside.told) so.same; tells_none = told_as answer _ [] so.says refl })

starved : (old new : ℕ) → (new ≡ old) ⊎ (new ≡ old + 1) → old ≤ new
starved old new (inl same) = omega (arith, same)
starved old new (inr one) = omega (arith, one)

asked : (plan : SavePlan) (ask : NamedAsk) (answer : Option SaveAnswer) (old new : Shelf) → AnswersSo answer plan ask old new → (AddsCopy plan answer old new ⊎ AddsNone answer old new) × UsesDisk old.outside new.outside false
asked plan ask (Some answer) old new so = (answered ask.ask.stage plan ask.id old new answer so.0, so.1)
asked plan ask None old new so = (inr (record { number = starved old.number new.number so.0.number; told = so.0.told; tells_none = λ other. refl }), so.1)

-- ---- one save after another

-- Saves made these copies.
pub record Makes (plan : SavePlan) (line : List Entry) (old new : Shelf) : Type 0 where
  pub copies : List Copy
  pub told : new.outside.told ≡ adds old.outside.told (map (copied plan) copies)
  pub tells_them : flat_map asked_tells line ≡ flat_map (copy_tells plan) copies
  pub rising : Rises old.number copies
  pub small : AllByRecursion IsSmall copies
  pub held : HoldEach plan old.outside copies
  pub counts : NotFallen old.outside.faults new.outside.faults

-- what stands in the files depends on what is told alone
holds_as : (old new : Outside) (path bytes : List ℕ) → new.files ≡ old.files → new.told ≡ old.told → Holds old path bytes → Holds new path bytes
holds_as old new path bytes files told holds fs ts has_files has_told = holds fs ts (sym files ∙ has_files) (sym told ∙ has_told)

each_as : (plan : SavePlan) (old new : Outside) (copies : List Copy) → new.files ≡ old.files → new.told ≡ old.told → HoldEach plan old copies → HoldEach plan new copies
each_as plan old new [] files told holds = tt
each_as plan old new (copy ∷ copies) files told holds = (
  holds_as old new plan.state copy.bytes files told holds.0,
  each_as plan (record old { told = adds old.told (copied plan copy ∷ []) }) (record new { told = adds new.told (copied plan copy ∷ []) }) copies files (ap (λ t. adds t (copied plan copy ∷ [])) told) holds.1,
)

disk_counts : (old new : Outside) → UsesDisk old new false → NotFallen old.faults new.faults
disk_counts old new uses = record { disk = uses.disk; links = omega (arith, uses.links); spawner = omega (arith, uses.spawner); console = omega (arith, uses.console) }

made_more : (plan : SavePlan) (ask : NamedAsk) (answer : Option SaveAnswer) (line : List Entry) (old mid new : Shelf) → (AddsCopy plan answer old mid ⊎ AddsNone answer old mid) → UsesDisk old.outside mid.outside false → Makes plan line mid new → Makes plan (AsksSave ask answer ∷ line) old new
made_more plan ask answer line old mid new (inl one) uses more = record {
  copies = one.copy ∷ more.copies;
  told = more.told ∙ (ap (λ t. adds t (map (copied plan) more.copies)) one.told ∙ adds-adds old.outside.told (copied plan one.copy ∷ []) (map (copied plan) more.copies));
  tells_them = ap (λ (ms : List XsmpMessage). ms ++ flat_map asked_tells line) (one.tells_it ask) ∙ ap (λ (ms : List XsmpMessage). copy_tells plan one.copy ++ ms) more.tells_them;
  rising = (one.above, subst (λ (n : ℕ). Rises n more.copies) one.number more.rising);
  small = (one.small, more.small);
  held = (one.held, each_as plan mid.outside (record old.outside { told = adds old.outside.told (copied plan one.copy ∷ []) }) more.copies (sym uses.files) (sym one.told) more.held);
  counts = fallen_never old.outside.faults mid.outside.faults new.outside.faults (disk_counts old.outside mid.outside uses) more.counts;
}
made_more plan ask answer line old mid new (inr none) uses more = record {
  copies = more.copies;
  told = more.told ∙ ap (λ t. adds t (map (copied plan) more.copies)) none.told;
  tells_them = ap (λ (ms : List XsmpMessage). ms ++ flat_map asked_tells line) (none.tells_none ask) ∙ more.tells_them;
  rising = rises_from old.number mid.number more.copies none.number more.rising;
  small = more.small;
  held = each_as plan mid.outside old.outside more.copies (sym uses.files) (sym none.told) more.held;
  counts = fallen_never old.outside.faults mid.outside.faults new.outside.faults (disk_counts old.outside mid.outside uses) more.counts;
}

made_as : (plan : SavePlan) (line other : List Entry) (old new : Shelf) → flat_map asked_tells other ≡ flat_map asked_tells line → Makes plan line old new → Makes plan other old new
made_as plan line other old new same makes = record { copies = makes.copies; told = makes.told; tells_them = same ∙ makes.tells_them; rising = makes.rising; small = makes.small; held = makes.held; counts = makes.counts }

pub made_by : (plan : SavePlan) (line : List Entry) (old new : Callbacks Shelf (Unit {0})) → Follows (SavesBy plan) NoReasons line old new → Makes plan line old.save new.save
made_by plan [] old new follows = subst (λ (c : Callbacks Shelf (Unit {0})). Makes plan [] old.save c.save) (sym follows) (record { copies = []; told = sym (adds-none old.save.outside.told); tells_them = refl; rising = tt; small = tt; held = tt; counts = never_fallen old.save.outside.faults })
made_by plan (Says message ∷ line) old new follows = made_as plan line (Says message ∷ line) old.save new.save refl (made_by plan line old new follows)
made_by plan (AsksSave ask answer ∷ line) old new follows =
    let step = asked plan ask answer old.save follows.0 follows.1 in
    made_more plan ask answer line old.save follows.0 new.save step.0 step.1 (made_by plan line (record old { save = follows.0 }) new follows.2)
made_by plan (AsksReasons reasons ∷ line) old new follows = made_as plan line (AsksReasons reasons ∷ line) old.save new.save refl (made_by plan line (record old { die = follows.0 }) new follows.2)

-- what they say of a run that began with this plan
pub makes_copies : (plan : SavePlan) (line : List Entry) (old new : Shelf) (makes : Makes plan line old new) → old.number ≡ plan.from → MakesCopies plan old.outside line makes.copies
makes_copies plan line old new makes from =
    let rising : Rises plan.from makes.copies = subst (λ (n : ℕ). Rises n makes.copies) from makes.rising in
    record { told = makes.tells_them; rising = rising; small = makes.small; apart = apart_by plan plan.from makes.copies rising makes.small; held = makes.held }
