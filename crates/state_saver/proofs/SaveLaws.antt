-- One call after another: what a save does to the files, and what it answers.
use Rattle.std.proofs.Common.{◌≡◌, ◌⊎◌, inl, inr, ℕ, ◌+◌, ◌≤◌, Bool, true, false, List, [], ◌∷◌, Result, Ok, Err, refl, ◌∙◌, ap, arith}
use Rattle.std.specs.Prelude.{IfOk, OnOk}
use Rattle.sm_world.specs.Disk.{UsesDisk}
use Rattle.sm_world.specs.Outside.{Outside, Rose, adds, on_ok}
use Rattle.sm_world.specs.declared.effects.Effect.TheVariants.{Published}
use Rattle.sm_world.specs.declared.failures.Failure.{Failure}
use Rattle.owned_lists.specs.declared.failures.NoMemory.{NoMemory}
use Rattle.xsmp_properties.specs.Tables.{IsTableFull}
use Rattle.client_machine.specs.Saves.{IsLawful, is_lawful_step}
use Rattle.client_machine.specs.declared.saves.SaveAnswer.{SaveAnswer}
use Rattle.client_machine.specs.declared.saves.SaveAsk.{SaveAsk}
use Rattle.client_machine.specs.declared.saves.Stage.{Stage}
use Rattle.client_machine.specs.declared.saves.Stage.TheVariants.{First, Second, Talking, TalkingTwo}
use Rattle.client_machine.specs.declared.saves.Step.TheVariants.{Done, Talked}
use Rattle.named_joiner.specs.declared.callbacks.NamedAsk.{NamedAsk}
use Rattle.state_saver.specs.Files.{Fetched, Holds, fetches}
use Rattle.state_saver.specs.Saving.{Answers, CopiesTo, PassesOn, Saves, Shelf, Tried, shelf, talks, trail}
use Rattle.state_saver.specs.declared.plan.SavePlan.{SavePlan}
use Rattle.state_saver.proofs.PlanLaws.{none_few}

-- ---- the disk's count

no_cause : (old new : Outside) → false ≡ true → Rose old.faults.disk new.faults.disk
no_cause old new never = absurd cc

pub uses_none : (outside : Outside) → UsesDisk outside outside false
uses_none outside = record { cause = no_cause outside outside; disk = omega arith; links = refl; spawner = refl; console = refl; first = refl; coming = refl; input = refl; files = refl }

rose_later : (first second third : ℕ) → first ≤ second → Rose second third → Rose first third
rose_later first second third not_fallen (inl rose) = inl (omega (arith, not_fallen, rose))
rose_later first second third not_fallen (inr full) = inr full

pub uses_then : (old mid new : Outside) (failed : Bool) → UsesDisk old mid false → UsesDisk mid new failed → UsesDisk old new failed
uses_then old mid new failed one two = record {
  cause = λ e. rose_later old.faults.disk mid.faults.disk new.faults.disk one.disk (two.cause e);
  disk = omega (arith, one.disk, two.disk);
  links = two.links ∙ one.links;
  spawner = two.spawner ∙ one.spawner;
  console = two.console ∙ one.console;
  first = two.first ∙ one.first;
  coming = two.coming ∙ one.coming;
  input = two.input ∙ one.input;
  files = two.files ∙ one.files;
}

-- ---- a copy

pub copies_by : (result : Result (Unit {0}) Failure) (state path bytes : List ℕ) (old mid new : Outside) → Holds old state bytes → mid.told ≡ old.told → new.told ≡ adds mid.told (on_ok result (Published path bytes ∷ [])) → (adds mid.told [] ≡ mid.told) → CopiesTo state path old new result
copies_by (Ok x) state path bytes old mid new holds same told none = (bytes, holds, told ∙ ap (λ t. adds t (Published path bytes ∷ [])) same)
copies_by (Err e) state path bytes old mid new holds same told none = told ∙ (none ∙ same)

-- what was fetched is what was published
pub passes_by : (result : Result (Unit {0}) Failure) (state path bytes : List ℕ) (before between after : Fetched) (old mid new : Outside) → between ≡ fetches before state (Ok bytes) → after ≡ between → mid.told ≡ old.told → new.told ≡ adds mid.told (on_ok result (Published path bytes ∷ [])) → OnOk result (PassesOn state path (trail before old) (trail after new))
passes_by (Ok x) state path bytes before between after old mid new fetched same kept published = record { bytes = bytes; fetched = same ∙ fetched; published = published ∙ ap (λ t. adds t (Published path bytes ∷ [])) kept }
passes_by (Err e) state path bytes before between after old mid new fetched same kept published = tt

pub tried_starved : (e : NoMemory) (plan : SavePlan) (id : List ℕ) (number : ℕ) (old new : Outside) → new.told ≡ old.told → UsesDisk old new false → Tried (Err e) plan id (shelf number old) (shelf (number + 1) new)
tried_starved e plan id number old new same uses = (record { told = same; number = inr refl }, uses)

-- ---- the stages

done_lawful : (stage : Stage) (ask : SaveAsk) (success : Bool) → ((stage ≡ First) ⊎ (stage ≡ Second)) → is_lawful_step stage ask (Done success) ≡ true
done_lawful First ask success one = refl
done_lawful Second ask success one = refl
done_lawful Talking ask success (inl one) = absurd cc
done_lawful Talking ask success (inr one) = absurd cc
done_lawful TalkingTwo ask success (inl one) = absurd cc
done_lawful TalkingTwo ask success (inr one) = absurd cc

done_by : (plan : SavePlan) (id : List ℕ) (old new : Shelf) (answer : SaveAnswer) → Saves plan id old new answer → (success : Bool) × (answer.step ≡ Done success)
done_by plan id old new answer (inl copies) = (true, ap (λ (a : SaveAnswer). a.step) copies.says)
done_by plan id old new answer (inr (inl misses)) = (false, ap (λ (a : SaveAnswer). a.step) misses.says)
done_by plan id old new answer (inr (inr refuses)) = (false, ap (λ (a : SaveAnswer). a.step) refuses.says)

pub lawful_by : (result : Result SaveAnswer NoMemory) (plan : SavePlan) (id : List ℕ) (old new : Shelf) (ask : SaveAsk) → ((ask.stage ≡ First) ⊎ (ask.stage ≡ Second)) → Tried result plan id old new → IfOk result (λ answer. ¬ (IsTableFull answer.set)) → IfOk result (IsLawful ask)
lawful_by (Ok answer) plan id old new ask at tried few =
    let done = done_by plan id old new answer tried.0 in
    record { step = rw done.1 (done_lawful ask.stage ask done.0 at); few = few }
lawful_by (Err e) plan id old new ask at tried few = tt

pub first_answers : (result : Result SaveAnswer NoMemory) (plan : SavePlan) (ask : NamedAsk) (old new : Shelf) → ask.ask.stage ≡ First → Tried result plan ask.id old new → Answers result plan ask old new
first_answers (Ok answer) plan ask old new at tried = rw at tried
first_answers (Err e) plan ask old new at tried = tried

pub second_answers : (result : Result SaveAnswer NoMemory) (plan : SavePlan) (ask : NamedAsk) (old new : Shelf) → ask.ask.stage ≡ Second → Tried result plan ask.id old new → Answers result plan ask old new
second_answers (Ok answer) plan ask old new at tried = rw at tried
second_answers (Err e) plan ask old new at tried = tried

pub talk_answers : (answer : SaveAnswer) (plan : SavePlan) (ask : NamedAsk) (number : ℕ) (outside : Outside) → ask.ask.stage ≡ Talking → answer ≡ talks → Answers (Ok answer) plan ask (shelf number outside) (shelf number outside)
talk_answers answer plan ask number outside at talked = rw at (record { same = refl; says = talked }, uses_none outside)

pub talk_two_answers : (answer : SaveAnswer) (plan : SavePlan) (ask : NamedAsk) (number : ℕ) (outside : Outside) → ask.ask.stage ≡ TalkingTwo → answer ≡ talks → Answers (Ok answer) plan ask (shelf number outside) (shelf number outside)
talk_two_answers answer plan ask number outside at talked = rw at (record { same = refl; says = talked }, uses_none outside)

no_cancel : (stage : Stage) (ask : SaveAsk) (shutdown : Bool) → ask.shutdown ≡ shutdown → ((stage ≡ Talking) ⊎ (stage ≡ TalkingTwo)) → is_lawful_step stage ask (Talked false) ≡ true
no_cancel Talking ask true is at = rw is refl
no_cancel Talking ask false is at = rw is refl
no_cancel TalkingTwo ask true is at = rw is refl
no_cancel TalkingTwo ask false is at = rw is refl
no_cancel First ask shutdown is (inl at) = absurd cc
no_cancel First ask shutdown is (inr at) = absurd cc
no_cancel Second ask shutdown is (inl at) = absurd cc
no_cancel Second ask shutdown is (inr at) = absurd cc

pub talk_lawful : (answer : SaveAnswer) (ask : SaveAsk) → ((ask.stage ≡ Talking) ⊎ (ask.stage ≡ TalkingTwo)) → answer ≡ talks → IsLawful ask answer
talk_lawful answer ask at talked = rw talked (record { step = no_cancel ask.stage ask ask.shutdown refl at; few = none_few })
