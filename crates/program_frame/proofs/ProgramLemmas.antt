-- What a program printed, and how its run ended.
use Rattle.std.proofs.Common.{◌≡◌, inl, inr, ℕ, ◌≤◌, List, [], ◌∷◌, ◌++◌, map, Option, Some, Result, Ok, Err, IfSome, refl, sym, ◌∙◌, ap, subst}
use Rattle.sm_world.specs.Outside.{Outside, Added, adds, on_ok}
use Rattle.sm_world.specs.declared.effects.Effect.{Effect}
use Rattle.sm_world.specs.declared.effects.Effect.TheVariants.{Printed}
use Rattle.sm_world.specs.declared.failures.Failure.{Failure}
use Rattle.sm_world.proofs.Adding.{adds-none, adds-adds}
use Rattle.program_frame.specs.Input.{front, TakesFront}
use Rattle.program_frame.specs.Printing.{Tries}
use Rattle.program_frame.specs.Programs.{RunsAs, AnswersAs}
use Rattle.program_frame.proofs.InputLemmas.{front_taken, some_input}

-- a line was tried
pub line_tried : {E : Type 0} (result : Result (Unit {0}) E) (old new : Option (List Effect)) (text : List ℕ) → new ≡ adds old (on_ok result (Printed text ∷ [])) → Added old new (Tries (Some text))
line_tried (Ok x) old new text e = record { effects = Printed text ∷ []; added = e; holds = record { texts = text ∷ []; printed = refl; tried = inl refl } }
line_tried (Err x) old new text e = record { effects = []; added = e; holds = record { texts = []; printed = refl; tried = inr refl } }

-- The front of the input was read, and nothing else was done.
pub record Took (limit : ℕ) (old mid : Outside) (bytes : List ℕ) : Type 0 where
  pub input : List ℕ
  pub is_input : IfSome old.input (λ told. told ≡ input)
  pub is_front : bytes ≡ front limit input
  pub told : mid.told ≡ old.told
  pub console : old.faults.console ≤ mid.faults.console

pub took : (limit : ℕ) (old mid : Outside) (bytes : List ℕ) → mid.told ≡ old.told → TakesFront {E = Failure} limit old.input (Ok bytes) → old.faults.console ≤ mid.faults.console → Took limit old mid bytes
took limit old mid bytes told taken counts =
    let parts = front_taken limit old.input bytes taken in
    record { input = parts.0; is_input = parts.1; is_front = parts.2; told = told; console = counts }

-- a run that printed these texts after the front of its input was read
pub ran : (limit : ℕ) (Holds : List ℕ → List (List ℕ) → Type 0) (old mid new : Outside) (bytes : List ℕ) (texts : List (List ℕ)) → Took limit old mid bytes → new.told ≡ adds mid.told (map Printed texts) → Holds bytes texts → Added old.told new.told (RunsAs old.input (λ input. Holds (front limit input)))
ran limit Holds old mid new bytes texts taken printed holds =
    let P : List ℕ → Type 0 = λ b. Holds b texts in
    record {
      effects = map Printed texts;
      added = printed ∙ ap (λ told. adds told (map Printed texts)) taken.told;
      holds = record { input = taken.input; is_input = taken.is_input; texts = texts; printed = refl; holds = subst P taken.is_front holds };
    }

-- A run that printed nothing, with what holds whatever the input is: its words were others, or its input was refused.
pub ran_unread : (Holds : List ℕ → List (List ℕ) → Type 0) (old new : Outside) → new.told ≡ old.told → ((input : List ℕ) → Holds input []) → Added old.told new.told (RunsAs old.input Holds)
ran_unread Holds old new told holds =
    let some = some_input old.input in
    record {
      effects = [];
      added = told ∙ sym (adds-none old.told);
      holds = record { input = some.0; is_input = some.1; texts = []; printed = refl; holds = holds some.0 };
    }

-- What holds of the input and of the texts may be said otherwise.
pub runs_still : (told : Option (List ℕ)) (Before After : List ℕ → List (List ℕ) → Type 0) (effects : List Effect) → ((bytes : List ℕ) (texts : List (List ℕ)) → Before bytes texts → After bytes texts) → RunsAs told Before effects → RunsAs told After effects
runs_still told Before After effects still run = record {
  input = run.input;
  is_input = run.is_input;
  texts = run.texts;
  printed = run.printed;
  holds = still run.input run.texts run.holds;
}

-- A run, and then its ending's line, where what the ending says still holds behind the line.
pub concluded : {Ending : Type 0} (Before After : Ending → List Effect → Type 0) (status_of : Ending → ℕ) (line_of : Ending → Option (List ℕ)) (old mid new : Option (List Effect)) (status : ℕ) (ending : Ending) → Added old mid (Before ending) → Added mid new (Tries (line_of ending)) → ((effects : List Effect) → Before ending effects → After ending effects) → status ≡ status_of ending → Added old new (AnswersAs After status_of line_of status)
concluded Before After status_of line_of old mid new status ending runs line still number = record {
  effects = runs.effects ++ line.effects;
  added = line.added ∙ (ap (λ told. adds told line.effects) runs.added ∙ adds-adds old runs.effects line.effects);
  holds = record {
    ending = ending;
    number = number;
    first = runs.effects;
    last = line.effects;
    parts = refl;
    ran = still runs.effects runs.holds;
    tried = line.holds;
  };
}
