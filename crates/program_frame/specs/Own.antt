-- What a program does that has nothing to do but to print a text of its own, and its status.
use Rattle.std.specs.Prelude.{◌≡◌, ◌≢◌, ◌⊎◌, ℕ, List, [], ◌∷◌, codes, Result, Ok, Err}
use Rattle.sm_world.specs.Outside.{Outside, UsesConsole, adds, on_ok}
use Rattle.sm_world.specs.declared.effects.Effect.TheVariants.{Printed}
use Rattle.sm_world.specs.declared.failures.Failure.{Failure}
use Rattle.sm_world.specs.declared.failures.Failure.TheVariants.{Failed, NoMemory}
use Rattle.program_frame.specs.declared.own.OwnTexts.{OwnTexts}

abbrev pub printed_status : Result (Unit {0}) Failure → ℕ
printed_status (Ok x) = 0
printed_status (Err Failed) = 6
printed_status (Err NoMemory) = 10

-- The console was asked once to print this text, and nothing else was done. It printed it or refused it, and so the call ended.
pub record AsksToPrint (old new : Outside) (text : List ℕ) (printed : Result (Unit {0}) Failure) : Type 0 where
  pub told : new.told ≡ adds old.told (on_ok printed (Printed text ∷ []))
  pub uses : UsesConsole old new printed
  pub input : new.input ≡ old.input

-- the words ask for this text: for that of `--help`, or for that of `--version`
abbrev pub AsksFor : OwnTexts → List (List ℕ) → List ℕ → Type 0
AsksFor texts words text = ((words ≡ codes "--help" ∷ []) × (text ≡ texts.help.now)) ⊎ ((words ≡ codes "--version" ∷ []) × (text ≡ texts.version.now))

-- The words ask for none of the two.
pub record AsksForNone (words : List (List ℕ)) : Type 0 where
  pub help : words ≢ codes "--help" ∷ []
  pub version : words ≢ codes "--version" ∷ []

-- A program was done at once, since its words asked for a text: it was printed or refused, and the status says which.
pub record ShowsOwn (texts : OwnTexts) (words : List (List ℕ)) (old new : Outside) (status : ℕ) : Type 0 where
  pub text : List ℕ
  pub asked : AsksFor texts words text
  pub printed : Result (Unit {0}) Failure
  pub prints : AsksToPrint old new text printed
  pub number : status ≡ printed_status printed

-- A program was done at once, since there was no memory for its words: it tried to say so.
pub record LacksWords (texts : OwnTexts) (old new : Outside) (status : ℕ) : Type 0 where
  pub printed : Result (Unit {0}) Failure
  pub prints : AsksToPrint old new texts.no_memory.now printed
  pub number : status ≡ 10
