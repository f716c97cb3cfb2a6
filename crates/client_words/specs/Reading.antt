-- What the words of `smclient` ask for.
use Rattle.std.specs.Prelude.{◌≡◌, ◌≢◌, ◌⊎◌, ◌≤◌, ◌<◌, ℕ, Bool, true, false, List, [], length, Option, None, Some, unwrap_or, codes}
use Rattle.std.specs.Str.Parse.{digits_value, without_leading_plus}
use Rattle.clap.specs.Faults.{fault_of}
use Rattle.clap.specs.Simple.{matches_of}
use Rattle.clap.specs.Walk.{Row, Text, first_of, one_of}
use Rattle.client_words.specs.Words.{client_app}
use Rattle.clap.specs.declared.error.kind.ErrorKind.{ErrorKind}
use Rattle.clap.specs.declared.error.kind.ErrorKind.TheVariants.{OutOfMemory}
use Rattle.client_words.specs.declared.choices.Choices.{Choices}
use Rattle.client_words.specs.declared.reading.WordsRefusal.{WordsRefusal}
use Rattle.client_words.specs.declared.reading.WordsRefusal.TheVariants.{BadWords, NoMemory}

-- an ID is empty where none is given
abbrev pub id_of : List Row → Text
id_of rows = unwrap_or (first_of (codes "id") rows) []

abbrev pub program_of : List Row → Text
program_of rows = unwrap_or (first_of (codes "program") rows) (codes "smclient")

-- the flag is given or not
abbrev pub IsFlag : Option Text → Bool → Type 0
IsFlag found flag = (found ≡ None → flag ≡ false) × (found ≡ Some (codes "false") → flag ≡ false) × (found ≡ Some (codes "true") → flag ≡ true)

-- The text that was found is this number in decimal.
abbrev pub IsNumber : Option Text → ℕ → Type 0
IsNumber found n = (text : Text) × (found ≡ Some text) × (n ≡ digits_value 10 (without_leading_plus text))

-- This is what the rows ask for that `clap` finds in the words.
pub record Ask (rows : List Row) (choices : Choices) : Type 0 where
  pub socket : first_of (codes "socket") rows ≡ Some choices.socket.now
  pub authority : first_of (codes "authority") rows ≡ Some choices.authority.now
  pub id : choices.id.now ≡ id_of rows
  pub program : choices.program.now ≡ program_of rows
  pub saves : IsNumber (one_of (codes "saves") rows) choices.saves
  pub some : 1 ≤ choices.saves
  pub interact : IsFlag (one_of (codes "interact") rows) choices.interact
  pub phase_two : IsFlag (one_of (codes "phase-two") rows) choices.phase_two

-- an ID or a program's name has at most 512 bytes
abbrev pub IsShort : Text → Type 0
IsShort text = length text ≤ 512

-- The words are those of the command, no name in them is too long, and this is what they ask for.
pub record AreChosen (words : List Text) (choices : Choices) : Type 0 where
  pub read : fault_of client_app words ≡ []
  pub ask : Ask (matches_of client_app words) choices
  pub short_id : IsShort choices.id.now
  pub short_program : IsShort choices.program.now

-- `clap` refuses the words, or a name in them is too long.
abbrev pub AreBad : List Text → Type 0
AreBad words = (fault_of client_app words ≢ []) ⊎ ((512 < length (id_of (matches_of client_app words))) ⊎ (512 < length (program_of (matches_of client_app words))))

-- Every error of `clap` but want of memory is a refusal of the words.
abbrev pub refusal_of : ErrorKind → WordsRefusal
refusal_of OutOfMemory = NoMemory
refusal_of kind = BadWords
