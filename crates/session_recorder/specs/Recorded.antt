-- What is recorded of a session.
use Rattle.std.specs.Prelude.{◌≡◌, ℕ, Bool, true, false, if◌then◌else◌, List, [], ◌∷◌, ◌++◌, take, Option, None, Some}
use Rattle.std.specs.List.{list_any}
use Rattle.sm_world.specs.declared.effects.Effect.{Effect}
use Rattle.sm_world.specs.declared.effects.Effect.TheVariants.{Heard, Sent, Shut, Started, Wrote, Torn, Synced, SyncFailed, Published, Printed}
use Rattle.control_lines.specs.Traces.{effect_text, effects_text, whole_line}
use Rattle.session_recorder.specs.declared.progress.Progress.{Progress}
use Rattle.session_recorder.specs.declared.progress.Progress.TheVariants.{Waiting, Recording, Lost, Starved}

abbrev pub is_printed : Effect → Bool
is_printed (Heard event) = false
is_printed (Sent conn bytes) = false
is_printed (Shut conn) = false
is_printed (Started command succeeded) = false
is_printed (Wrote at bytes) = false
is_printed (Torn at length) = false
is_printed Synced = false
is_printed SyncFailed = false
is_printed (Published path bytes) = false
is_printed (Printed text) = true

-- A line was printed: the first one tells where the session is found.
abbrev pub is_announced : List Effect → Bool
is_announced effects = list_any is_printed effects

-- the effects behind that line
abbrev pub behind_announcement : List Effect → List Effect
behind_announcement [] = []
behind_announcement (effect ∷ effects) = if is_printed effect then effects else behind_announcement effects

-- the whole line of an effect, which is empty where it has none
abbrev pub IsLineOf : Effect → List ℕ → Type 0
IsLineOf effect line = line ≡ whole_line (effect_text effect)

-- The record of these effects: what it opens with, and the line of each event and deed behind the announcement.
abbrev pub record_text : List ℕ → List Effect → List ℕ
record_text opening effects = opening ++ effects_text (behind_announcement effects)

-- What is kept of a session with these effects: the whole record, and once a part of it was lost, a front of it.
abbrev pub Keeps : List ℕ → Progress → List Effect → List ℕ → Type 0
Keeps opening Waiting effects kept = (is_announced effects ≡ false) × (kept ≡ record_text opening effects)
Keeps opening Recording effects kept = (is_announced effects ≡ true) × (kept ≡ record_text opening effects)
Keeps opening Lost effects kept = (left : List ℕ) × (record_text opening effects ≡ kept ++ left)
Keeps opening Starved effects kept = (left : List ℕ) × (record_text opening effects ≡ kept ++ left)

-- Where the world tells its effects, and the record what it keeps, this is kept of them.
abbrev pub KeepsTold : List ℕ → Progress → Option (List Effect) → Option (List ℕ) → Type 0
KeepsTold opening progress told told_kept = (effects : List Effect) (kept : List ℕ) → told ≡ Some effects → told_kept ≡ Some kept → Keeps opening progress effects kept

-- Why a record goes on or ends, by whether a line was refused and whether the user was told that it goes no further: it goes on as long as no line is refused, and ends with a line that was refused or for which there was no memory, and then the user was told.
abbrev pub IsDue : Progress → (refused told : Bool) → Type 0
IsDue Waiting refused told = (refused ≡ false) × (told ≡ false)
IsDue Recording refused told = (refused ≡ false) × (told ≡ false)
IsDue Lost refused told = (refused ≡ true) × (told ≡ true)
IsDue Starved refused told = (refused ≡ false) × (told ≡ true)

-- nothing is told, or that there is nothing yet
abbrev pub IsNew : {A : Type 0} → Option (List A) → Type 0
IsNew {A} None = Unit {0}
IsNew {A} (Some items) = items ≡ []

-- these bytes were appended, where the record tells what it keeps
abbrev pub appended : Option (List ℕ) → List ℕ → Option (List ℕ)
appended None bytes = None
appended (Some kept) bytes = Some (kept ++ bytes)

-- The bytes were appended as far as they came.
abbrev pub IsCut : Option (List ℕ) → Option (List ℕ) → List ℕ → Type 0
IsCut old new bytes = (n : ℕ) × (new ≡ appended old (take n bytes))

-- A session's world with its record.
pub record Watched (W R : Type 0) : Type 0 where
  pub world : W
  pub lines : R
  -- what the record opens with
  pub opening : List ℕ
  pub progress : Progress
