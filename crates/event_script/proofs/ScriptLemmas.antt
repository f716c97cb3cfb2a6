-- The lines of a script, one after the other.
use Rattle.std.proofs.Common.{◌≡◌, ℕ, ◌+◌, ◌<◌, ◌≤◌, List, [], ◌∷◌, ◌++◌, length, sym, ◌∙◌, ap, arith, append_assoc, length-append}
use Rattle.std.specs.List.{AllByRecursion}
use Rattle.sm_world.specs.Events.{HasPieceSize}
use Rattle.sm_world.specs.declared.events.Event.{Event}
use Rattle.control_lines.specs.Lines.{lines_of}
use Rattle.control_lines.specs.Script.{SayAll}
use Rattle.control_lines.proofs.Listing.{SayAll-append, SayAll-sized}
use Rattle.event_script.specs.Script.{IsTaken}
use Rattle.event_script.specs.declared.script.Taken.{Taken}
use Rattle.event_script.specs.declared.script.TheConstants.{SCRIPT_LIMIT}

-- In the middle of a script: the lines so far say the events so far.
pub record Reading (taken : Taken) (script left : List ℕ) (events : List Event) (n : ℕ) : Type 0 where
  pub good : List (List ℕ)
  pub lines : lines_of script ≡ good ++ lines_of left
  pub all : SayAll good events
  pub allowed : AllByRecursion (IsTaken taken) events
  pub number : n ≡ length good
  pub few : n + length left ≤ length script
  pub within : left ≡ [] → length script ≤ SCRIPT_LIMIT

all_taken : (taken : Taken) (events more : List Event) → AllByRecursion (IsTaken taken) events → AllByRecursion (IsTaken taken) more → AllByRecursion (IsTaken taken) (events ++ more)
all_taken taken [] more one other = other
all_taken taken (event ∷ events) more one other = (one.0, all_taken taken events more one.1 other)

-- one more line was read
pub next_reading : (taken : Taken) (script left line rest : List ℕ) (events said more : List Event) (n : ℕ) → Reading taken script left events n → lines_of left ≡ line ∷ lines_of rest → length rest < length left → SayAll (line ∷ []) said → AllByRecursion (IsTaken taken) said → more ≡ events ++ said → (rest ≡ [] → length script ≤ SCRIPT_LIMIT) → Reading taken script rest more (n + 1)
next_reading taken script left line rest events said more n reading first shorter says allowed is_more within = record {
  good = reading.good ++ line ∷ [];
  lines = reading.lines ∙ (ap (λ ls. reading.good ++ ls) first ∙ sym (append_assoc reading.good (line ∷ []) (lines_of rest)));
  all = rw is_more (SayAll-append reading.good (line ∷ []) events said reading.all says);
  allowed = rw is_more (all_taken taken events said reading.allowed allowed);
  number = omega (arith, reading.number, length-append reading.good (line ∷ []));
  few = omega (arith, reading.few);
  within = within;
}

pub all_read : (taken : Taken) (script left : List ℕ) (events : List Event) (n : ℕ) → Reading taken script left events n → AllByRecursion HasPieceSize events
all_read taken script left events n reading = SayAll-sized reading.good events reading.all
