-- A script says one list of events or has one first bad line.
use Rattle.std.proofs.Common.{◌≡◌, inl, inr, ℕ, ◌<◌, List, [], ◌∷◌, length, Option, Some, None, arith}
use Rattle.std.specs.List.{AllByRecursion}
use Rattle.sm_world.specs.declared.events.Event.{Event}
use Rattle.control_lines.specs.Lines.{lines_of}
use Rattle.control_lines.specs.Script.{SayAll}
use Rattle.control_lines.proofs.FirstBad.{BadAt, same_place, none_bad}
use Rattle.control_lines.proofs.Meanings.{one_list}
use Rattle.event_script.specs.Exclusions.{MeansOnce}
use Rattle.event_script.specs.Script.{IsTaken, GivesTaken, ScriptSays, IsFirstBad}
use Rattle.event_script.specs.declared.script.Taken.{Taken}
use Rattle.event_script.specs.declared.script.TheConstants.{SCRIPT_LIMIT}

-- the line is skipped, or it says an event that it may say
abbrev IsGood : Taken → List ℕ → Type 0
IsGood taken line = (given : Option Event) × GivesTaken taken line given

all_good : (taken : Taken) (lines : List (List ℕ)) (events : List Event) → SayAll lines events → AllByRecursion (IsTaken taken) events → AllByRecursion (IsGood taken) lines
all_good taken [] events say allowed = tt
all_good taken (line ∷ lines) events (inl skipped) allowed = ((None, (skipped.0, tt)), all_good taken lines events skipped.1 allowed)
all_good taken (line ∷ lines) [] (inr says) allowed = elim says [ ]
all_good taken (line ∷ lines) (event ∷ events) (inr says) allowed = ((Some event, (says.0, allowed.0)), all_good taken lines events says.1 allowed.1)

bad_at : (taken : Taken) (bytes : List ℕ) (n : ℕ) → IsFirstBad taken bytes n → BadAt (IsGood taken) (SCRIPT_LIMIT < length bytes) (lines_of bytes) n
bad_at taken bytes n first = record {
  good = first.good;
  line = first.line;
  others = first.others;
  parts = first.lines;
  number = first.number;
  all_good = all_good taken first.good first.events first.all_good first.allowed;
  bad = elim first.bad [
    | inl none ↦ inl (λ given. none given.0 given.1)
    | inr last ↦ inr last
  ];
}

same_bad : (taken : Taken) (bytes : List ℕ) (n k : ℕ) → IsFirstBad taken bytes n → IsFirstBad taken bytes k → n ≡ k
same_bad taken bytes n k one other = same_place (IsGood taken) (SCRIPT_LIMIT < length bytes) (lines_of bytes) n k (bad_at taken bytes n one) (bad_at taken bytes k other)

never_both : (taken : Taken) (bytes : List ℕ) (events : List Event) (n : ℕ) → ScriptSays taken bytes events → IsFirstBad taken bytes n → ⊥
never_both taken bytes events n says bad =
    none_bad (IsGood taken) (SCRIPT_LIMIT < length bytes) (lines_of bytes) n (all_good taken (lines_of bytes) events says.all says.allowed) (λ long. omega (arith, long, says.within)) (bad_at taken bytes n bad)

pub means_once : (taken : Taken) (bytes : List ℕ) → MeansOnce taken bytes
means_once taken bytes = record {
  one_script = λ events others one other. one_list (lines_of bytes) events others one.all other.all;
  one_bad_line = same_bad taken bytes;
  said_or_bad = never_both taken bytes;
}
