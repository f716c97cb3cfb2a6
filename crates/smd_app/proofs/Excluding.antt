-- A script says one list of events or has one first bad line.
use Rattle.std.proofs.Common.{◌≡◌, inl, inr, ℕ, ◌<◌, List, [], ◌∷◌, length, Option, Some, None, sym, ◌∙◌, ap, arith}
use Rattle.std.specs.List.{AllByRecursion}
use Rattle.std.proofs.lemmas.Bool.{false≢true}
use Rattle.sm_world.specs.declared.events.Event.{Event}
use Rattle.control_lines.specs.Lines.{lines_of}
use Rattle.control_lines.specs.Script.{Gives, SayAll}
use Rattle.control_lines.proofs.FirstBad.{BadAt, same_place, none_bad}
use Rattle.control_lines.proofs.Meanings.{one_list}
use Rattle.smd_app.specs.Exclusions.{FitsOnce}
use Rattle.smd_app.specs.Rehearsals.{ends_within}
use Rattle.smd_app.specs.Script.{ScriptSays, IsFirstBad}
use Rattle.smd_app.specs.declared.script.TheConstants.{SCRIPT_LIMIT}

-- the line is skipped, or it says an event
abbrev IsGood : List ℕ → Type 0
IsGood line = (given : Option Event) × Gives line given

all_good : (lines : List (List ℕ)) (events : List Event) → SayAll lines events → AllByRecursion IsGood lines
all_good [] events say = tt
all_good (line ∷ lines) events (inl skipped) = ((None, skipped.0), all_good lines events skipped.1)
all_good (line ∷ lines) [] (inr says) = elim says [ ]
all_good (line ∷ lines) (event ∷ events) (inr says) = ((Some event, says.0), all_good lines events says.1)

bad_at : (bytes : List ℕ) (n : ℕ) → IsFirstBad bytes n → BadAt IsGood (SCRIPT_LIMIT < length bytes) (lines_of bytes) n
bad_at bytes n first = record {
  good = first.good;
  line = first.line;
  others = first.others;
  parts = first.lines;
  number = first.number;
  all_good = all_good first.good first.events first.all_good;
  bad = elim first.bad [
    | inl none ↦ inl (λ given. none given.0 given.1)
    | inr last ↦ inr last
  ];
}

same_bad : (bytes : List ℕ) (n k : ℕ) → IsFirstBad bytes n → IsFirstBad bytes k → n ≡ k
same_bad bytes n k one other = same_place IsGood (SCRIPT_LIMIT < length bytes) (lines_of bytes) n k (bad_at bytes n one) (bad_at bytes k other)

never_both : (bytes : List ℕ) (events : List Event) (n : ℕ) → ScriptSays bytes events → IsFirstBad bytes n → ⊥
never_both bytes events n says bad =
    none_bad IsGood (SCRIPT_LIMIT < length bytes) (lines_of bytes) n (all_good (lines_of bytes) events says.all) (λ long. omega (arith, long, says.within)) (bad_at bytes n bad)

same_script : (bytes : List ℕ) (events others : List Event) → ScriptSays bytes events → ScriptSays bytes others → events ≡ others
same_script bytes events others one other = one_list (lines_of bytes) events others one.all other.all

pub fits_once : (patience : ℕ) (bytes : List ℕ) (turns : ℕ) → FitsOnce patience bytes turns
fits_once patience bytes turns = record {
  one_script = same_script bytes;
  one_bad_line = same_bad bytes;
  said_or_bad = never_both bytes;
  ended_or_spent = λ events others ended spent.
      false≢true (sym spent.unended ∙ (ap (ends_within patience turns) (sym (same_script bytes events others ended.says spent.says)) ∙ ended.ended));
}
