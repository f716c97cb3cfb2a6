-- How a call of `smclient` ends.
use Rattle.std.proofs.Common.{◌≡◌, ◌⊎◌, inl, inr, ℕ, ◌-◌, ◌^◌, ◌<◌, ◌≤◌, List, [], ◌++◌, Option, None, Some, Result, Ok, Err, refl, sym, ◌∙◌, ap, subst, arith}
use Rattle.std.proofs.lemmas.Bool.{cases_lt}
use Rattle.sm_world.specs.Outside.{Outside, Added, adds, NotFallen, Rose}
use Rattle.sm_world.specs.declared.effects.Effect.{Effect}
use Rattle.sm_world.specs.declared.failures.Failure.{Failure}
use Rattle.sm_world.specs.declared.failures.Failure.TheVariants.{Failed, NoMemory as DeviceMemory}
use Rattle.sm_world.specs.declared.failures.Faults.{Faults}
use Rattle.sm_world.proofs.Adding.{adds-none, adds-adds, fallen_never}
use Rattle.client_callbacks.specs.Doing.{IsCaused, effects_in}
use Rattle.client_callbacks.specs.Running.{failure_of}
use Rattle.client_callbacks.specs.declared.ends.ClientEnd.{ClientEnd}
use Rattle.client_callbacks.specs.declared.ends.ClientEnd.TheVariants.{Died, Closed, StreamEnded as HasEnded}
use Rattle.client_callbacks.specs.declared.ends.JoinFault.{JoinFault}
use Rattle.client_callbacks.specs.declared.ends.JoinFault.TheVariants.{LinkFault, Refused as IsRefused, Malformed as IsMalformed, Spent as IsSpent, NoMemory as IsMissing}
use Rattle.client_callbacks.specs.declared.joiner.Join.{Join}
use Rattle.client_words.specs.Reading.{AreBad, AreChosen}
use Rattle.client_words.specs.declared.choices.Choices.{Choices}
use Rattle.program_frame.specs.Printing.{Tries}
use Rattle.program_frame.specs.Programs.{status_by, line_by}
use Rattle.sm_world.proofs.Counting.{rose_since}
use Rattle.program_frame.proofs.ProgramLemmas.{concluded}
use Rattle.smclient_app.specs.Faults.{Ending, after_printing, end_of, fault_line, fault_status, unprinted_end}
use Rattle.smclient_app.specs.Joining.{JoinsBy}
use Rattle.smclient_app.specs.Lines.{PrintsFirst}
use Rattle.smclient_app.specs.Statuses.{Answers, IsEarly, IsReady, Runs, RunsBy}
use Rattle.smclient_app.specs.declared.fault.Fault.{Fault}
use Rattle.smclient_app.specs.declared.fault.Fault.TheVariants.{BadWords, Refused, StreamEnded, NoEntry, Link, Console, Spent, NoMemory, Malformed}

-- ---- counts that rose

rose_to : (most a b c : ℕ) → a ≤ b → b ≤ c → (a < b) ⊎ (b ≡ most) → (a < c) ⊎ (c ≡ most)
rose_to most a b c ab bc (inl rose) = inl (omega arith)
rose_to most a b c ab bc (inr at) = elim (cases_lt most c) [
  | inl above ↦ inl (omega arith)
  | inr under ↦ inr (omega arith)
]

-- a count that rose up to some moment rose up to a later one
rose_until : (a b c : ℕ) → a ≤ b → b ≤ c → Rose a b → Rose a c
rose_until a b c = rose_to (2 ^ 64 - 1) a b c

pub cause_within : (first second third fourth : Faults) (failure : Option Failure) → NotFallen first second → NotFallen second third → NotFallen third fourth → IsCaused second third failure → IsCaused first fourth failure
cause_within first second third fourth None a b c cause = tt
cause_within first second third fourth (Some DeviceMemory) a b c cause = tt
cause_within first second third fourth (Some Failed) a b c cause =
    rose_until first.links third.links fourth.links (omega (arith, a.links, b.links)) c.links (rose_since first.links second.links third.links a.links cause)

-- ---- the client

-- It stopped before it said anything.
pub stopped : (choices : Choices) (old new : Outside) (turns : ℕ) (fault : Fault) → new.told ≡ old.told → IsEarly choices old new fault → Added old.told new.told (RunsBy choices old new turns (Err fault))
stopped choices old new turns fault told early = record {
  effects = [];
  added = told ∙ sym (adds-none old.told);
  holds = inr (fault, refl, early, refl);
}

-- It joined, and its lines were printed.
pub went : (choices : Choices) (old mid run new : Outside) (turns : ℕ) (join : Join) (lines : List (List ℕ)) (answer : Result ClientEnd JoinFault) (printed : Result (Unit {0}) Failure) (ending : Ending)
    → IsReady choices old.files join → mid.told ≡ old.told → NotFallen old.faults mid.faults
    → JoinsBy choices mid run join lines turns answer
    → Added run.told new.told (PrintsFirst lines printed) → NotFallen run.faults new.faults → (printed ≡ Err Failed → Rose run.faults.console new.faults.console)
    → ending ≡ after_printing printed (end_of answer)
    → Added old.told new.told (RunsBy choices old new turns ending)
went choices old mid run new turns join lines answer printed ending ready told before joins prints after cause ends =
    let P : Join → Type 0 = λ j. JoinsBy choices mid run j lines turns answer in
    let by = subst P ready.is joins in
    let does = by.joins.does in
    let all = fallen_never old.faults run.faults new.faults (fallen_never old.faults mid.faults run.faults before does.counts) after in
    record {
      effects = effects_in does.done ++ prints.effects;
      added = prints.added ∙ (ap (λ t. adds t prints.effects) (does.told ∙ ap (λ t. adds t (effects_in does.done)) told) ∙ adds-adds old.told (effects_in does.done) prints.effects);
      holds = inl (record {
        cookie = join.cookie;
        file = ready.file;
        answer = answer;
        lines = lines;
        last = by.last;
        first = effects_in does.done;
        joins = record {
          cames = by.joins.cames;
          does = record {
            done = does.done;
            left = does.left;
            parts = does.parts;
            none_left = does.none_left;
            told = refl;
            lines = does.lines;
            follows = does.follows;
            counts = all;
            cause = cause_within old.faults mid.faults run.faults new.faults (failure_of answer) before does.counts after does.cause;
          };
          heard = by.joins.heard;
          answer = by.joins.answer;
          in_turns = by.joins.in_turns;
        };
        printed = printed;
        after = prints.effects;
        prints = prints.holds;
        cause = λ e. rose_since old.faults.console run.faults.console new.faults.console (fallen_never old.faults mid.faults run.faults before does.counts).console (cause e);
        parts = refl;
        ends = ends;
      });
    }

-- ---- the words

end_not_bad : (answer : Result ClientEnd JoinFault) → end_of answer ≡ Err BadWords → ⊥
end_not_bad (Ok Died) e = cc
end_not_bad (Ok Closed) e = cc
end_not_bad (Ok (HasEnded phase)) e = cc
end_not_bad (Err LinkFault) e = cc
end_not_bad (Err (IsRefused class)) e = cc
end_not_bad (Err (IsMalformed at)) e = cc
end_not_bad (Err IsSpent) e = cc
end_not_bad (Err IsMissing) e = cc

unprinted_not_bad : (ending : Ending) → (ending ≡ Err BadWords → ⊥) → unprinted_end ending ≡ Err BadWords → ⊥
unprinted_not_bad (Ok x) not e = cc
unprinted_not_bad (Err fault) not e = not e

printed_not_bad : (printed : Result (Unit {0}) Failure) (answer : Result ClientEnd JoinFault) → after_printing printed (end_of answer) ≡ Err BadWords → ⊥
printed_not_bad (Ok x) answer e = end_not_bad answer e
printed_not_bad (Err Failed) answer e = unprinted_not_bad (end_of answer) (end_not_bad answer) e
printed_not_bad (Err DeviceMemory) answer e = cc

same_fault : (x y : Fault) → ◌≡◌ {A = Ending} (Err x) (Err y) → x ≡ y
same_fault x y e = cc

-- Good words are never bad.
not_bad : (choices : Choices) (old new : Outside) (turns : ℕ) (effects : List Effect) → RunsBy choices old new turns (Err BadWords) effects → ⊥
not_bad choices old new turns effects (inl joined) = printed_not_bad joined.printed joined.answer (sym joined.ends)
not_bad choices old new turns effects (inr early) =
    let P : Fault → Type 0 = λ fault. IsEarly choices old new fault in
    subst P (sym (same_fault BadWords early.0 early.1)) early.2

chosen : (words : List (List ℕ)) (choices : Choices) (old new : Outside) (turns : ℕ) (ending : Ending) (effects : List Effect) → AreChosen words choices → RunsBy choices old new turns ending effects → Runs words old new turns ending effects
chosen words choices old new turns (Ok x) effects are runs = inl (choices, are, runs)
chosen words choices old new turns (Err BadWords) effects are runs = absurd (not_bad choices old new turns effects runs)
chosen words choices old new turns (Err Refused) effects are runs = inl (choices, are, runs)
chosen words choices old new turns (Err StreamEnded) effects are runs = inl (choices, are, runs)
chosen words choices old new turns (Err NoEntry) effects are runs = inl (choices, are, runs)
chosen words choices old new turns (Err Link) effects are runs = inl (choices, are, runs)
chosen words choices old new turns (Err Console) effects are runs = inl (choices, are, runs)
chosen words choices old new turns (Err Spent) effects are runs = inl (choices, are, runs)
chosen words choices old new turns (Err NoMemory) effects are runs = inl (choices, are, runs)
chosen words choices old new turns (Err Malformed) effects are runs = inl (choices, are, runs)

pub by_words : (words : List (List ℕ)) (choices : Choices) (old new : Outside) (turns : ℕ) (ending : Ending) → AreChosen words choices → Added old.told new.told (RunsBy choices old new turns ending) → Added old.told new.told (Runs words old new turns ending)
by_words words choices old new turns ending are runs = record {
  effects = runs.effects;
  added = runs.added;
  holds = chosen words choices old new turns ending runs.effects are runs.holds;
}

pub bad_words : (words : List (List ℕ)) (old : Outside) (turns : ℕ) → AreBad words → Added old.told old.told (Runs words old old turns (Err BadWords))
bad_words words old turns bad = record { effects = []; added = sym (adds-none old.told); holds = (bad, refl) }

pub no_memory : (words : List (List ℕ)) (old : Outside) (turns : ℕ) → Added old.told old.told (Runs words old old turns (Err NoMemory))
no_memory words old turns = record { effects = []; added = sym (adds-none old.told); holds = inr (refl, refl) }

-- ---- the call

-- The line of bad words changes nothing of what the ending says.
still : (words : List (List ℕ)) (old mid new : Outside) (turns : ℕ) (ending : Ending) (effects : List Effect) → (line_by fault_line ending ≡ None → new ≡ mid) → Runs words old mid turns ending effects → Runs words old new turns ending effects
still words old mid new turns (Ok x) effects silent runs = rw (silent refl) runs
still words old mid new turns (Err BadWords) effects silent runs = runs
still words old mid new turns (Err Refused) effects silent runs = rw (silent refl) runs
still words old mid new turns (Err StreamEnded) effects silent runs = rw (silent refl) runs
still words old mid new turns (Err NoEntry) effects silent runs = rw (silent refl) runs
still words old mid new turns (Err Link) effects silent runs = rw (silent refl) runs
still words old mid new turns (Err Console) effects silent runs = rw (silent refl) runs
still words old mid new turns (Err Spent) effects silent runs = rw (silent refl) runs
still words old mid new turns (Err NoMemory) effects silent runs = rw (silent refl) runs
still words old mid new turns (Err Malformed) effects silent runs = rw (silent refl) runs

pub answered : (words : List (List ℕ)) (old mid new : Outside) (turns status : ℕ) (ending : Ending) → Added old.told mid.told (Runs words old mid turns ending) → Added mid.told new.told (Tries (line_by fault_line ending)) → (line_by fault_line ending ≡ None → new ≡ mid) → status ≡ status_by fault_status ending → Added old.told new.told (Answers words old new turns status)
answered words old mid new turns status ending runs line silent number =
    concluded (Runs words old mid turns) (Runs words old new turns) (status_by fault_status) (line_by fault_line) old.told mid.told new.told status ending runs line
    (λ effects holds. still words old mid new turns ending effects silent holds) number
