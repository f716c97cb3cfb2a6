-- What was printed, and how a run ended.
use Rattle.std.proofs.Common.{◌≡◌, ℕ, ◌+◌, true, false, List, [], ◌∷◌, ◌++◌, map, Option, Some, Ok, Err, refl, sym, ◌∙◌, ap}
use Rattle.sm_world.specs.Outside.{Outside, Added, Rose, UsesConsole, adds}
use Rattle.sm_world.specs.Worlds.{steady_outside}
use Rattle.sm_world.specs.declared.effects.Effect.{Effect}
use Rattle.sm_world.specs.declared.effects.Effect.TheVariants.{Printed}
use Rattle.sm_world.specs.declared.events.Event.{Event}
use Rattle.sm_world.specs.declared.failures.Failure.{Failure}
use Rattle.sm_world.specs.declared.failures.Failure.TheVariants.{Failed, NoMemory as DeviceMemory}
use Rattle.sm_world.proofs.Adding.{adds-none}
use Rattle.program_frame.specs.Programs.{RunsAs}
use Rattle.sm_world.proofs.Counting.{rose_since}
use Rattle.program_frame.proofs.ProgramLemmas.{Took as TookWithin, ran as ran_with, ran_unread}
use Rattle.checkpoint_slots.specs.Turns.{opened_in}
use Rattle.session_engine.specs.Doing.{items}
use Rattle.smd_app.specs.Faults.{IsScriptFault}
use Rattle.smd_app.specs.FaultLines.{console_fault, script_fault}
use Rattle.smd_app.specs.Rehearsals.{script_of, Rehearses, whole_run}
use Rattle.smd_app.specs.Script.{ScriptSays}
use Rattle.smd_app.specs.Statuses.{Ending, HasRehearsed, HasExercised, RunsExercise}
use Rattle.smd_app.specs.Summaries.{came_in, sent_in, summary}
use Rattle.session_in_memory.specs.Lines.{text}
use Rattle.smd_app.specs.Trace.{patience_text}
use Rattle.smd_app.specs.declared.fault.Fault.TheVariants.{BadLine, Spent, NoMemory}
use Rattle.smd_app.specs.declared.rehearsal.Rehearsal.{Rehearsal}
use Rattle.smd_app.specs.declared.script.ScriptFault.{ScriptFault}
use Rattle.smd_app.specs.declared.script.ScriptFault.TheVariants.{BadLine as FirstBadLine, NoMemory as ScriptMemory}
use Rattle.smd_app.specs.declared.script.TheConstants.{SCRIPT_LIMIT}

-- The script's bytes were read, and nothing else was done.
abbrev pub Took : Outside → Outside → List ℕ → Type 0
Took old mid bytes = TookWithin (SCRIPT_LIMIT + 1) old mid bytes

-- A rehearsal ended so.
abbrev pub Rehearsed : Outside → Outside → ℕ → ℕ → Ending → List Effect → Type 0
Rehearsed old new patience turns ending effects = RunsAs old.input (λ input texts. HasRehearsed old.faults.console new.faults.console patience (script_of input) turns texts ending) effects

-- a run that printed these texts after its script was read
ran : (old mid new : Outside) (patience turns : ℕ) (bytes : List ℕ) (texts : List (List ℕ)) (ending : Ending) → Took old mid bytes → new.told ≡ adds mid.told (map Printed texts) → HasRehearsed old.faults.console new.faults.console patience bytes turns texts ending → Added old.told new.told (Rehearsed old new patience turns ending)
ran old mid new patience turns bytes texts ending =
    ran_with (SCRIPT_LIMIT + 1) (λ read printed. HasRehearsed old.faults.console new.faults.console patience read turns printed ending) old mid new bytes texts

refused : (before after : ℕ) (patience : ℕ) (bytes : List ℕ) (turns : ℕ) (failure : Failure) → (failure ≡ Failed → Rose before after) → HasRehearsed before after patience bytes turns [] (Err (console_fault failure))
refused before after patience bytes turns Failed rose = (rose refl, refl)
refused before after patience bytes turns DeviceMemory rose = refl

-- the console's input was refused
pub read_refused : (old new : Outside) (patience turns : ℕ) (failure : Failure) → new.told ≡ old.told → UsesConsole {A = List ℕ} old new (Err failure) → Added old.told new.told (Rehearsed old new patience turns (Err (console_fault failure)))
read_refused old new patience turns failure told uses =
    ran_unread (λ input texts. HasRehearsed old.faults.console new.faults.console patience (script_of input) turns texts (Err (console_fault failure))) old new told
    (λ input. refused old.faults.console new.faults.console patience (script_of input) turns failure (λ e. uses.cause (ap Err e)))

-- the script has a bad line, or memory was wanting
pub script_refused : (old mid : Outside) (patience turns : ℕ) (bytes : List ℕ) (cause : ScriptFault) → Took old mid bytes → IsScriptFault bytes cause → Added old.told mid.told (Rehearsed old mid patience turns (Err (script_fault cause)))
script_refused old mid patience turns bytes (FirstBadLine n) taken bad = ran old mid mid patience turns bytes [] (Err (BadLine n)) taken (sym (adds-none mid.told)) (bad, refl)
script_refused old mid patience turns bytes ScriptMemory taken bad = ran old mid mid patience turns bytes [] (Err NoMemory) taken (sym (adds-none mid.told)) refl

-- memory was wanting for the run
pub run_refused : (old mid : Outside) (patience turns : ℕ) (bytes : List ℕ) → Took old mid bytes → Added old.told mid.told (Rehearsed old mid patience turns (Err NoMemory))
run_refused old mid patience turns bytes taken = ran old mid mid patience turns bytes [] (Err NoMemory) taken (sym (adds-none mid.told)) refl

-- the trace was refused
pub print_refused : (old mid new : Outside) (patience turns : ℕ) (bytes : List ℕ) (failure : Failure) → Took old mid bytes → new.told ≡ adds mid.told [] → UsesConsole {A = Unit {0}} mid new (Err failure) → Added old.told new.told (Rehearsed old new patience turns (Err (console_fault failure)))
print_refused old mid new patience turns bytes failure taken told uses =
    ran old mid new patience turns bytes [] (Err (console_fault failure)) taken told
    (refused old.faults.console new.faults.console patience bytes turns failure (λ e. rose_since old.faults.console mid.faults.console new.faults.console taken.console (uses.cause (ap Err e))))

same_shown : (xs ys : List Effect) → Some xs ≡ Some ys → xs ≡ ys
same_shown xs ys e = cc

-- what the world behind the run shows
pub same_effects : (patience : ℕ) (events : List Event) (turns : ℕ) (rehearsal : Rehearsal) (shown : List Effect) → (rehearses : Rehearses patience events turns rehearsal) → Some shown ≡ (steady_outside rehearsal.world).told → shown ≡ rehearses.effects
same_effects patience events turns rehearsal shown rehearses is = same_shown shown rehearses.effects (is ∙ rehearses.told)

pub run_ended : (old mid new : Outside) (patience turns : ℕ) (bytes printed trace : List ℕ) (shown : List Effect) (events : List Event) (rehearsal : Rehearsal) → Took old mid bytes → ScriptSays bytes events → Rehearses patience events turns rehearsal → rehearsal.finished ≡ true → printed ≡ trace → trace ≡ patience_text patience ++ text (items shown) → Some shown ≡ (steady_outside rehearsal.world).told → new.told ≡ adds mid.told (Printed printed ∷ []) → Added old.told new.told (Rehearsed old new patience turns (Ok tt))
run_ended old mid new patience turns bytes printed trace shown events rehearsal taken says rehearses finished is_printed is_trace is_shown told =
    ran old mid new patience turns bytes (printed ∷ []) (Ok tt) taken told
    (events, record { says = says; ended = sym rehearses.ended ∙ finished }, ap (λ lines. lines ∷ []) (is_printed ∙ (is_trace ∙ ap (λ run. patience_text patience ++ text run) (ap items (same_effects patience events turns rehearsal shown rehearses is_shown) ∙ rehearses.whole finished))))

pub run_spent : (old mid new : Outside) (patience turns : ℕ) (bytes printed trace : List ℕ) (shown : List Effect) (events : List Event) (rehearsal : Rehearsal) → Took old mid bytes → ScriptSays bytes events → Rehearses patience events turns rehearsal → rehearsal.finished ≡ false → printed ≡ trace → trace ≡ patience_text patience ++ text (items shown) → Some shown ≡ (steady_outside rehearsal.world).told → new.told ≡ adds mid.told (Printed printed ∷ []) → Added old.told new.told (Rehearsed old new patience turns (Err Spent))
run_spent old mid new patience turns bytes printed trace shown events rehearsal taken says rehearses unfinished is_printed is_trace is_shown told =
    let cut = rehearses.cut unfinished in
    ran old mid new patience turns bytes (printed ∷ []) (Err Spent) taken told
    (events, record { says = says; heard = cut.0; unended = sym rehearses.ended ∙ unfinished }, ap (λ lines. lines ∷ []) (is_printed ∙ (is_trace ∙ ap (λ run. patience_text patience ++ text run) (ap items (same_effects patience events turns rehearsal shown rehearses is_shown) ∙ cut.1))))

-- Exercises

-- nothing was printed
pub exercise_quiet : (old new : Option (List Effect)) (before after : ℕ) (events : List Event) (turns : ℕ) (ending : Ending) → new ≡ adds old [] → HasExercised before after events turns [] ending → Added old new (RunsExercise before after events turns ending)
exercise_quiet old new before after events turns ending told holds = record { effects = []; added = told; holds = record { texts = []; printed = refl; holds = holds } }

exercise_unprinted : (before after : ℕ) (events : List Event) (turns : ℕ) (failure : Failure) → (failure ≡ Failed → Rose before after) → HasExercised before after events turns [] (Err (console_fault failure))
exercise_unprinted before after events turns Failed rose = (rose refl, refl)
exercise_unprinted before after events turns DeviceMemory rose = refl

-- the summary was refused
pub exercise_refused : (old new : Outside) (events : List Event) (turns : ℕ) (failure : Failure) → new.told ≡ adds old.told [] → UsesConsole {A = Unit {0}} old new (Err failure) → Added old.told new.told (RunsExercise old.faults.console new.faults.console events turns (Err (console_fault failure)))
exercise_refused old new events turns failure told uses =
    exercise_quiet old.told new.told old.faults.console new.faults.console events turns (Err (console_fault failure)) told
    (exercise_unprinted old.faults.console new.faults.console events turns failure (λ e. uses.cause (ap Err e)))

pub exercise_spent : (old : Outside) (events : List Event) (turns : ℕ) (rehearsal : Rehearsal) → Rehearses 0 events turns rehearsal → rehearsal.finished ≡ false → Added old.told old.told (RunsExercise old.faults.console old.faults.console events turns (Err Spent))
exercise_spent old events turns rehearsal rehearses unfinished =
    exercise_quiet old.told old.told old.faults.console old.faults.console events turns (Err Spent) (sym (adds-none old.told))
    ((rehearses.cut unfinished).0, sym rehearses.ended ∙ unfinished, refl)

-- and printed
pub exercise_ended : (old new : Outside) (events : List Event) (turns : ℕ) (rehearsal : Rehearsal) (shown : List Effect) (printed : List ℕ) → Rehearses 0 events turns rehearsal → rehearsal.finished ≡ true → Some shown ≡ (steady_outside rehearsal.world).told → printed ≡ summary (came_in (items shown)) (sent_in (items shown)) (opened_in shown) → new.told ≡ adds old.told (Printed printed ∷ []) → Added old.told new.told (RunsExercise old.faults.console new.faults.console events turns (Ok tt))
exercise_ended old new events turns rehearsal shown printed rehearses finished is_shown is_printed told =
    let same : shown ≡ rehearses.effects = same_effects 0 events turns rehearsal shown rehearses is_shown in
    let whole = ap items same ∙ rehearses.whole finished in
    let opens = ap opened_in same ∙ rehearses.opens finished in
    record {
      effects = Printed printed ∷ [];
      added = told;
      holds = record {
        texts = printed ∷ [];
        printed = refl;
        holds = (sym rehearses.ended ∙ finished, (printed, is_printed ∙ (ap (λ run. summary (came_in run) (sent_in run) (opened_in shown)) whole ∙ ap (summary (came_in (whole_run 0 events)) (sent_in (whole_run 0 events))) opens), refl));
      };
    }
