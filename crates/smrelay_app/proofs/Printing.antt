-- What a rehearsal printed, and how it ended.
use Rattle.std.proofs.Common.{◌≡◌, ℕ, ◌+◌, true, false, List, [], ◌∷◌, map, Some, Ok, Err, refl, sym, ◌∙◌, ap}
use Rattle.sm_world.specs.Outside.{Outside, Added, Rose, UsesConsole, adds}
use Rattle.sm_world.specs.Worlds.{steady_outside}
use Rattle.sm_world.specs.declared.effects.Effect.{Effect}
use Rattle.sm_world.specs.declared.effects.Effect.TheVariants.{Printed}
use Rattle.sm_world.specs.declared.events.Event.{Event}
use Rattle.sm_world.specs.declared.failures.Failure.{Failure}
use Rattle.sm_world.specs.declared.failures.Failure.TheVariants.{Failed, NoMemory as DeviceMemory}
use Rattle.sm_world.proofs.Adding.{adds-none}
use Rattle.control_lines.specs.Traces.{effects_text}
use Rattle.ice_values.specs.declared.numbers.Endian.{Endian}
use Rattle.event_script.specs.Faults.{IsScriptFault}
use Rattle.event_script.specs.Script.{ScriptSays}
use Rattle.event_script.specs.declared.script.ScriptFault.{ScriptFault}
use Rattle.event_script.specs.declared.script.ScriptFault.TheVariants.{BadLine as FirstBadLine, NoMemory as ScriptMemory}
use Rattle.event_script.specs.declared.script.Taken.TheVariants.{WithoutOrders}
use Rattle.event_script.specs.declared.script.TheConstants.{SCRIPT_LIMIT}
use Rattle.sm_world.proofs.Counting.{rose_since}
use Rattle.program_frame.proofs.ProgramLemmas.{Took as TookWithin, ran as ran_with, ran_unread}
use Rattle.smrelay_app.specs.FaultLines.{console_fault, script_fault}
use Rattle.smrelay_app.specs.Rehearsals.{script_of, Rehearses}
use Rattle.smrelay_app.specs.Statuses.{Ending, HasRehearsed, RunsTask}
use Rattle.smrelay_app.specs.Words.{Rehearse}
use Rattle.smrelay_app.specs.declared.fault.Fault.TheVariants.{BadLine, Spent, NoMemory}
use Rattle.smrelay_app.specs.declared.rehearsal.Rehearsal.{Rehearsal}

-- The script's bytes were read, and nothing else was done.
abbrev pub Took : Outside → Outside → List ℕ → Type 0
Took old mid bytes = TookWithin (SCRIPT_LIMIT + 1) old mid bytes

-- A rehearsal ended so.
abbrev pub Rehearsed : Endian → Outside → Outside → ℕ → Ending → List Effect → Type 0
Rehearsed to old new turns ending effects = RunsTask (Rehearse to) turns old new ending effects

-- a run that printed these texts after its script was read
ran : (to : Endian) (old mid new : Outside) (turns : ℕ) (bytes : List ℕ) (texts : List (List ℕ)) (ending : Ending) → Took old mid bytes → new.told ≡ adds mid.told (map Printed texts) → HasRehearsed to old.faults.console new.faults.console bytes turns texts ending → Added old.told new.told (Rehearsed to old new turns ending)
ran to old mid new turns bytes texts ending =
    ran_with (SCRIPT_LIMIT + 1) (λ read printed. HasRehearsed to old.faults.console new.faults.console read turns printed ending) old mid new bytes texts

refused : (to : Endian) (before after : ℕ) (bytes : List ℕ) (turns : ℕ) (failure : Failure) → (failure ≡ Failed → Rose before after) → HasRehearsed to before after bytes turns [] (Err (console_fault failure))
refused to before after bytes turns Failed rose = (rose refl, refl)
refused to before after bytes turns DeviceMemory rose = refl

-- the console's input was refused
pub read_refused : (to : Endian) (old new : Outside) (turns : ℕ) (failure : Failure) → new.told ≡ old.told → UsesConsole {A = List ℕ} old new (Err failure) → Added old.told new.told (Rehearsed to old new turns (Err (console_fault failure)))
read_refused to old new turns failure told uses =
    ran_unread (λ input texts. HasRehearsed to old.faults.console new.faults.console (script_of input) turns texts (Err (console_fault failure))) old new told
    (λ input. refused to old.faults.console new.faults.console (script_of input) turns failure (λ e. uses.cause (ap Err e)))

-- the script has a bad line, or memory was wanting
pub script_refused : (to : Endian) (old mid : Outside) (turns : ℕ) (bytes : List ℕ) (cause : ScriptFault) → Took old mid bytes → IsScriptFault WithoutOrders bytes cause → Added old.told mid.told (Rehearsed to old mid turns (Err (script_fault cause)))
script_refused to old mid turns bytes (FirstBadLine n) taken bad = ran to old mid mid turns bytes [] (Err (BadLine n)) taken (sym (adds-none mid.told)) (bad, refl)
script_refused to old mid turns bytes ScriptMemory taken bad = ran to old mid mid turns bytes [] (Err NoMemory) taken (sym (adds-none mid.told)) refl

-- memory was wanting for the run
pub run_refused : (to : Endian) (old mid : Outside) (turns : ℕ) (bytes : List ℕ) → Took old mid bytes → Added old.told mid.told (Rehearsed to old mid turns (Err NoMemory))
run_refused to old mid turns bytes taken = ran to old mid mid turns bytes [] (Err NoMemory) taken (sym (adds-none mid.told)) refl

-- the trace was refused
pub print_refused : (to : Endian) (old mid new : Outside) (turns : ℕ) (bytes : List ℕ) (failure : Failure) → Took old mid bytes → new.told ≡ adds mid.told [] → UsesConsole {A = Unit {0}} mid new (Err failure) → Added old.told new.told (Rehearsed to old new turns (Err (console_fault failure)))
print_refused to old mid new turns bytes failure taken told uses =
    ran to old mid new turns bytes [] (Err (console_fault failure)) taken told
    (refused to old.faults.console new.faults.console bytes turns failure (λ e. rose_since old.faults.console mid.faults.console new.faults.console taken.console (uses.cause (ap Err e))))

-- what was printed: the text of what the world behind the run shows
pub record ShowsRun (rehearsal : Rehearsal) (printed : List ℕ) : Type 0 where
  pub shown : List Effect
  pub is_shown : Some shown ≡ (steady_outside rehearsal.world).told
  pub is_text : printed ≡ effects_text shown

same_shown : (xs ys : List Effect) → Some xs ≡ Some ys → xs ≡ ys
same_shown xs ys e = cc

text_is : (to : Endian) (events : List Event) (turns : ℕ) (rehearsal : Rehearsal) (printed : List ℕ) (run : List Effect) → ShowsRun rehearsal printed → (rehearses : Rehearses to events turns rehearsal) → rehearses.effects ≡ run → printed ∷ [] ≡ effects_text run ∷ []
text_is to events turns rehearsal printed run shows rehearses is =
    ap (λ text. text ∷ []) (shows.is_text ∙ ap effects_text (same_shown shows.shown rehearses.effects (shows.is_shown ∙ rehearses.told) ∙ is))

pub run_ended : (to : Endian) (old mid new : Outside) (turns : ℕ) (bytes printed : List ℕ) (events : List Event) (rehearsal : Rehearsal) → Took old mid bytes → ScriptSays WithoutOrders bytes events → Rehearses to events turns rehearsal → rehearsal.finished ≡ true → ShowsRun rehearsal printed → new.told ≡ adds mid.told (Printed printed ∷ []) → Added old.told new.told (Rehearsed to old new turns (Ok tt))
run_ended to old mid new turns bytes printed events rehearsal taken says rehearses finished shows told =
    let whole = rehearses.whole finished in
    ran to old mid new turns bytes (printed ∷ []) (Ok tt) taken told
    (events, record { says = says; within = whole.0 }, text_is to events turns rehearsal printed _ shows rehearses whole.1)

pub run_spent : (to : Endian) (old mid new : Outside) (turns : ℕ) (bytes printed : List ℕ) (events : List Event) (rehearsal : Rehearsal) → Took old mid bytes → ScriptSays WithoutOrders bytes events → Rehearses to events turns rehearsal → rehearsal.finished ≡ false → ShowsRun rehearsal printed → new.told ≡ adds mid.told (Printed printed ∷ []) → Added old.told new.told (Rehearsed to old new turns (Err Spent))
run_spent to old mid new turns bytes printed events rehearsal taken says rehearses unfinished shows told =
    let cut = rehearses.cut unfinished in
    ran to old mid new turns bytes (printed ∷ []) (Err Spent) taken told
    (events, record { says = says; heard = cut.0 }, text_is to events turns rehearsal printed _ shows rehearses cut.1)
