-- What a rehearsal printed, and how it ended.
use Rattle.std.proofs.Common.{◌≡◌, ℕ, ◌+◌, true, false, List, [], ◌∷◌, map, Some, Ok, Err, refl, sym, ◌∙◌, ap}
use Rattle.sm_world.specs.Outside.{Outside, Added, Rose, UsesConsole, adds}
use Rattle.sm_world.specs.Worlds.{steady_outside}
use Rattle.sm_world.specs.declared.effects.Effect.{Effect}
use Rattle.sm_world.specs.declared.effects.Effect.TheVariants.{Printed}
use Rattle.sm_world.specs.declared.events.Event.{Event}
use Rattle.sm_world.specs.declared.failures.Failure.{Failure}
use Rattle.sm_world.specs.declared.failures.Failure.TheVariants.{Failed, NoMemory as DeviceMemory}
use Rattle.sm_world.proofs.Adding.{adds-none}
use Rattle.event_script.specs.Faults.{IsScriptFault}
use Rattle.event_script.specs.Script.{ScriptSays}
use Rattle.event_script.specs.declared.script.ScriptFault.{ScriptFault}
use Rattle.event_script.specs.declared.script.ScriptFault.TheVariants.{BadLine as FirstBadLine, NoMemory as ScriptMemory}
use Rattle.event_script.specs.declared.script.Taken.TheVariants.{All}
use Rattle.event_script.specs.declared.script.TheConstants.{SCRIPT_LIMIT}
use Rattle.sm_world.proofs.Counting.{rose_since}
use Rattle.program_frame.proofs.ProgramLemmas.{Took as TookWithin, ran as ran_with, ran_unread}
use Rattle.session_engine.specs.Doing.{items}
use Rattle.session_engine.specs.Machine.{Item}
use Rattle.session_in_memory.specs.Lines.{text}
use Rattle.smd_app.specs.Rehearsals.{script_of}
use Rattle.smd_app.specs.declared.fault.Fault.TheVariants.{BadLine, NoMemory, Spent}
use Rattle.smd_app.specs.declared.identity.Identity.{Identity}
use Rattle.smd_app.specs.declared.rehearsal.Rehearsal.{Rehearsal}
use Rattle.smnest_app.specs.FaultLines.{Ending, console_fault, script_fault}
use Rattle.smnest_app.specs.Rehearsals.{Rehearses}
use Rattle.smnest_app.specs.Statuses.{HasRehearsed, RunsTask}
use Rattle.smnest_app.specs.Words.{Rehearse}
use Rattle.smnest_app.specs.declared.fault.Fault.TheVariants.{Session}

-- The script's bytes were read, and nothing else was done.
abbrev pub Took : Outside → Outside → List ℕ → Type 0
Took old mid bytes = TookWithin (SCRIPT_LIMIT + 1) old mid bytes

-- what was printed: the text of what the world behind the run shows
pub record ShowsRun (rehearsal : Rehearsal) (printed : List ℕ) : Type 0 where
  pub shown : List Effect
  pub is_shown : Some shown ≡ (steady_outside rehearsal.world).told
  pub is_text : printed ≡ text (items shown)

same_shown : (xs ys : List Effect) → Some xs ≡ Some ys → xs ≡ ys
same_shown xs ys e = cc

module _ (words : List (List ℕ)) (id : List ℕ) (identity : Identity) (turns : ℕ) where
  -- A rehearsal ended so.
  abbrev pub Rehearsed : Outside → Outside → Ending → List Effect → Type 0
  Rehearsed old new ending effects = RunsTask words (Rehearse id) identity turns old new ending effects

  -- a run that printed these texts after its script was read
  ran : (old mid new : Outside) (bytes : List ℕ) (texts : List (List ℕ)) (ending : Ending) → Took old mid bytes → new.told ≡ adds mid.told (map Printed texts) → HasRehearsed words id old.faults.console new.faults.console bytes turns texts ending → Added old.told new.told (Rehearsed old new ending)
  ran old mid new bytes texts ending =
      ran_with (SCRIPT_LIMIT + 1) (λ read printed. HasRehearsed words id old.faults.console new.faults.console read turns printed ending) old mid new bytes texts

  refused : (before after : ℕ) (bytes : List ℕ) (failure : Failure) → (failure ≡ Failed → Rose before after) → HasRehearsed words id before after bytes turns [] (Err (console_fault failure))
  refused before after bytes Failed rose = (rose refl, refl)
  refused before after bytes DeviceMemory rose = refl

  -- the console's input was refused
  pub read_refused : (old new : Outside) (failure : Failure) → new.told ≡ old.told → UsesConsole {A = List ℕ} old new (Err failure) → Added old.told new.told (Rehearsed old new (Err (console_fault failure)))
  read_refused old new failure told uses =
      ran_unread (λ input texts. HasRehearsed words id old.faults.console new.faults.console (script_of input) turns texts (Err (console_fault failure))) old new told
      (λ input. refused old.faults.console new.faults.console (script_of input) failure (λ e. uses.cause (ap Err e)))

  -- the script has a bad line, or memory was wanting
  pub script_refused : (old mid : Outside) (bytes : List ℕ) (cause : ScriptFault) → Took old mid bytes → IsScriptFault All bytes cause → Added old.told mid.told (Rehearsed old mid (Err (script_fault cause)))
  script_refused old mid bytes (FirstBadLine n) taken bad = ran old mid mid bytes [] (Err (Session (BadLine n))) taken (sym (adds-none mid.told)) (bad, refl)
  script_refused old mid bytes ScriptMemory taken bad = ran old mid mid bytes [] (Err (Session NoMemory)) taken (sym (adds-none mid.told)) refl

  -- memory was wanting for the run
  pub run_refused : (old mid : Outside) (bytes : List ℕ) → Took old mid bytes → Added old.told mid.told (Rehearsed old mid (Err (Session NoMemory)))
  run_refused old mid bytes taken = ran old mid mid bytes [] (Err (Session NoMemory)) taken (sym (adds-none mid.told)) refl

  -- the trace was refused
  pub print_refused : (old mid new : Outside) (bytes : List ℕ) (failure : Failure) → Took old mid bytes → new.told ≡ adds mid.told [] → UsesConsole {A = Unit {0}} mid new (Err failure) → Added old.told new.told (Rehearsed old new (Err (console_fault failure)))
  print_refused old mid new bytes failure taken told uses =
      ran old mid new bytes [] (Err (console_fault failure)) taken told
      (refused old.faults.console new.faults.console bytes failure (λ e. rose_since old.faults.console mid.faults.console new.faults.console taken.console (uses.cause (ap Err e))))

  text_is : (events : List Event) (rehearsal : Rehearsal) (printed : List ℕ) (run : List Item) → ShowsRun rehearsal printed → (rehearses : Rehearses id words events turns rehearsal) → items rehearses.effects ≡ run → printed ∷ [] ≡ text run ∷ []
  text_is events rehearsal printed run shows rehearses is =
      ap (λ (bytes : List ℕ). bytes ∷ []) (shows.is_text ∙ ap text (ap items (same_shown shows.shown rehearses.effects (shows.is_shown ∙ rehearses.told)) ∙ is))

  pub run_ended : (old mid new : Outside) (bytes printed : List ℕ) (events : List Event) (rehearsal : Rehearsal) → Took old mid bytes → ScriptSays All bytes events → Rehearses id words events turns rehearsal → rehearsal.finished ≡ true → ShowsRun rehearsal printed → new.told ≡ adds mid.told (Printed printed ∷ []) → Added old.told new.told (Rehearsed old new (Ok tt))
  run_ended old mid new bytes printed events rehearsal taken says rehearses finished shows told =
      ran old mid new bytes (printed ∷ []) (Ok tt) taken told
      (events, record { says = says; ended = sym rehearses.ended ∙ finished }, text_is events rehearsal printed _ shows rehearses (rehearses.whole finished))

  pub run_spent : (old mid new : Outside) (bytes printed : List ℕ) (events : List Event) (rehearsal : Rehearsal) → Took old mid bytes → ScriptSays All bytes events → Rehearses id words events turns rehearsal → rehearsal.finished ≡ false → ShowsRun rehearsal printed → new.told ≡ adds mid.told (Printed printed ∷ []) → Added old.told new.told (Rehearsed old new (Err (Session Spent)))
  run_spent old mid new bytes printed events rehearsal taken says rehearses unfinished shows told =
      let cut = rehearses.cut unfinished in
      ran old mid new bytes (printed ∷ []) (Err (Session Spent)) taken told
      (events, record { says = says; heard = cut.0; unended = sym rehearses.ended ∙ unfinished }, text_is events rehearsal printed _ shows rehearses cut.1)
