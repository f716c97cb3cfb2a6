-- The line of an ending, and what the ending says.
use Rattle.std.proofs.Common.{◌≡◌, ◌⊎◌, codes, inl, inr, ℕ, List, [], ◌∷◌, ◌++◌, map, None, Result, Ok, Err, IfErr, refl, sym, ◌∙◌, ap, subst}
use Rattle.sm_world.specs.Outside.{Outside, Added, Rose, adds}
use Rattle.sm_world.specs.declared.effects.Effect.{Effect}
use Rattle.sm_world.specs.declared.effects.Effect.TheVariants.{Printed}
use Rattle.checkpoint_slots.specs.Causes.{IsSettled}
use Rattle.sm_world.specs.Crash.{Cell, cell_after, cell_from, cell_of}
use Rattle.sm_world.proofs.Adding.{adds-none}
use Rattle.sm_world.proofs.Cells.{cell_from-append, others_keep}
use Rattle.program_frame.specs.Printing.{Tries, OnlyPrints}
use Rattle.program_frame.specs.Programs.{status_by, line_by}
use Rattle.program_frame.proofs.ProgramLemmas.{runs_still, concluded}
use Rattle.session_engine.specs.declared.config.Config.{Config}
use Rattle.session_engine.specs.Carries.{IsReady, IsUnopened}
use Rattle.session_engine.specs.Causes.{HasCause}
use Rattle.session_engine.specs.declared.fault.ServeFault.{ServeFault}
use Rattle.session_engine.specs.declared.fault.ServeFault.TheVariants.{Damaged as IsDamaged, WrongSize as HasWrongSize, TooManySessions as HasTooMany, DiskFault, LinkFault, ConsoleFault, Worn as IsWorn, Spent as HasSpent, NoMemory as WantsMemory}
use Rattle.sm_world.specs.declared.events.Event.{Event}
use Rattle.smd_app.specs.Exercises.{exercise_events}
use Rattle.smd_app.specs.FaultLines.{fault_line, fault_status, served}
use Rattle.smd_app.specs.Rehearsals.{script_of}
use Rattle.smd_app.specs.Sessions.{config_of, IsOfDisk, IsOfEdge, Opened, OpensOr, HasServed, WasCutShort}
use Rattle.smd_app.specs.Statuses.{Ending, HasRehearsed, HasExercised, RunsTask, Runs, Answers}
use Rattle.smd_app.specs.Words.{Places, Task, Rehearse, Exercise, Serve, AreServe, AreRehearse, AreExercise, Means}
use Rattle.smd_app.specs.declared.fault.Fault.{Fault}
use Rattle.smd_app.specs.declared.fault.Fault.TheVariants.{BadWords, Damaged, WrongSize, TooManySessions, Disk, Links, Console, BadLine, Worn, Spent, NoMemory}
use Rattle.smd_app.specs.declared.identity.Identity.{Identity}

-- Behind a run the line of its ending was tried, where it has one.
record IsLater (ending : Ending) (mid new : Outside) : Type 0 where
  line : Added mid.told new.told (Tries (line_by fault_line ending))
  prints : OnlyPrints mid new
  silent : line_by fault_line ending ≡ None → new ≡ mid

console_still : (before : ℕ) (mid new : Outside) → new ≡ mid → Rose before mid.faults.console → Rose before new.faults.console
console_still before mid new same rose = subst (λ (outside : Outside). Rose before outside.faults.console) (sym same) rose

rehearsed_still : (before : ℕ) (mid new : Outside) (patience : ℕ) (bytes : List ℕ) (turns : ℕ) (texts : List (List ℕ)) (ending : Ending) → IsLater ending mid new → HasRehearsed before mid.faults.console patience bytes turns texts ending → HasRehearsed before new.faults.console patience bytes turns texts ending
rehearsed_still before mid new patience bytes turns texts (Ok x) later holds = holds
rehearsed_still before mid new patience bytes turns texts (Err Console) later holds = (console_still before mid new (later.silent refl) holds.0, holds.1)
rehearsed_still before mid new patience bytes turns texts (Err (BadLine n)) later holds = holds
rehearsed_still before mid new patience bytes turns texts (Err Spent) later holds = holds
rehearsed_still before mid new patience bytes turns texts (Err NoMemory) later holds = holds
rehearsed_still before mid new patience bytes turns texts (Err BadWords) later holds = holds
rehearsed_still before mid new patience bytes turns texts (Err (Damaged at)) later holds = holds
rehearsed_still before mid new patience bytes turns texts (Err (WrongSize size)) later holds = holds
rehearsed_still before mid new patience bytes turns texts (Err TooManySessions) later holds = holds
rehearsed_still before mid new patience bytes turns texts (Err Disk) later holds = holds
rehearsed_still before mid new patience bytes turns texts (Err Links) later holds = holds
rehearsed_still before mid new patience bytes turns texts (Err Worn) later holds = holds

exercised_still : (before : ℕ) (mid new : Outside) (events : List Event) (turns : ℕ) (texts : List (List ℕ)) (ending : Ending) → IsLater ending mid new → HasExercised before mid.faults.console events turns texts ending → HasExercised before new.faults.console events turns texts ending
exercised_still before mid new events turns texts (Ok x) later holds = holds
exercised_still before mid new events turns texts (Err Console) later holds = (console_still before mid new (later.silent refl) holds.0, holds.1)
exercised_still before mid new events turns texts (Err (BadLine n)) later holds = holds
exercised_still before mid new events turns texts (Err Spent) later holds = holds
exercised_still before mid new events turns texts (Err NoMemory) later holds = holds
exercised_still before mid new events turns texts (Err BadWords) later holds = holds
exercised_still before mid new events turns texts (Err (Damaged at)) later holds = holds
exercised_still before mid new events turns texts (Err (WrongSize size)) later holds = holds
exercised_still before mid new events turns texts (Err TooManySessions) later holds = holds
exercised_still before mid new events turns texts (Err Disk) later holds = holds
exercised_still before mid new events turns texts (Err Links) later holds = holds
exercised_still before mid new events turns texts (Err Worn) later holds = holds

-- Sessions

disk_still : (before : ℕ) (mid new : Outside) → OnlyPrints mid new → Rose before mid.faults.disk → Rose before new.faults.disk
disk_still before mid new prints rose = subst (Rose before) (sym prints.uses.disk) rose

links_still : (before : ℕ) (mid new : Outside) → OnlyPrints mid new → Rose before mid.faults.links → Rose before new.faults.links
links_still before mid new prints rose = subst (Rose before) (sym prints.uses.links) rose

of_disk_still : (old mid new : Outside) (fault : Fault) → IsLater (Err fault) mid new → IsOfDisk old mid fault → IsOfDisk old new fault
of_disk_still old mid new fault later (inl failed) = inl (failed.0, disk_still old.faults.disk mid new later.prints failed.1)
of_disk_still old mid new fault later (inr memory) = inr memory

console_silent : (fault : Fault) → fault ≡ Console → line_by {Fault = Fault} fault_line (Err fault) ≡ None
console_silent fault is = ap fault_line is

of_edge_still : (old mid new : Outside) (fault : Fault) → IsLater (Err fault) mid new → IsOfEdge old mid fault → IsOfEdge old new fault
of_edge_still old mid new fault later (inl failed) = inl (failed.0, links_still old.faults.links mid new later.prints failed.1)
of_edge_still old mid new fault later (inr (inl failed)) = inr (inl (failed.0, console_still old.faults.console mid new (later.silent (console_silent fault failed.0)) failed.1))
of_edge_still old mid new fault later (inr (inr memory)) = inr (inr memory)

opened_still : (config : Config) (turns : ℕ) (old mid new : Outside) (answer : Result (Unit {0}) ServeFault) (own : List Effect) → OnlyPrints mid new → Opened config turns old mid answer own → Opened config turns old new answer own
opened_still config turns old mid new answer own prints opened = record {
  book = opened.book;
  current = opened.current;
  recovered = opened.recovered;
  called = opened.called;
  size = prints.uses.kept.size ∙ opened.size;
  below = opened.below;
  few = opened.few;
  rules = opened.rules;
  serves = opened.serves;
}

opens_still : (config : Config) (turns : ℕ) (old mid new : Outside) (answer : Result (Unit {0}) ServeFault) (own : List Effect) → OnlyPrints mid new → OpensOr config turns old mid answer own → OpensOr config turns old new answer own
opens_still config turns old mid new (Ok x) own prints opened = opened_still config turns old mid new (Ok x) own prints opened
opens_still config turns old mid new (Err fault) own prints (inl rests) = inl (record {
  none = rests.none;
  kept = λ first told. prints.uses.kept.size ∙ rests.kept first told;
  cause = subst (λ (size : ℕ). IsUnopened config.session old size fault) (sym prints.uses.kept.size) rests.cause;
})
opens_still config turns old mid new (Err fault) own prints (inr opened) = inr (opened_still config turns old mid new (Err fault) own prints opened)

cause_still : (old mid new : Outside) (answer : Result (Unit {0}) ServeFault) → IsLater (served answer) mid new → IfErr answer (HasCause old.faults mid.faults) → IfErr answer (HasCause old.faults new.faults)
cause_still old mid new (Ok x) later cause = cause
cause_still old mid new (Err (IsDamaged at)) later cause = cause
cause_still old mid new (Err (HasWrongSize size)) later cause = cause
cause_still old mid new (Err HasTooMany) later cause = cause
cause_still old mid new (Err DiskFault) later cause = disk_still old.faults.disk mid new later.prints cause
cause_still old mid new (Err LinkFault) later cause = links_still old.faults.links mid new later.prints cause
cause_still old mid new (Err ConsoleFault) later cause = console_still old.faults.console mid new (later.silent refl) cause
cause_still old mid new (Err IsWorn) later cause = cause
cause_still old mid new (Err HasSpent) later cause = cause
cause_still old mid new (Err WantsMemory) later cause = cause

-- What was printed leaves the store as it was.
cells_still : (texts : List (List ℕ)) (i : ℕ) (cell : Cell) → cell_from cell (map Printed texts) i ≡ cell
cells_still [] i cell = refl
cells_still (text ∷ texts) i cell = cells_still texts i (cell_after (Printed text) i cell) ∙ others_keep (Printed text) i cell tt

settled_still : (ending : Ending) (mid new : Outside) → IsLater ending mid new → (file : List ℕ) → IsSettled mid file → IsSettled new file
settled_still ending mid new later file settled =
    let cells : (i : ℕ) → cell_of settled.began (settled.effects ++ later.line.effects) i ≡ cell_of settled.began settled.effects i = λ i.
    cell_from-append _ settled.effects later.line.effects i
    ∙ (ap (λ (printed : List Effect). cell_from (cell_of settled.began settled.effects i) printed i) later.line.holds.printed ∙ cells_still later.line.holds.texts i (cell_of settled.began settled.effects i)) in
    record {
      began = settled.began;
      effects = settled.effects ++ later.line.effects;
      first = later.prints.uses.kept.first ∙ settled.first;
      told = later.line.added ∙ ap (λ told. adds told later.line.effects) settled.told;
      size = settled.size;
      reads = λ i within. ap (λ cell. cell.reads) (cells i) ∙ settled.reads i within;
      left = λ i byte within is. settled.left i byte within (rw (cells i) at is);
    }

ready_still : (ending : Ending) (mid new : Outside) → IsLater ending mid new → (file : List ℕ) (effects : List Effect) → IsReady file mid effects → IsReady file new effects
ready_still ending mid new later file effects ready = record { left = ready.left; settled = settled_still ending mid new later ready.left ready.settled; image = ready.image }

cut_still : (identity : Identity) (places : Places) (old mid new : Outside) (ending : Ending) (effects : List Effect) → IsLater ending mid new → WasCutShort identity places old mid ending effects → WasCutShort identity places old new ending effects
cut_still identity places old mid new (Ok x) effects later cut = elim cut [ ]
cut_still identity places old mid new (Err fault) effects later (inl cut) = inl (of_disk_still old mid new fault later cut.0, cut.1)
cut_still identity places old mid new (Err fault) effects later (inr cut) = inr (of_edge_still old mid new fault later cut.0, cut.1)

served_still : (identity : Identity) (places : Places) (turns : ℕ) (old mid new : Outside) (ending : Ending) (effects : List Effect) → IsLater ending mid new → HasServed identity places turns old mid ending effects → HasServed identity places turns old new ending effects
served_still identity places turns old mid new ending effects later served_so = record {
  answer = served_so.answer;
  own = served_so.own;
  ends = served_so.ends;
  parts = served_so.parts;
  session = record {
    serves = opens_still (config_of identity places) turns old mid new served_so.answer served_so.own later.prints served_so.session.serves;
    headline = served_so.session.headline;
    ready = λ file settled fine. ready_still ending mid new later file served_so.own (served_so.session.ready file settled fine);
    first = later.prints.uses.kept.first ∙ served_so.session.first;
    cause = cause_still old mid new served_so.answer (subst (λ (ended : Ending). IsLater ended mid new) served_so.ends later) served_so.session.cause;
  };
}

task_still : (task : Task) (identity : Identity) (turns : ℕ) (old mid new : Outside) (ending : Ending) (effects : List Effect) → IsLater ending mid new → RunsTask task identity turns old mid ending effects → RunsTask task identity turns old new ending effects
task_still (Rehearse patience) identity turns old mid new ending effects later run =
    runs_still old.input
    (λ input texts. HasRehearsed old.faults.console mid.faults.console patience (script_of input) turns texts ending)
    (λ input texts. HasRehearsed old.faults.console new.faults.console patience (script_of input) turns texts ending)
    effects
    (λ input texts. rehearsed_still old.faults.console mid new patience (script_of input) turns texts ending later)
    run
task_still (Exercise pattern rounds) identity turns old mid new ending effects later run =
    record { texts = run.texts; printed = run.printed; holds = exercised_still old.faults.console mid new (exercise_events pattern rounds) turns run.texts ending later run.holds }
task_still (Serve places) identity turns old mid new ending effects later (inl cut) = inl (cut_still identity places old mid new ending effects later cut)
task_still (Serve places) identity turns old mid new ending effects later (inr served_so) = inr (served_still identity places turns old mid new ending effects later served_so)

runs_later : (words : List (List ℕ)) (identity : Identity) (turns : ℕ) (old mid new : Outside) (ending : Ending) → IsLater ending mid new → (effects : List Effect) → Runs words identity turns old mid ending effects → Runs words identity turns old new ending effects
runs_later words identity turns old mid new ending later effects (inl does) = inl (record { task = does.task; means = does.means; ran = task_still does.task identity turns old mid new ending effects later does.ran })
runs_later words identity turns old mid new ending later effects (inr nothing) = inr nothing

-- a run, and then the line of its ending
pub answers : (words : List (List ℕ)) (identity : Identity) (old mid new : Outside) (turns status : ℕ) (ending : Ending) → Added old.told mid.told (Runs words identity turns old mid ending) → Added mid.told new.told (Tries (line_by fault_line ending)) → OnlyPrints mid new → (line_by fault_line ending ≡ None → new ≡ mid) → status ≡ status_by fault_status ending → Added old.told new.told (Answers words identity old new turns status)
answers words identity old mid new turns status ending runs line prints silent number =
    concluded (Runs words identity turns old mid) (Runs words identity turns old new) (status_by fault_status) (line_by fault_line) old.told mid.told new.told status ending runs line
    (runs_later words identity turns old mid new ending (record { line = line; prints = prints; silent = silent }))
    number

-- What was done is what the words ask for.
pub does : (words : List (List ℕ)) (identity : Identity) (turns : ℕ) (old new : Outside) (ending : Ending) (task : Task) → Means words task → Added old.told new.told (RunsTask task identity turns old new ending) → Added old.told new.told (Runs words identity turns old new ending)
does words identity turns old new ending task means ran = record { effects = ran.effects; added = ran.added; holds = inl (record { task = task; means = means; ran = ran.holds }) }

-- Nothing was done.
pub does_nothing : (words : List (List ℕ)) (identity : Identity) (turns : ℕ) (old new : Outside) (ending : Ending) → ((((task : Task) → Means words task → ⊥) × (ending ≡ Err BadWords)) ⊎ (ending ≡ Err NoMemory)) → Added old.told old.told (Runs words identity turns old new ending)
does_nothing words identity turns old new ending cause = record { effects = []; added = sym (adds-none old.told); holds = inr (record { cause = cause; none = refl }) }

-- words that ask for none of the three
pub means_none : (words : List (List ℕ)) → ((patience : ℕ) → AreRehearse words patience → ⊥) → ((places : Places) → AreServe words places → ⊥) → ((pattern rounds : ℕ) → AreExercise words pattern rounds → ⊥) → (task : Task) → Means words task → ⊥
means_none words one two three (Rehearse patience) means = one patience means
means_none words one two three (Exercise pattern rounds) means = three pattern rounds means
means_none words one two three (Serve places) means = two places means
