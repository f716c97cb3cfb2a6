-- The line of an ending, and what the ending says.
use Rattle.std.proofs.Common.{◌≡◌, ◌⊎◌, inl, inr, ℕ, List, [], None, Result, Ok, Err, IfErr, refl, sym, ◌∙◌, ap, subst}
use Rattle.sm_world.specs.Outside.{Outside, Added, Rose}
use Rattle.sm_world.specs.declared.effects.Effect.{Effect}
use Rattle.sm_world.proofs.Adding.{adds-none}
use Rattle.client_engine.specs.Driving.{Run}
use Rattle.ice_cookie.specs.declared.cookies.Cookie.{Cookie}
use Rattle.outer_agent.specs.Script.{Keeper, start}
use Rattle.program_frame.specs.Printing.{Tries, OnlyPrints}
use Rattle.program_frame.specs.Programs.{status_by, line_by}
use Rattle.program_frame.proofs.ProgramLemmas.{runs_still, concluded}
use Rattle.session_engine.specs.Carries.{IsUnopened}
use Rattle.session_engine.specs.Causes.{HasCause}
use Rattle.session_engine.specs.declared.config.Config.{Config}
use Rattle.session_engine.specs.declared.fault.ServeFault.{ServeFault}
use Rattle.session_engine.specs.declared.fault.ServeFault.TheVariants.{Damaged as IsDamaged, WrongSize as HasWrongSize, TooManySessions as HasTooMany, DiskFault, LinkFault, ConsoleFault, Worn as IsWorn, Spent as HasSpent, NoMemory as WantsMemory}
use Rattle.smd_app.specs.Rehearsals.{script_of}
use Rattle.smd_app.specs.Sessions.{IsOfDisk, IsOfEdge, config_of}
use Rattle.smd_app.specs.declared.fault.Fault.{Fault as SessionFault}
use Rattle.smd_app.specs.declared.fault.Fault.TheVariants.{BadWords, Damaged, WrongSize, TooManySessions, Disk, Links, Console, BadLine, Worn, Spent, NoMemory}
use Rattle.smd_app.specs.declared.identity.Identity.{Identity}
use Rattle.smnest_app.specs.FaultLines.{Ending, fault_line, fault_status, served, session_line}
use Rattle.smnest_app.specs.Sessions.{HasServed, IsCutShort, IsLeftOut, IsOfLinks, Opened, OpensOr, RunsSession, WasCutShort}
use Rattle.smnest_app.specs.Statuses.{Answers, HasFailed, HasRehearsed, Runs, RunsTask}
use Rattle.smnest_app.specs.Words.{Means, NestPlaces, Rehearse, Serve, Task}
use Rattle.smnest_app.specs.declared.fault.Fault.{Fault}
use Rattle.smnest_app.specs.declared.fault.Fault.TheVariants.{Session, NoCookie}

-- Behind a run the line of its ending was tried, where it has one.
record IsLater (ending : Ending) (mid new : Outside) : Type 0 where
  prints : OnlyPrints mid new
  silent : line_by fault_line ending ≡ None → new ≡ mid

console_still : (before : ℕ) (mid new : Outside) → new ≡ mid → Rose before mid.faults.console → Rose before new.faults.console
console_still before mid new same rose = subst (λ (outside : Outside). Rose before outside.faults.console) (sym same) rose

disk_still : (before : ℕ) (mid new : Outside) → OnlyPrints mid new → Rose before mid.faults.disk → Rose before new.faults.disk
disk_still before mid new prints rose = subst (Rose before) (sym prints.uses.disk) rose

links_still : (before : ℕ) (mid new : Outside) → OnlyPrints mid new → Rose before mid.faults.links → Rose before new.faults.links
links_still before mid new prints rose = subst (Rose before) (sym prints.uses.links) rose

-- ---- rehearsals

failed_still : (words : List (List ℕ)) (id : List ℕ) (before : ℕ) (mid new : Outside) (bytes : List ℕ) (turns : ℕ) (texts : List (List ℕ)) (fault : SessionFault) → IsLater (Err (Session fault)) mid new → HasFailed words id before mid.faults.console bytes turns texts fault → HasFailed words id before new.faults.console bytes turns texts fault
failed_still words id before mid new bytes turns texts Console later holds = (console_still before mid new (later.silent refl) holds.0, holds.1)
failed_still words id before mid new bytes turns texts (BadLine n) later holds = holds
failed_still words id before mid new bytes turns texts Spent later holds = holds
failed_still words id before mid new bytes turns texts NoMemory later holds = holds
failed_still words id before mid new bytes turns texts BadWords later holds = holds
failed_still words id before mid new bytes turns texts (Damaged at) later holds = holds
failed_still words id before mid new bytes turns texts (WrongSize size) later holds = holds
failed_still words id before mid new bytes turns texts TooManySessions later holds = holds
failed_still words id before mid new bytes turns texts Disk later holds = holds
failed_still words id before mid new bytes turns texts Links later holds = holds
failed_still words id before mid new bytes turns texts Worn later holds = holds

rehearsed_still : (words : List (List ℕ)) (id : List ℕ) (before : ℕ) (mid new : Outside) (bytes : List ℕ) (turns : ℕ) (texts : List (List ℕ)) (ending : Ending) → IsLater ending mid new → HasRehearsed words id before mid.faults.console bytes turns texts ending → HasRehearsed words id before new.faults.console bytes turns texts ending
rehearsed_still words id before mid new bytes turns texts (Ok x) later holds = holds
rehearsed_still words id before mid new bytes turns texts (Err (Session fault)) later holds = failed_still words id before mid new bytes turns texts fault later holds
rehearsed_still words id before mid new bytes turns texts (Err NoCookie) later holds = holds

-- ---- sessions

of_disk_still : (old mid new : Outside) (fault : SessionFault) → OnlyPrints mid new → IsOfDisk old mid fault → IsOfDisk old new fault
of_disk_still old mid new fault prints (inl failed) = inl (failed.0, disk_still old.faults.disk mid new prints failed.1)
of_disk_still old mid new fault prints (inr memory) = inr memory

of_links_still : (old mid new : Outside) (fault : SessionFault) → OnlyPrints mid new → IsOfLinks old mid fault → IsOfLinks old new fault
of_links_still old mid new fault prints (inl failed) = inl (failed.0, links_still old.faults.links mid new prints failed.1)
of_links_still old mid new fault prints (inr memory) = inr memory

of_edge_still : (old mid new : Outside) (fault : SessionFault) → IsLater (Err (Session fault)) mid new → IsOfEdge old mid fault → IsOfEdge old new fault
of_edge_still old mid new fault later (inl failed) = inl (failed.0, links_still old.faults.links mid new later.prints failed.1)
of_edge_still old mid new fault later (inr (inl failed)) = inr (inl (failed.0, console_still old.faults.console mid new (later.silent (ap session_line failed.0)) failed.1))
of_edge_still old mid new fault later (inr (inr memory)) = inr (inr memory)

opened_still : (config : Config) (turns : ℕ) (agent : Run Keeper) (old mid new : Outside) (answer : Result (Unit {0}) ServeFault) (own : List Effect) → OnlyPrints mid new → Opened config turns agent old mid answer own → Opened config turns agent old new answer own
opened_still config turns agent old mid new answer own prints opened = record {
  book = opened.book;
  current = opened.current;
  recovered = opened.recovered;
  called = opened.called;
  size = prints.uses.kept.size ∙ opened.size;
  below = opened.below;
  few = opened.few;
  rules = opened.rules;
  weaves = opened.weaves;
}

opens_still : (config : Config) (turns : ℕ) (agent : Run Keeper) (old mid new : Outside) (answer : Result (Unit {0}) ServeFault) (own : List Effect) → OnlyPrints mid new → OpensOr config turns agent old mid answer own → OpensOr config turns agent old new answer own
opens_still config turns agent old mid new (Ok x) own prints opened = opened_still config turns agent old mid new (Ok x) own prints opened
opens_still config turns agent old mid new (Err fault) own prints (inl rests) = inl (record {
  none = rests.none;
  kept = λ first told. prints.uses.kept.size ∙ rests.kept first told;
  cause = subst (λ (size : ℕ). IsUnopened config.session old size fault) (sym prints.uses.kept.size) rests.cause;
})
opens_still config turns agent old mid new (Err fault) own prints (inr opened) = inr (opened_still config turns agent old mid new (Err fault) own prints opened)

cause_still : (old mid new : Outside) (answer : Result (Unit {0}) ServeFault) → IsLater (served answer) mid new → IfErr answer (HasCause old.faults mid.faults) → IfErr answer (HasCause old.faults new.faults)
cause_still old mid new (Ok x) later cause = cause
cause_still old mid new (Err (IsDamaged at)) later cause = cause
cause_still old mid new (Err (HasWrongSize size)) later cause = cause
cause_still old mid new (Err HasTooMany) later cause = cause
cause_still old mid new (Err DiskFault) later cause = disk_still old.faults.disk mid new later.prints cause
cause_still old mid new (Err LinkFault) later cause = links_still old.faults.links mid new later.prints cause
cause_still old mid new (Err ConsoleFault) later cause = console_still old.faults.console mid new (later.silent refl) cause
cause_still old mid new (Err IsWorn) later cause = cause
cause_still old mid new (Err HasSpent) later cause = cause
cause_still old mid new (Err WantsMemory) later cause = cause

short_still : (identity : Identity) (places : NestPlaces) (old mid new : Outside) (fault : SessionFault) (effects : List Effect) → IsLater (Err (Session fault)) mid new → IsCutShort identity places old mid fault effects → IsCutShort identity places old new fault effects
short_still identity places old mid new fault effects later (inl cut) = inl (of_disk_still old mid new fault later.prints cut.0, cut.1)
short_still identity places old mid new fault effects later (inr (inl cut)) = inr (inl (of_edge_still old mid new fault later cut.0, cut.1))
short_still identity places old mid new fault effects later (inr (inr cut)) = inr (inr (of_links_still old mid new fault later.prints cut.0, cut.1))

cut_still : (identity : Identity) (places : NestPlaces) (old mid new : Outside) (ending : Ending) (effects : List Effect) → IsLater ending mid new → WasCutShort identity places old mid ending effects → WasCutShort identity places old new ending effects
cut_still identity places old mid new (Ok x) effects later cut = cut
cut_still identity places old mid new (Err NoCookie) effects later cut = cut
cut_still identity places old mid new (Err (Session fault)) effects later cut = short_still identity places old mid new fault effects later cut

served_still : (words : List (List ℕ)) (identity : Identity) (places : NestPlaces) (turns : ℕ) (cookie : Cookie) (old mid new : Outside) (ending : Ending) (effects : List Effect) → IsLater ending mid new → HasServed words identity places turns cookie old mid ending effects → HasServed words identity places turns cookie old new ending effects
served_still words identity places turns cookie old mid new ending effects later served_so = record {
  answer = served_so.answer;
  own = served_so.own;
  ends = served_so.ends;
  parts = served_so.parts;
  session = record {
    serves = opens_still (config_of identity places.own) turns (start cookie places.id words) old mid new served_so.answer served_so.own later.prints served_so.session.serves;
    headline = served_so.session.headline;
    cause = cause_still old mid new served_so.answer (subst (λ (ended : Ending). IsLater ended mid new) served_so.ends later) served_so.session.cause;
  };
}

left_out_still : (places : NestPlaces) (old mid new : Outside) (fault : Fault) → OnlyPrints mid new → IsLeftOut places old mid fault → IsLeftOut places old new fault
left_out_still places old mid new NoCookie prints cause = cause
left_out_still places old mid new (Session fault) prints cause = of_links_still old mid new fault prints cause

session_still : (words : List (List ℕ)) (identity : Identity) (places : NestPlaces) (turns : ℕ) (old mid new : Outside) (ending : Ending) (effects : List Effect) → IsLater ending mid new → RunsSession words identity places turns old mid ending effects → RunsSession words identity places turns old new ending effects
session_still words identity places turns old mid new ending effects later (inl stays) = inl (record { fault = stays.fault; is = stays.is; cause = left_out_still places old mid new stays.fault later.prints stays.cause; none = stays.none })
session_still words identity places turns old mid new ending effects later (inr lets) = inr (record {
  cookie = lets.cookie;
  file = lets.file;
  ran = elim lets.ran [
    | inl cut ↦ inl (cut_still identity places old mid new ending effects later cut)
    | inr so ↦ inr (served_still words identity places turns lets.cookie old mid new ending effects later so)
  ];
})

-- ---- calls

task_still : (words : List (List ℕ)) (task : Task) (identity : Identity) (turns : ℕ) (old mid new : Outside) (ending : Ending) (effects : List Effect) → IsLater ending mid new → RunsTask words task identity turns old mid ending effects → RunsTask words task identity turns old new ending effects
task_still words (Rehearse id) identity turns old mid new ending effects later run =
    runs_still old.input
    (λ input texts. HasRehearsed words id old.faults.console mid.faults.console (script_of input) turns texts ending)
    (λ input texts. HasRehearsed words id old.faults.console new.faults.console (script_of input) turns texts ending)
    effects
    (λ input texts. rehearsed_still words id old.faults.console mid new (script_of input) turns texts ending later)
    run
task_still words (Serve places) identity turns old mid new ending effects later run = session_still words identity places turns old mid new ending effects later run

runs_later : (words : List (List ℕ)) (identity : Identity) (turns : ℕ) (old mid new : Outside) (ending : Ending) → IsLater ending mid new → (effects : List Effect) → Runs words identity turns old mid ending effects → Runs words identity turns old new ending effects
runs_later words identity turns old mid new ending later effects (inl does) = inl (record { task = does.task; means = does.means; ran = task_still words does.task identity turns old mid new ending effects later does.ran })
runs_later words identity turns old mid new ending later effects (inr nothing) = inr nothing

-- a run, and then the line of its ending
pub answers : (words : List (List ℕ)) (identity : Identity) (old mid new : Outside) (turns status : ℕ) (ending : Ending) → Added old.told mid.told (Runs words identity turns old mid ending) → Added mid.told new.told (Tries (line_by fault_line ending)) → OnlyPrints mid new → (line_by fault_line ending ≡ None → new ≡ mid) → status ≡ status_by fault_status ending → Added old.told new.told (Answers words identity old new turns status)
answers words identity old mid new turns status ending runs line prints silent number =
    concluded (Runs words identity turns old mid) (Runs words identity turns old new) (status_by fault_status) (line_by fault_line) old.told mid.told new.told status ending runs line
    (runs_later words identity turns old mid new ending (record { prints = prints; silent = silent }))
    number

-- What was done is what the words ask for.
pub does : (words : List (List ℕ)) (identity : Identity) (turns : ℕ) (old new : Outside) (ending : Ending) (task : Task) → Means words task → Added old.told new.told (RunsTask words task identity turns old new ending) → Added old.told new.told (Runs words identity turns old new ending)
does words identity turns old new ending task means ran = record { effects = ran.effects; added = ran.added; holds = inl (record { task = task; means = means; ran = ran.holds }) }

-- Nothing was done.
pub does_nothing : (words : List (List ℕ)) (identity : Identity) (turns : ℕ) (old new : Outside) (ending : Ending) → ((((task : Task) → Means words task → ⊥) × (ending ≡ Err (Session BadWords))) ⊎ (ending ≡ Err (Session NoMemory))) → Added old.told old.told (Runs words identity turns old new ending)
does_nothing words identity turns old new ending cause = record { effects = []; added = sym (adds-none old.told); holds = inr (record { cause = cause; none = refl }) }
