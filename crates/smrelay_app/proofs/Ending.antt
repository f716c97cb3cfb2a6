-- The line of an ending, and what the ending says.
use Rattle.std.proofs.Common.{◌≡◌, inl, inr, codes, ℕ, List, [], ◌∷◌, None, Result, Ok, Err, IfErr, refl, sym, subst}
use Rattle.sm_world.specs.Outside.{Outside, Added, Rose}
use Rattle.sm_world.specs.declared.effects.Effect.{Effect}
use Rattle.sm_world.proofs.Adding.{adds-none}
use Rattle.program_frame.specs.Printing.{Tries, OnlyPrints}
use Rattle.program_frame.specs.Programs.{status_by, line_by}
use Rattle.program_frame.proofs.ProgramLemmas.{runs_still, concluded}
use Rattle.ice_values.specs.declared.numbers.Endian.{Endian}
use Rattle.byte_relay.specs.Serving.{HasCause}
use Rattle.byte_relay.specs.declared.fault.RelayFault.{RelayFault}
use Rattle.byte_relay.specs.declared.fault.RelayFault.TheVariants.{LinkFault, Spent as HasSpent, NoMemory as WantsMemory}
use Rattle.smrelay_app.specs.FaultLines.{fault_line, fault_status}
use Rattle.smrelay_app.specs.Rehearsals.{script_of}
use Rattle.smrelay_app.specs.Serving.{RunsRelay}
use Rattle.smrelay_app.specs.Statuses.{Ending, HasRehearsed, RunsTask, Runs, Answers}
use Rattle.smrelay_app.specs.Words.{Places, Task, Rehearse, Serve, AreServe, Means, order_word}
use Rattle.smrelay_app.specs.declared.fault.Fault.TheVariants.{BadWords, Links, Console, BadLine, Spent, NoMemory}

-- Behind a run the line of its ending was tried, where it has one.
record IsLater (ending : Ending) (mid new : Outside) : Type 0 where
  prints : OnlyPrints mid new
  silent : line_by fault_line ending ≡ None → new ≡ mid

rehearsed_still : (to : Endian) (before : ℕ) (mid new : Outside) (bytes : List ℕ) (turns : ℕ) (texts : List (List ℕ)) (ending : Ending) → IsLater ending mid new → HasRehearsed to before mid.faults.console bytes turns texts ending → HasRehearsed to before new.faults.console bytes turns texts ending
rehearsed_still to before mid new bytes turns texts (Ok x) later holds = holds
rehearsed_still to before mid new bytes turns texts (Err Console) later holds = (subst (λ (outside : Outside). Rose before outside.faults.console) (sym (later.silent refl)) holds.0, holds.1)
rehearsed_still to before mid new bytes turns texts (Err (BadLine n)) later holds = holds
rehearsed_still to before mid new bytes turns texts (Err Spent) later holds = holds
rehearsed_still to before mid new bytes turns texts (Err NoMemory) later holds = holds
rehearsed_still to before mid new bytes turns texts (Err BadWords) later holds = holds
rehearsed_still to before mid new bytes turns texts (Err Links) later holds = holds

links_still : (before : ℕ) (mid new : Outside) → OnlyPrints mid new → Rose before mid.faults.links → Rose before new.faults.links
links_still before mid new prints rose = subst (Rose before) (sym prints.uses.links) rose

cause_still : (old mid new : Outside) (answer : Result (Unit {0}) RelayFault) → OnlyPrints mid new → IfErr answer (HasCause old.faults mid.faults) → IfErr answer (HasCause old.faults new.faults)
cause_still old mid new (Ok x) prints cause = cause
cause_still old mid new (Err LinkFault) prints cause = links_still old.faults.links mid new prints cause
cause_still old mid new (Err HasSpent) prints cause = cause
cause_still old mid new (Err WantsMemory) prints cause = cause

relay_still : (to : Endian) (turns : ℕ) (old mid new : Outside) (ending : Ending) (effects : List Effect) → OnlyPrints mid new → RunsRelay to turns old mid ending effects → RunsRelay to turns old new ending effects
relay_still to turns old mid new ending effects prints (inl refused) = inl (record {
  cause = elim refused.cause [
    | inl failed ↦ inl (failed.0, links_still old.faults.links mid new prints failed.1)
    | inr memory ↦ inr memory
  ];
  none = refused.none;
})
relay_still to turns old mid new ending effects prints (inr served_so) = inr (record {
  answer = served_so.answer;
  ends = served_so.ends;
  relays = served_so.relays;
  cause = cause_still old mid new served_so.answer prints served_so.cause;
})

task_still : (task : Task) (turns : ℕ) (old mid new : Outside) (ending : Ending) (effects : List Effect) → IsLater ending mid new → RunsTask task turns old mid ending effects → RunsTask task turns old new ending effects
task_still (Rehearse to) turns old mid new ending effects later run =
    runs_still old.input
    (λ input texts. HasRehearsed to old.faults.console mid.faults.console (script_of input) turns texts ending)
    (λ input texts. HasRehearsed to old.faults.console new.faults.console (script_of input) turns texts ending)
    effects
    (λ input texts. rehearsed_still to old.faults.console mid new (script_of input) turns texts ending later)
    run
task_still (Serve to places) turns old mid new ending effects later run = relay_still to turns old mid new ending effects later.prints run

runs_later : (words : List (List ℕ)) (turns : ℕ) (old mid new : Outside) (ending : Ending) → IsLater ending mid new → (effects : List Effect) → Runs words turns old mid ending effects → Runs words turns old new ending effects
runs_later words turns old mid new ending later effects (inl does) = inl (record { task = does.task; means = does.means; ran = task_still does.task turns old mid new ending effects later does.ran })
runs_later words turns old mid new ending later effects (inr nothing) = inr nothing

-- a run, and then the line of its ending
pub answers : (words : List (List ℕ)) (old mid new : Outside) (turns status : ℕ) (ending : Ending) → Added old.told mid.told (Runs words turns old mid ending) → Added mid.told new.told (Tries (line_by fault_line ending)) → OnlyPrints mid new → (line_by fault_line ending ≡ None → new ≡ mid) → status ≡ status_by fault_status ending → Added old.told new.told (Answers words old new turns status)
answers words old mid new turns status ending runs line prints silent number =
    concluded (Runs words turns old mid) (Runs words turns old new) (status_by fault_status) (line_by fault_line) old.told mid.told new.told status ending runs line
    (runs_later words turns old mid new ending (record { prints = prints; silent = silent }))
    number

-- What was done is what the words ask for.
pub does : (words : List (List ℕ)) (turns : ℕ) (old new : Outside) (ending : Ending) (task : Task) → Means words task → Added old.told new.told (RunsTask task turns old new ending) → Added old.told new.told (Runs words turns old new ending)
does words turns old new ending task means ran = record { effects = ran.effects; added = ran.added; holds = inl (record { task = task; means = means; ran = ran.holds }) }

-- The words ask for neither of the two.
pub does_nothing : (words : List (List ℕ)) (turns : ℕ) (old new : Outside) → ((order : Endian) → words ≡ codes "rehearse" ∷ order_word order ∷ [] → ⊥) → ((order : Endian) (places : Places) → AreServe words order places → ⊥) → Added old.told old.told (Runs words turns old new (Err BadWords))
does_nothing words turns old new one two = record { effects = []; added = sym (adds-none old.told); holds = inr (record { means_none = means_none; refused = refl; none = refl }) }
  where
    means_none : (task : Task) → Means words task → ⊥
    means_none (Rehearse order) means = one order means
    means_none (Serve order places) means = two order places means
