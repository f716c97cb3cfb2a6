-- What was printed, and how a run ended.
use Rattle.std.proofs.Common.{◌≡◌, ◌⊎◌, inl, inr, ℕ, ◌+◌, List, [], ◌∷◌, map, None, Ok, Err, refl, sym, ap, subst, codes}
use Rattle.sm_world.specs.Outside.{Outside, Added, Rose, UsesConsole, adds}
use Rattle.sm_world.specs.declared.effects.Effect.TheVariants.{Printed}
use Rattle.sm_world.specs.declared.failures.Failure.{Failure}
use Rattle.sm_world.specs.declared.failures.Failure.TheVariants.{Failed, NoMemory as DeviceMemory}
use Rattle.sm_world.proofs.Adding.{adds-none}
use Rattle.program_frame.specs.Printing.{Tries, line}
use Rattle.program_frame.specs.Programs.{status_by, line_by}
use Rattle.sm_world.proofs.Counting.{rose_since}
use Rattle.program_frame.proofs.ProgramLemmas.{Took as TookWithin, ran as ran_with, ran_unread, runs_still, concluded}
use Rattle.smtrace_app.specs.Faults.{fault_line, fault_status, console_fault}
use Rattle.trace_replay.specs.Traces.{IsMalformed}
use Rattle.session_replay.specs.Verdicts.{ReplaysWithin}
use Rattle.session_replay.specs.declared.replaying.Verdict.TheVariants.{Same as IsSame, Differs as IsDifferent}
use Rattle.smtrace_app.specs.Statuses.{AreKnown, AreReplay, AskFor, IsView, trace_of, Ending, HasEnding, Runs, Answers}
use Rattle.smtrace_app.specs.declared.program.View.{View}
use Rattle.smtrace_app.specs.declared.program.View.TheVariants.{Shown, Told, Drawn}
use Rattle.smtrace_app.specs.declared.fault.Fault.TheVariants.{BadWords, Differs, Malformed, Console, NoMemory}
use Rattle.smtrace_app.specs.declared.program.TheConstants.{TRACE_LIMIT}

-- The trace's bytes were read, and nothing else was done.
abbrev pub Took : Outside → Outside → List ℕ → Type 0
Took old mid bytes = TookWithin (TRACE_LIMIT + 1) old mid bytes

-- a run that printed these texts after its trace was read
ran : (words : List (List ℕ)) (old mid new : Outside) (bytes : List ℕ) (texts : List (List ℕ)) (ending : Ending) → Took old mid bytes → new.told ≡ adds mid.told (map Printed texts) → HasEnding words old.faults.console new.faults.console bytes texts ending → Added old.told new.told (Runs words old new ending)
ran words old mid new bytes texts ending =
    ran_with (TRACE_LIMIT + 1) (λ read printed. HasEnding words old.faults.console new.faults.console read printed ending) old mid new bytes texts

refused : (words : List (List ℕ)) (before after : ℕ) (bytes : List ℕ) (failure : Failure) → AreKnown words → (failure ≡ Failed → Rose before after) → HasEnding words before after bytes [] (Err (console_fault failure))
refused words before after bytes Failed are rose = (are, rose refl, refl)
refused words before after bytes DeviceMemory are rose = (are, refl)

-- the console's input was refused
pub read_refused : (words : List (List ℕ)) (old new : Outside) (failure : Failure) → AreKnown words → new.told ≡ old.told → UsesConsole {A = List ℕ} old new (Err failure) → Added old.told new.told (Runs words old new (Err (console_fault failure)))
read_refused words old new failure are told uses =
    ran_unread (λ input texts. HasEnding words old.faults.console new.faults.console (trace_of input) texts (Err (console_fault failure))) old new told
    (λ input. refused words old.faults.console new.faults.console (trace_of input) failure are (λ e. uses.cause (ap Err e)))

-- a line of the trace isn't of the grammar
pub malformed : (words : List (List ℕ)) (old mid : Outside) (bytes : List ℕ) (at : ℕ) → AreKnown words → Took old mid bytes → IsMalformed TRACE_LIMIT bytes at → Added old.told mid.told (Runs words old mid (Err (Malformed at)))
malformed words old mid bytes at are taken bad = ran words old mid mid bytes [] (Err (Malformed at)) taken (sym (adds-none mid.told)) (are, bad, refl)

-- memory was wanting
pub no_memory : (words : List (List ℕ)) (old mid : Outside) (bytes : List ℕ) → AreKnown words → Took old mid bytes → Added old.told mid.told (Runs words old mid (Err NoMemory))
no_memory words old mid bytes are taken = ran words old mid mid bytes [] (Err NoMemory) taken (sym (adds-none mid.told)) (are, refl)

-- the text was refused
pub print_refused : (words : List (List ℕ)) (old mid new : Outside) (bytes : List ℕ) (failure : Failure) → AreKnown words → Took old mid bytes → new.told ≡ adds mid.told [] → UsesConsole {A = Unit {0}} mid new (Err failure) → Added old.told new.told (Runs words old new (Err (console_fault failure)))
print_refused words old mid new bytes failure are taken told uses =
    ran words old mid new bytes [] (Err (console_fault failure)) taken told
    (refused words old.faults.console new.faults.console bytes failure are (λ e. rose_since old.faults.console mid.faults.console new.faults.console taken.console (uses.cause (ap Err e))))

-- a view was printed
pub text_printed : (view : View) (words : List (List ℕ)) (old mid new : Outside) (bytes text printed : List ℕ) → AskFor view words → Took old mid bytes → IsView view bytes text → printed ≡ text → new.told ≡ adds mid.told (Printed printed ∷ []) → Added old.told new.told (Runs words old new (Ok tt))
text_printed view words old mid new bytes text printed are taken shown is told = ran words old mid new bytes (printed ∷ []) (Ok tt) taken told (inl (view, are, (text, shown, ap (λ t. t ∷ []) is)))

-- the trace was found the same
pub same_printed : (words : List (List ℕ)) (old mid new : Outside) (bytes : List ℕ) → AreReplay words → Took old mid bytes → ReplaysWithin TRACE_LIMIT bytes IsSame → new.told ≡ adds mid.told (Printed (line (codes "same")) ∷ []) → Added old.told new.told (Runs words old new (Ok tt))
same_printed words old mid new bytes are taken same told = ran words old mid new bytes (line (codes "same") ∷ []) (Ok tt) taken told (inr (are, (same, refl)))

-- or another
pub different : (words : List (List ℕ)) (old mid : Outside) (bytes : List ℕ) (at : ℕ) → AreReplay words → Took old mid bytes → ReplaysWithin TRACE_LIMIT bytes (IsDifferent at) → Added old.told mid.told (Runs words old mid (Err (Differs at)))
different words old mid bytes at are taken differs = ran words old mid mid bytes [] (Err (Differs at)) taken (sym (adds-none mid.told)) (are, differs, refl)

-- the words ask for no view
pub no_view : (words : List (List ℕ)) → (words ≡ codes "show" ∷ [] → ⊥) → (words ≡ codes "read" ∷ [] → ⊥) → (words ≡ codes "draw" ∷ [] → ⊥) → (view : View) → AskFor view words → ⊥
no_view words no_show no_read no_draw Shown are = no_show are
no_view words no_show no_read no_draw Told are = no_read are
no_view words no_show no_read no_draw Drawn are = no_draw are

-- other words
pub bad_words : (words : List (List ℕ)) (old : Outside) → (AreKnown words → ⊥) → Added old.told old.told (Runs words old old (Err BadWords))
bad_words words old others =
    ran_unread (λ input texts. HasEnding words old.faults.console old.faults.console (trace_of input) texts (Err BadWords)) old old refl (λ input. (others, refl))

-- What an ending says isn't changed by its line.
still_holds : (words : List (List ℕ)) (before after later : ℕ) (bytes : List ℕ) (texts : List (List ℕ)) (ending : Ending) → (line_by fault_line ending ≡ None → later ≡ after) → HasEnding words before after bytes texts ending → HasEnding words before later bytes texts ending
still_holds words before after later bytes texts (Ok x) silent holds = holds
still_holds words before after later bytes texts (Err BadWords) silent holds = holds
still_holds words before after later bytes texts (Err (Differs at)) silent holds = holds
still_holds words before after later bytes texts (Err (Malformed at)) silent holds = holds
still_holds words before after later bytes texts (Err Console) silent holds =
    let P : ℕ → Type 0 = Rose before in (holds.0, subst P (sym (silent refl)) holds.1, holds.2)
still_holds words before after later bytes texts (Err NoMemory) silent holds = holds

-- a run, and then the line of its ending
pub answers : (words : List (List ℕ)) (old mid new : Outside) (status : ℕ) (ending : Ending) → Added old.told mid.told (Runs words old mid ending) → Added mid.told new.told (Tries (line_by fault_line ending)) → (line_by fault_line ending ≡ None → new ≡ mid) → status ≡ status_by fault_status ending → Added old.told new.told (Answers words old new status)
answers words old mid new status ending runs line silent number =
    concluded (Runs words old mid) (Runs words old new) (status_by fault_status) (line_by fault_line) old.told mid.told new.told status ending runs line
    (λ effects. runs_still old.input
    (λ input texts. HasEnding words old.faults.console mid.faults.console (trace_of input) texts ending)
    (λ input texts. HasEnding words old.faults.console new.faults.console (trace_of input) texts ending)
    effects
    (λ input texts. still_holds words old.faults.console mid.faults.console new.faults.console (trace_of input) texts ending (λ e. ap (λ outside. outside.faults.console) (silent e))))
    number
