-- What is said once the inner session has come to its end.
use Rattle.std.proofs.Common.{◌≡◌, ◌≢◌, refl, sym, ap, subst, ◌∙◌, inl, inr, ℕ, Bool, true, false, List, [], ◌++◌, append_assoc, Option, None, Some, Ok, Err}
use Rattle.std.proofs.lemmas.List.{append-nil}
use Rattle.std.proofs.lemmas.Bool.{false≢true}
use Rattle.sm_world.specs.Effects.{heard}
use Rattle.sm_world.specs.Outside.{adds}
use Rattle.sm_world.specs.declared.effects.Effect.{Effect}
use Rattle.sm_world.proofs.Adding.{adds-none}
use Rattle.sm_world.specs.declared.events.Event.{Event}
use Rattle.checkpoint_records.specs.declared.records.Book.{Book}
use Rattle.checkpoint_slots.specs.declared.turn.Current.{Current}
use Rattle.client_engine.specs.Driving.{Run, Step}
use Rattle.outer_agent.specs.Script.{Keeper}
use Rattle.outer_agent.specs.Standing.{Stand}
use Rattle.session_engine.specs.Carries.{Runs, script}
use Rattle.session_engine.specs.Commits.{HasWritten}
use Rattle.session_engine.specs.Machine.{Item, Machine}
use Rattle.session_engine.specs.Session.{IsCut}
use Rattle.session_engine.specs.declared.config.Config.{Config}
use Rattle.session_engine.specs.declared.fault.ServeFault.{ServeFault}
use Rattle.session_engine.specs.declared.fault.ServeFault.TheVariants.{ConsoleFault, Damaged, DiskFault, LinkFault, NoMemory, Spent, TooManySessions, Worn, WrongSize}
use Rattle.session_model.specs.Readings as of
use Rattle.nested_session.specs.Nesting.{Nested, closed_for, ended_for, ended_said, outcome, outcome_for, sent, tells_end, closes, chain}
use Rattle.nested_session.specs.Nests.{IsBacked, IsCurrentAt, success}
use Rattle.nested_session.specs.Standing.{Ends, HasEnded, IsCutShort, IsOfOuter, Makes, Talks, sent_on}
use Rattle.nested_session.specs.Woven.{Woven, all_inner}
use Rattle.nested_session.specs.declared.nest.Answered.TheVariants.{Finished}
use Rattle.nested_session.proofs.Failing.{close_other}
use Rattle.nested_session.proofs.SaidLaws.{end_backed, inner_same, said_on, shown_more, wove_said}

module _ (config : Config) (opening : Book) (current : Option Current) (base : Option (List Effect)) (events : List Event) where
  -- A run that came to its end, where a fault keeps back what is said behind it.

  writes_all : (effects : List Effect) → HasWritten current opening (script config opening (heard effects)) true false effects → HasWritten current opening (script config opening (heard effects)) false false effects
  writes_all effects has = record { front = has.front; rest = has.rest; parts = has.parts; none_left = λ e. has.none_left refl; same = has.same; puts = has.puts; last = has.last; commits = has.commits; done = has.done }

  links_cut : (effects : List Effect) → Runs config opening current (Ok tt) effects → Runs config opening current (Err LinkFault) effects
  links_cut effects runs = record {
    carries = record { on_script = runs.carries.on_script; all_done = λ e. absurd (false≢true e); ended = λ e. absurd (false≢true e) };
    in_order = λ e. absurd (false≢true e);
    keeps = runs.keeps;
    is_current = λ e. absurd (false≢true e);
    opens = λ e. absurd (false≢true e);
    opened = tt;
    worn = λ e. absurd cc;
    numbered = λ e. absurd (false≢true e);
    writes = writes_all effects runs.writes;
    stopped = record {
      front = script config opening (heard effects);
      rest = [];
      parts = append-nil (script config opening (heard effects));
      same = runs.carries.all_done refl;
      at = inl refl;
      opens = inr (runs.opens refl);
      numbers = runs.numbered refl;
      leaves = λ first before stands file image. inl (runs.is_current refl first before stands file image);
    };
    settles = λ e. runs.settles (λ same. absurd cc);
  }

  memory_cut : (effects : List Effect) → Runs config opening current (Ok tt) effects → Runs config opening current (Err NoMemory) effects
  memory_cut effects runs = record {
    carries = record { on_script = runs.carries.on_script; all_done = λ e. absurd (false≢true e); ended = λ e. absurd (false≢true e) };
    in_order = λ e. absurd (false≢true e);
    keeps = runs.keeps;
    is_current = λ e. absurd (false≢true e);
    opens = λ e. absurd (false≢true e);
    opened = tt;
    worn = λ e. absurd cc;
    numbered = λ e. absurd (false≢true e);
    writes = writes_all effects runs.writes;
    stopped = record {
      front = script config opening (heard effects);
      rest = [];
      parts = append-nil (script config opening (heard effects));
      same = runs.carries.all_done refl;
      at = tt;
      opens = inr (runs.opens refl);
      numbers = runs.numbered refl;
      leaves = λ first before stands file image. inl (runs.is_current refl first before stands file image);
    };
    settles = λ e. runs.settles (λ same. absurd cc);
  }

  cut_ended : (fault : ServeFault) (effects : List Effect) → IsOfOuter fault → Runs config opening current (Ok tt) effects → IsCut config opening current fault effects
  cut_ended (Damaged at) effects of_outer runs = absurd of_outer
  cut_ended (WrongSize size) effects of_outer runs = absurd of_outer
  cut_ended TooManySessions effects of_outer runs = absurd of_outer
  cut_ended DiskFault effects of_outer runs = absurd of_outer
  cut_ended LinkFault effects of_outer runs = record { runs = links_cut effects runs; in_time = λ e. cc }
  cut_ended ConsoleFault effects of_outer runs = absurd of_outer
  cut_ended Worn effects of_outer runs = absurd of_outer
  cut_ended Spent effects of_outer runs = absurd of_outer
  cut_ended NoMemory effects of_outer runs = record { runs = memory_cut effects runs; in_time = λ e. cc }

  -- The end, with more said

  ended_more : (old new : Option (List Effect)) (n : Nested) (script : List (Woven Item)) (all : List (Woven Effect)) (bytes : List ℕ) (run : Option (Run Keeper)) (awaited : Option ℕ) → new ≡ adds old (sent_on bytes) → (bytes ≡ success → IsBacked config opening current all)
      → HasEnded config opening current base events old n script all → HasEnded config opening current base events new (record n { agent = run; awaited = awaited }) (script ++ sent bytes) (all ++ said_on bytes)
  ended_more old new n script all bytes run awaited added now ended = record {
    wove = wove_said config opening current base events old new all bytes added now ended.wove;
    all_shown = shown_more all bytes ∙ ap (λ (xs : List (Woven Item)). xs ++ sent bytes) ended.all_shown;
    runs = subst (λ (xs : List Effect). Runs config opening current (Ok tt) xs) (sym (inner_same all bytes)) ended.runs;
    finished = ended.finished;
  }

  cut_more : (old new : Option (List Effect)) (n : Nested) (script line : List (Woven Item)) (all : List (Woven Effect)) (fault : ServeFault) → new ≡ old → IsOfOuter fault → HasEnded config opening current base events old n script all → IsCutShort config opening current base events new fault (script ++ line) all
  cut_more old new n script line all fault same of_outer ended = record {
    wove = record { told_is = same ∙ ended.wove.told_is; heard_is = ended.wove.heard_is; apart = ended.wove.apart; backed = ended.wove.backed };
    front = (line, ap (λ (xs : List (Woven Item)). xs ++ line) ended.all_shown);
    cut = cut_ended fault (all_inner all) of_outer ended.runs;
  }

  ended_current : (old : Option (List Effect)) (n : Nested) (script : List (Woven Item)) (all : List (Woven Effect)) → HasEnded config opening current base events old n script all → IsCurrentAt config opening current all
  ended_current old n script all ended first before steady file image = ended.runs.is_current refl first before steady file image

  -- nothing is told, and the agent closes
  pub closed_only : (old new : Option (List Effect)) (n : Nested) (script : List (Woven Item)) (all : List (Woven Effect)) (agent : Option Stand) → outcome n.awaited (of.marks n.machine.session) ≡ None → Talks old new (closed_for n.agent) (Ok agent)
      → HasEnded config opening current base events old n script all → Makes config opening current base events new script (ended_said n) (Ok Finished)
  closed_only old new n script all agent e talks ended =
      subst (λ (o : Option Bool). Makes config opening current base events new script (chain (tells_end o n) (closes true)) (Ok Finished)) (sym e) (
        all ++ said_on (closed_for n.agent).line,
        ended_more old new n script all (closed_for n.agent).line (closed_for n.agent).next n.awaited talks.0 (λ said. absurd (close_other n.agent said)) ended,
      )

  pub closed_cut : (old new : Option (List Effect)) (n : Nested) (script : List (Woven Item)) (all : List (Woven Effect)) (said : Step (Option (Run Keeper)) ℕ) (fault : ServeFault) → Talks old new said (Err fault)
      → HasEnded config opening current base events old n script all → Makes config opening current base events new script (ended_said n) (Err fault)
  closed_cut old new n script all said fault talks ended = (all, cut_more old new n script (ended_said n).line all fault talks.0 talks.1 ended)

  -- the end of the awaited save is told
  told_ended : (old new : Option (List Effect)) (n : Nested) (script : List (Woven Item)) (all : List (Woven Effect)) (success : Bool) (agent now : Option Stand) → outcome n.awaited (of.marks n.machine.session) ≡ Some success
      → Talks old new (ended_for success n.agent) (Ok agent) → Ends config opening current base events old now n script all
      → HasEnded config opening current base events new (record n { agent = (ended_for success n.agent).next; awaited = None }) (script ++ sent (ended_for success n.agent).line) (all ++ said_on (ended_for success n.agent).line)
  told_ended old new n script all success agent now e talks ends =
      ended_more old new n script all (ended_for success n.agent).line (ended_for success n.agent).next None talks.0
      (end_backed config opening current base events n.awaited (of.marks n.machine.session) all success n.agent e (ap (λ (m : Machine). of.marks m.session) ends.machine) ends.ended.wove.apart
      (ended_current old n script all ends.ended) ends.waits)
      ends.ended

  pub told_closed : (old between new : Option (List Effect)) (n : Nested) (script : List (Woven Item)) (all : List (Woven Effect)) (success : Bool) (now agent last : Option Stand) → outcome n.awaited (of.marks n.machine.session) ≡ Some success
      → Talks old between (ended_for success n.agent) (Ok agent) → Talks between new (closed_for (ended_for success n.agent).next) (Ok last) → Ends config opening current base events old now n script all
      → Makes config opening current base events new script (ended_said n) (Ok Finished)
  told_closed old between new n script all success now agent last e one two ends =
      let told : Step (Option (Run Keeper)) ℕ = ended_for success n.agent in
      let closing : Step (Option (Run Keeper)) ℕ = closed_for told.next in
      let n1 : Nested = record n { agent = told.next; awaited = None } in
      let ended : HasEnded config opening current base events between n1 (script ++ sent told.line) (all ++ said_on told.line) = told_ended old between n script all success agent now e one ends in
      subst (λ (o : Option Bool). Makes config opening current base events new script (chain (tells_end o n) (closes true)) (Ok Finished)) (sym e) (
        (all ++ said_on told.line) ++ said_on closing.line,
        subst (λ (s : List (Woven Item)). HasEnded config opening current base events new (record n1 { agent = closing.next }) s ((all ++ said_on told.line) ++ said_on closing.line)) (append_assoc script (sent told.line) (sent closing.line))
            (ended_more between new n1 (script ++ sent told.line) (all ++ said_on told.line) closing.line closing.next None two.0 (λ said. absurd (close_other told.next said)) ended),
      )

  pub told_cut : (old between new : Option (List Effect)) (n : Nested) (script : List (Woven Item)) (all : List (Woven Effect)) (success : Bool) (now agent : Option Stand) (said : Step (Option (Run Keeper)) ℕ) (fault : ServeFault) → outcome n.awaited (of.marks n.machine.session) ≡ Some success
      → Talks old between (ended_for success n.agent) (Ok agent) → Talks between new said (Err fault) → Ends config opening current base events old now n script all
      → Makes config opening current base events new script (ended_said n) (Err fault)
  told_cut old between new n script all success now agent said fault e one two ends =
      let told : Step (Option (Run Keeper)) ℕ = ended_for success n.agent in
      let closing : Step (Option (Run Keeper)) ℕ = closed_for told.next in
      let n1 : Nested = record n { agent = told.next; awaited = None } in
      let ended : HasEnded config opening current base events between n1 (script ++ sent told.line) (all ++ said_on told.line) = told_ended old between n script all success agent now e one ends in
      subst (λ (o : Option Bool). Makes config opening current base events new script (chain (tells_end o n) (closes true)) (Err fault)) (sym e) (
        all ++ said_on told.line,
        subst (λ (s : List (Woven Item)). IsCutShort config opening current base events new fault s (all ++ said_on told.line)) (append_assoc script (sent told.line) (sent closing.line))
            (cut_more between new n1 (script ++ sent told.line) (sent closing.line) (all ++ said_on told.line) fault two.0 two.1 ended),
      )

  -- both, one after the other

  pub finish_done : (old between new : Option (List Effect)) (n : Nested) (script : List (Woven Item)) (all : List (Woven Effect)) (ended : Option Bool) (now agent last : Option Stand) → ended ≡ outcome n.awaited (of.marks n.machine.session)
      → Talks old between (outcome_for ended n.agent) (Ok agent) → Talks between new (closed_for (outcome_for ended n.agent).next) (Ok last) → Ends config opening current base events old now n script all
      → Makes config opening current base events new script (ended_said n) (Ok Finished)
  finish_done old between new n script all None now agent last e one two ends =
      closed_only old new n script all last (sym e) (two.0 ∙ ap (λ (t : Option (List Effect)). adds t (sent_on (closed_for n.agent).line)) (one.0 ∙ adds-none old), two.1) ends.ended
  finish_done old between new n script all (Some success) now agent last e one two ends = told_closed old between new n script all success now agent last (sym e) one two ends

  pub finish_unclosed : (old between new : Option (List Effect)) (n : Nested) (script : List (Woven Item)) (all : List (Woven Effect)) (ended : Option Bool) (now agent : Option Stand) (fault : ServeFault) → ended ≡ outcome n.awaited (of.marks n.machine.session)
      → Talks old between (outcome_for ended n.agent) (Ok agent) → Talks between new (closed_for (outcome_for ended n.agent).next) (Err fault) → Ends config opening current base events old now n script all
      → Makes config opening current base events new script (ended_said n) (Err fault)
  finish_unclosed old between new n script all None now agent fault e one two ends = closed_cut old new n script all (closed_for n.agent) fault (two.0 ∙ (one.0 ∙ adds-none old), two.1) ends.ended
  finish_unclosed old between new n script all (Some success) now agent fault e one two ends = told_cut old between new n script all success now agent (closed_for (ended_for success n.agent).next) fault (sym e) one two ends
