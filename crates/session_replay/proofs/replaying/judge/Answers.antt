use Rattle.std.proofs.Common.{◌≤◌, List, ℕ, length, drop, ap, ◌∙◌, sym, subst, arith}
use Rattle.sm_world.specs.Worlds.{steady_outside}
use Rattle.checkpoint_records.specs.Rules.{IsName, KeepsRules}
use Rattle.checkpoint_records.specs.declared.records.Book.{Book}
use Rattle.control_lines.specs.Lines.{lines_of}
use Rattle.session_engine.specs.Doing.{items}
use Rattle.session_engine.specs.declared.config.Config.{Config}
use Rattle.session_in_memory.specs.Lines.{run_lines}
use Rattle.trace_replay.specs.Openings.{behind_opening, behind_patience, count_of}
use Rattle.trace_replay.proofs.TraceLemmas.{length-lines_of}
use Rattle.session_replay.specs.Comparing.{PartWith}
use Rattle.session_replay.specs.Running.{config_of, stored_of}
use Rattle.session_replay.proofs.JudgingLemmas.{few_left, lines_are, opened_chosen, opened_keeps, opened_named}
use Rattle.session_replay.proofs.replaying.judge.Goals as goal

pub rerun-requires-clause-rules : goal.rerun-requires-clause-rules
rerun-requires-clause-rules c =
    subst (λ (book : Book). KeepsRules book) (sym c.in_ok-book.ensures) (opened_keeps (drop (count_of c.args.opening.cookie) (lines_of c.args.trace.now)) c.args.opening.book c.requires.opens.book)

pub rerun-requires-clause-chosen : goal.rerun-requires-clause-chosen
rerun-requires-clause-chosen c =
    ap (λ (book : Book). book.name) c.in_ok-book.ensures ∙ opened_chosen (drop (count_of c.args.opening.cookie) (lines_of c.args.trace.now)) c.args.opening.book c.requires.opens.book

pub rerun-requires-clause-named : goal.rerun-requires-clause-named
rerun-requires-clause-named c =
    subst (λ (config : Config). IsName config.session) (sym c.in_ok-config.ensures) (opened_named (behind_patience c.args.opening (lines_of c.args.trace.now)) c.args.opening.session c.requires.opens.session)

pub overflow_sub-result : goal.overflow_sub-result
overflow_sub-result c =
    let few : c.in-Some.left ≤ length (lines_of c.args.trace.now) = few_left c.args.opening (lines_of c.args.trace.now) (lines_of c.behind-lines.result.now) (run_lines (items c.effects.result.now)) c.in-Some.left c.behind-lines.ensures (rw c.in-Some.is at c.in_ok-left.ensures) in
    omega (arith, few, c.count_lines.ensures)

pub overflow_add-result : goal.overflow_add-result
overflow_add-result c =
    let all = length-lines_of c.args.trace.now in
    omega (arith, all, c.count_lines.ensures)

pub returns-in-Some : goal.returns-in-Some
returns-in-Some c =
    let few : c.in-Some.left ≤ length (lines_of c.args.trace.now) = few_left c.args.opening (lines_of c.args.trace.now) (lines_of c.behind-lines.result.now) (run_lines (items c.effects.result.now)) c.in-Some.left c.behind-lines.ensures (rw c.in-Some.is at c.in_ok-left.ensures) in
    let are = lines_are c.in_ok-config.config (config_of c.args.opening) c.in_ok-book.book (stored_of c.args.opening) c.args.events c.effects.result.now (steady_outside c.in_ok-world.world) c.effects.ensures c.in_ok-world.ensures c.in_ok-config.ensures c.in_ok-book.ensures in (
      c.in-Some.left,
      subst (λ (made : List (List ℕ)). PartWith made (behind_opening c.args.opening (lines_of c.args.trace.now)) c.in-Some.left) are
          (subst (λ (lines : List (List ℕ)). PartWith (run_lines (items c.effects.result.now)) lines c.in-Some.left) c.behind-lines.ensures (rw c.in-Some.is at c.in_ok-left.ensures)),
      omega (arith, few, c.count_lines.ensures),
    )
