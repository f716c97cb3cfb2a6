use Rattle.std.proofs.Common.{◌≡◌, ◌∙◌, false, sym, true}
use Rattle.checkpoint_changes.proofs.RuleLaws.{own_of_runs, runs_in_book}
use Rattle.checkpoint_changes.proofs.rules.all_are_of_runs.Goals as goal

pub returns-then-are_of_runs : goal.returns-then-are_of_runs
returns-then-are_of_runs c =
    runs_in_book c.args.epoch c.args.book.now.entries c.as_slice.result.now c.args.book.now.others c.as_slice-then-are_of_runs.result.now c.others_are_of_runs.result
    c.as_slice.ensures c.as_slice-then-are_of_runs.ensures (c.are_of_runs.ensures.0 c.if-are_of_runs.true) c.others_are_of_runs.ensures

pub returns-else-are_of_runs : goal.returns-else-are_of_runs
returns-else-are_of_runs c = (
  λ t. absurd cc,
  λ h. let own : true ≡ false = sym (c.are_of_runs.ensures.1 (own_of_runs c.args.epoch c.args.book.now.entries c.as_slice.result.now c.args.book.now.others c.as_slice.ensures h)) ∙ c.if-are_of_runs.false in absurd cc,
)
