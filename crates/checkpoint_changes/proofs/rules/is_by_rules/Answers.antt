use Rattle.std.proofs.Common.{◌≡◌, ◌∙◌, false, not, refl, sym, true}
use Rattle.checkpoint_records.specs.Books.{all_entries, discards}
use Rattle.checkpoint_changes.proofs.RuleLaws.{rules_decided}
use Rattle.checkpoint_changes.proofs.TogetherLaws.{none_discards}
use Rattle.checkpoint_changes.proofs.rules.is_by_rules.Goals as goal

pub returns-then-not-is_within_limits : goal.returns-then-not-is_within_limits
returns-then-not-is_within_limits c = (
  λ t. absurd cc,
  λ k. let few : true ≡ false = sym (c.is_within_limits.ensures.1 (k.few_sessions, k.few_entries, k.few_pending)) ∙ c.if-not-is_within_limits.true in absurd cc,
)

pub returns : goal.returns
returns c =
    let few = c.is_within_limits.ensures.0 c.if-not-is_within_limits.false in
    rules_decided c.args.book.now (not c.one_discards_in.result) c.args.book.now.pending (discards (all_entries c.args.book.now)) c.requires refl refl few.0 few.1 few.2
    (c.all_are_of_runs.ensures.0 c.if-not-all_are_of_runs.false) (rw (← c.as_slice-pending.ensures) (c.are_distinct.ensures.0 c.if-not-are_distinct.false)) (none_discards c.args.book.now c.one_discards_in.result c.one_discards_in.ensures)
