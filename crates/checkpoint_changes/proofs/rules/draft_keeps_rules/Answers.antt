use Rattle.std.proofs.Common.{ℕ, List, ap, sym, ◌∙◌}
use Rattle.std.specs.List.{list_any}
use Rattle.checkpoint_records.specs.Books.{all_entries}
use Rattle.checkpoint_changes.specs.Together.{collides}
use Rattle.checkpoint_changes.proofs.TogetherLaws.{fit_together, rules_of}
use Rattle.checkpoint_changes.proofs.rules.draft_keeps_rules.Goals as goal

pub returns-then-not-one_collides_in : goal.returns-then-not-one_collides_in
returns-then-not-one_collides_in c = (
  λ t.
      let few = c.is_within_limits.ensures.0 t in
      let fit = fit_together c.args.draft.now.doubts c.args.draft.now.book (c.requires.fits c.if-draft.true) (ap (λ (doubts : List (List ℕ)). list_any (collides doubts c.args.draft.now.book.pending) (all_entries c.args.draft.now.book)) (sym c.as_slice.ensures) ∙ sym c.one_collides_in.ensures ∙ c.if-not-one_collides_in.true) in
      rules_of c.args.draft.now.book c.requires.parts fit few.0 few.1 few.2,
  λ k. c.is_within_limits.ensures.1 (k.few_sessions, k.few_entries, k.few_pending),
)
