use Rattle.checkpoint_records.specs.Rules.{KeepsRules}
use Rattle.checkpoint_records.proofs.DistinctLaws.{all_more}
use Rattle.kept_books.specs.declared.shelves.Kept.{Kept}
use Rattle.shelf_files.proofs.folder.add_kept.Goals as goal

pub returns-in-Ok-push : goal.returns-in-Ok-push
returns-in-Ok-push c = rw c.in-Ok-push.ensures.ok (all_more (λ (kept : Kept). KeepsRules kept.book) c.args.shelf.now _ c.requires c.in-Ok.ensures.rules)
