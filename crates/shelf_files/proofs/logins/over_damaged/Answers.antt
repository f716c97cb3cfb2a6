use Rattle.std.proofs.Common.{ap}
use Rattle.checkpoint_records.specs.declared.records.Book.{Book}
use Rattle.checkpoint_records.proofs.ChoiceLaws.{empty_rules}
use Rattle.shelf_files.proofs.logins.over_damaged.Goals as goal

pub plan_for-requires-clause-stored : goal.plan_for-requires-clause-stored
plan_for-requires-clause-stored c = (empty_rules c.in-Ok.empty c.in-Ok.ensures, ap (λ (b : Book). b.name) c.in-Ok.ensures)
