use Rattle.std.specs.Str.{bytes_eq}
use Rattle.checkpoint_records.specs.declared.records.Entry.{Entry}
use Rattle.checkpoint_records.proofs.EntryLaws.{taken_before, taken_here}
use Rattle.checkpoint_records.proofs.entries.is_taken.Goals as goal

pub returns-then-has_id_before : goal.returns-then-has_id_before
returns-then-has_id_before c = taken_before (λ (entry : Entry). bytes_eq entry.id c.args.id.now) c.args.sessions.now c.args.before.now c.has_id_before.result c.has_id_before.ensures c.if-has_id_before.ensures

pub returns-else-has_id_before : goal.returns-else-has_id_before
returns-else-has_id_before c = taken_here (λ (entry : Entry). bytes_eq entry.id c.args.id.now) c.args.sessions.now c.args.before.now c.has_id.result c.if-has_id_before.ensures c.has_id.ensures
