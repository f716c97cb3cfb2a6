use Rattle.display_place.proofs.EntryLaws.{entry_shorter}
use Rattle.display_place.proofs.authority.next_entry.Goals as goal

pub returns-in-Ok-clause-shorter : goal.returns-in-Ok-clause-shorter
returns-in-Ok-clause-shorter c = entry_shorter c.args.bytes.now c.in-Ok.found.0 c.in-Ok.found.1.now c.in-Ok.ensures
