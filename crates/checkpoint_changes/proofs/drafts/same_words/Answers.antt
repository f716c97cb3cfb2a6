use Rattle.checkpoint_changes.proofs.TogetherLaws.{ends_differ}
use Rattle.checkpoint_changes.proofs.drafts.same_words.Goals as goal

pub returns-then-last_byte : goal.returns-then-last_byte
returns-then-last_byte c = ends_differ c.args.first.now c.args.second.now c.last_byte.result c.last_byte-2.result c.last_byte.ensures c.last_byte-2.ensures c.if-last_byte.true
