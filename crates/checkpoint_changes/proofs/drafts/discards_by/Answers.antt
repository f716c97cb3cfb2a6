use Rattle.std.proofs.Common.{◌∙◌, sym}
use Rattle.checkpoint_changes.proofs.TogetherLaws.{discard_none, discard_some}
use Rattle.checkpoint_changes.proofs.drafts.discards_by.Goals as goal

pub returns-in-Some : goal.returns-in-Some
returns-in-Some c = c.has_words.ensures ∙ sym (discard_some c.args.command.now c.args.entry.now c.in-Some.property.now (sym (rw c.in-Some.is at c.get.ensures)))

pub returns-in-None : goal.returns-in-None
returns-in-None c = sym (discard_none c.args.command.now c.args.entry.now (sym (rw c.in-None.is at c.get.ensures)))
