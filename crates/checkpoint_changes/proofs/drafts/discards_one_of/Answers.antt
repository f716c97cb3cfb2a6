use Rattle.std.proofs.Common.{◌∙◌, sym}
use Rattle.checkpoint_changes.specs.Together.{discards_by, has_words}
use Rattle.checkpoint_changes.proofs.TogetherLaws.{any_alike, any_nowhere, discard_none, discard_some}
use Rattle.checkpoint_changes.proofs.drafts.discards_one_of.Goals as goal

pub returns-in-Some : goal.returns-in-Some
returns-in-Some c =
    c.holds_words_of.ensures
    ∙ sym (any_alike (λ command. discards_by command c.args.entry.now) (has_words c.in-Some.property.now) c.args.commands.now (λ command. discard_some command c.args.entry.now c.in-Some.property.now (sym (rw c.in-Some.is at c.get.ensures))))

pub returns-in-None : goal.returns-in-None
returns-in-None c = any_nowhere (λ command. discards_by command c.args.entry.now) c.args.commands.now (λ command. discard_none command c.args.entry.now (sym (rw c.in-None.is at c.get.ensures)))
