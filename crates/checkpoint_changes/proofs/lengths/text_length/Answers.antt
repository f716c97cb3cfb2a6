use Rattle.checkpoint_changes.proofs.LengthLaws.{length-text}
use Rattle.checkpoint_changes.proofs.lengths.text_length.Goals as goal

pub returns : goal.returns
returns c = length-text c.args.text.now c.as_slice-count.result.now c.pad.result c.as_slice-count.ensures c.pad.ensures.is
