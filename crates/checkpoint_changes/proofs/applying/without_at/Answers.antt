use Rattle.checkpoint_changes.proofs.ApplyLaws.{past_end, within}
use Rattle.checkpoint_changes.proofs.applying.without_at.Goals as goal

pub returns-then-place-as_slice : goal.returns-then-place-as_slice
returns-then-place-as_slice c = past_end c.args.place c.as_slice.result.now c.args.commands c.as_slice.ensures c.if-place-as_slice.true

pub returns : goal.returns
returns c =
    within c.args.place c.as_slice.result.now c.args.commands c.into_vec-items.result.items c.remove.new.self.items c.from_vec.result
    c.as_slice.ensures c.into_vec-items.ensures c.remove.ensures.items c.from_vec.ensures c.if-place-as_slice.false
