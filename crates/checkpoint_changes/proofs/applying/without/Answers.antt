use Rattle.std.proofs.Common.{◌∙◌, sym}
use Rattle.checkpoint_changes.proofs.ApplyLaws.{found_without, none_without}
use Rattle.checkpoint_changes.proofs.applying.without.Goals as goal

pub returns-in_err-place : goal.returns-in_err-place
returns-in_err-place c = c.from_residual.ensures ∙ sym (none_without c.args.id.now c.as_slice.result.now c.args.entries c.as_slice.ensures c.in_err-place.ensures)

pub returns : goal.returns
returns c =
    found_without c.args.id.now c.as_slice.result.now c.args.entries c.into_vec-items.result.items c.remove.new.self.items c.from_vec.result c.in_ok-place.place
    c.as_slice.ensures c.into_vec-items.ensures c.remove.ensures.items c.from_vec.ensures c.in_ok-place.ensures
