use Rattle.std.proofs.Common.{◌∙◌, sym}
use Rattle.checkpoint_changes.proofs.EachLaws.{other_in, own_in}
use Rattle.checkpoint_changes.proofs.differences.entries_in.Goals as goal

pub returns-then-eq : goal.returns-then-eq
returns-then-eq c =
    own_in c.args.book.now c.args.name.now c.as_slice.result.now c.as_slice-then-eq.result.now c.requires c.as_slice.ensures c.as_slice-then-eq.ensures (sym c.eq.ensures ∙ c.if-eq.true)

pub returns : goal.returns
returns c =
    other_in c.args.book.now c.args.name.now c.as_slice.result.now c.entries_among.result.now c.as_slice-2.result.now c.as_slice.ensures c.as_slice-2.ensures (sym c.eq.ensures ∙ c.if-eq.false) c.entries_among.ensures
