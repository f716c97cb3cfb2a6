use Rattle.std.proofs.Common.{sym}
use Rattle.checkpoint_changes.proofs.ReadLaws.{all_applied, all_remains, none_left, not_applied, not_cut, one_less, some_left}
use Rattle.checkpoint_changes.proofs.RuleLaws.{change_named, parts_kept}
use Rattle.checkpoint_changes.proofs.reading.apply_all.Goals as goal

pub changed-requires-clause-named : goal.changed-requires-clause-named
changed-requires-clause-named c = change_named c.args.format c.in-Some.taken.0 (rw c.in-Some.is at c.in_ok-taken.ensures).some.0

pub loop-left-init : goal.loop-left-init
loop-left-init c = (all_remains c.args.format c.args.draft.book c.args.bytes.now, c.requires.fits, c.requires.parts)

pub returns-in-None-clause-book : goal.returns-in-None-clause-book
returns-in-None-clause-book c =
    not_cut c.args.format c.args.draft.book c.args.bytes.now c.loop-left.draft.book c.loop-left.left.now c.loop-left.invariant.0 (some_left c.loop-left.left.now c.loop-left-test.ensures) (rw c.in-None.is at c.in_ok-taken.ensures)

pub returns-in-None-2-clause-book : goal.returns-in-None-2-clause-book
returns-in-None-2-clause-book c =
    not_applied c.args.format c.loop-left.left.now c.in-Some.taken.0 c.in-Some.taken.1.now (rw c.in-Some.is at c.in_ok-taken.ensures) c.args.draft.book c.args.bytes.now c.loop-left.draft.book c.loop-left.invariant.0 (sym (rw c.in-None-2.is at c.in_ok-next.ensures.book))

pub loop-left-preserved : goal.loop-left-preserved
loop-left-preserved c = (
  one_less c.args.format c.loop-left.left.now c.in-Some.taken.0 c.in-Some.taken.1.now (rw c.in-Some.is at c.in_ok-taken.ensures) c.args.draft.book c.args.bytes.now c.loop-left.draft.book c.in-Some-2.next.book c.loop-left.invariant.0 (sym (rw c.in-Some-2.is at c.in_ok-next.ensures.book)),
  rw c.in-Some-2.is at c.in_ok-next.ensures.fits,
  parts_kept c.args.format c.loop-left.draft.book c.in-Some.taken.0 c.in-Some-2.next.book c.loop-left.invariant.2 (rw c.in-Some.is at c.in_ok-taken.ensures).some.0 (sym (rw c.in-Some-2.is at c.in_ok-next.ensures.book)),
)

pub returns-clause-book : goal.returns-clause-book
returns-clause-book c = all_applied c.args.format c.args.draft.book c.args.bytes.now c.loop-left.draft.book c.loop-left.left.now c.loop-left.invariant.0 (none_left c.loop-left.left.now c.loop-left-test.ensures)
