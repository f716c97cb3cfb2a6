use Rattle.std.proofs.Common.{◌++◌, ◌∷◌, ◌∙◌, [], None, Some, sym}
use Rattle.checkpoint_changes.specs.Changes.{IsChange, change_cells}
use Rattle.checkpoint_changes.specs.Taking.{TakesAmendment}
use Rattle.checkpoint_changes.proofs.ReadLaws.{amended_chosen, follow_more, none_yet, read_to, read_whole}
use Rattle.checkpoint_changes.proofs.reading.read_on.Goals as goal

pub loop-alloc-init : goal.loop-alloc-init
loop-alloc-init c = ([], c.requires.rules, c.requires.chosen, c.requires.epoch, none_yet (change_cells c.args.format) (IsChange c.args.format) c.args.first c.args.bytes.now)

pub loop-alloc-preserved : goal.loop-alloc-preserved
loop-alloc-preserved c =
    let all : TakesAmendment c.args.format c.loop-alloc.book c.loop-alloc.left.now (Some (c.in-Some.next, c.in-Some.rest.now)) = rw c.in-Some.is at c.in_ok-next.ensures in
    let t = all.some in
    (c.loop-alloc.invariant.0 ++ t.0 ∷ [], t.1.rules, amended_chosen c.args.format c.loop-alloc.book t.0 c.in-Some.next t.1 c.loop-alloc.invariant.2, t.1.epoch, follow_more (change_cells c.args.format) (IsChange c.args.format) c.args.first c.args.bytes.now c.loop-alloc.invariant.0 c.loop-alloc.book c.loop-alloc.left.now t.0 c.in-Some.next c.in-Some.rest.now c.loop-alloc.invariant.4 t.1 t.2)

pub returns-in-None-clause-damaged : goal.returns-in-None-clause-damaged
returns-in-None-clause-damaged c =
    let all : TakesAmendment c.args.format c.loop-alloc.book c.loop-alloc.left.now None = rw c.in-None.is at c.in_ok-next.ensures in
    read_to (change_cells c.args.format) (IsChange c.args.format) c.args.first c.args.bytes.now c.loop-alloc.invariant.0 c.loop-alloc.book c.loop-alloc.left.now c.loop-alloc.invariant.4 (sym c.is_at_end.ensures ∙ c.loop-alloc-test.true) all.none

pub returns-clause-book : goal.returns-clause-book
returns-clause-book c =
    read_whole (change_cells c.args.format) (IsChange c.args.format) c.args.first c.args.bytes.now c.loop-alloc.invariant.0 c.loop-alloc.book c.loop-alloc.left.now c.loop-alloc.invariant.4 (sym c.is_at_end.ensures ∙ c.loop-alloc-test.false)
