use Rattle.std.proofs.Common.{◌≡◌, ◌∙◌, false, sym, true}
use Rattle.std.specs.Prelude.{Some}
use Rattle.checkpoint_changes.specs.Taking.{AppliesAll}
use Rattle.checkpoint_changes.proofs.ReadLaws.{none_left, not_by_rules, nothing_changed}
use Rattle.checkpoint_changes.proofs.RuleLaws.{parts_of}
use Rattle.checkpoint_changes.proofs.TogetherLaws.{fit_of}
use Rattle.checkpoint_changes.proofs.reading.take_amendment.Goals as goal

pub returns-then-is_empty : goal.returns-then-is_empty
returns-then-is_empty c =
    nothing_changed c.args.format c.args.book c.args.bytes.now c.in-Some.changes.now c.in-Some.rest.now c.in-Some.ensures (none_left c.in-Some.changes.now c.if-is_empty.ensures) c.requires.rules c.requires.epoch

pub apply_all-requires-clause-parts : goal.apply_all-requires-clause-parts
apply_all-requires-clause-parts c = parts_of c.args.book c.requires.rules c.requires.chosen c.requires.epoch

pub apply_all-requires-clause-fits : goal.apply_all-requires-clause-fits
apply_all-requires-clause-fits c = λ t. rw c.new.ensures (fit_of c.args.book c.requires.rules)

pub draft_keeps_rules-requires-clause-parts : goal.draft_keeps_rules-requires-clause-parts
draft_keeps_rules-requires-clause-parts c = rw c.in-Some-2.is at c.in_ok-next.ensures.parts

pub returns : goal.returns
returns c =
    let all : AppliesAll c.args.format c.args.book c.in-Some.changes.now (Some c.in-Some-2.next.book) = rw c.in-Some-2.is at c.in_ok-next.ensures.book in
    not_by_rules c.args.format c.args.book c.args.bytes.now c.in-Some.changes.now c.in-Some.rest.now c.in-Some-2.next.book c.in-Some.ensures all
    (λ k. let t : true ≡ false = sym (c.draft_keeps_rules.ensures.1 k) ∙ c.if-draft_keeps_rules.false in absurd cc)
