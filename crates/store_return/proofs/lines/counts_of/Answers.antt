use Rattle.store_return.specs.Lines.{is_due, is_unkept}
use Rattle.store_return.proofs.Counted.{all_counted}
use Rattle.store_return.proofs.lines.counts_of.Goals as goal

pub returns-clause-unkept : goal.returns-clause-unkept
returns-clause-unkept c = all_counted is_unkept c.args.present.now c.args.back.now c.loop-entry.entry-index c.loop-entry.unkept c.loop-entry-test.false c.loop-entry.invariant.unkept

pub returns-clause-due : goal.returns-clause-due
returns-clause-due c = all_counted is_due c.args.present.now c.args.back.now c.loop-entry.entry-index c.loop-entry.due c.loop-entry-test.false c.loop-entry.invariant.due
