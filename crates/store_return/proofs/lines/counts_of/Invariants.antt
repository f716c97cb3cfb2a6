use Rattle.std.proofs.Common.{◌≡◌, ◌≤◌, take}
use Rattle.store_return.specs.Lines.{how_many, is_due, is_unkept}
use Rattle.store_return.proofs.lines.counts_of.Given as goal

abbrev pub invariant-loop-entry : goal.invariant-loop-entry
invariant-loop-entry l = record {
  unkept : l.unkept ≡ how_many is_unkept l.present (take l.entry-index l.back);
  due : l.due ≡ how_many is_due l.present (take l.entry-index l.back);
  few_unkept : l.unkept ≤ l.entry-index;
  few_due : l.due ≤ l.entry-index;
}
