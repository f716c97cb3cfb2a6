use Rattle.std.proofs.Common.{◌≡◌, ◌++◌, take}
use Rattle.std.specs.List.{flat_map}
use Rattle.store_report.specs.Lines.{other_lines}
use Rattle.store_report.proofs.lines.put_others.Given as goal

abbrev pub invariant-loop-session : goal.invariant-loop-session
invariant-loop-session l = l.out ≡ l.fn.out ++ flat_map other_lines (take l.session-index l.others)
