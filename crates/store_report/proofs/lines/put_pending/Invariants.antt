use Rattle.std.proofs.Common.{◌≡◌, ◌++◌, take, codes}
use Rattle.std.specs.List.{flat_map}
use Rattle.store_report.specs.Lines.{named_line}
use Rattle.store_report.proofs.lines.put_pending.Given as goal

abbrev pub invariant-loop-command : goal.invariant-loop-command
invariant-loop-command l = l.out ≡ l.fn.out ++ flat_map (λ command. named_line (codes "pending") command.words) (take l.command-index l.pending)
