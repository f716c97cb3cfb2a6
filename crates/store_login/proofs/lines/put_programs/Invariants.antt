use Rattle.std.proofs.Common.{◌≡◌, ◌++◌, drop}
use Rattle.store_login.specs.Lines.{programs_text}
use Rattle.store_login.proofs.lines.put_programs.Given as goal

abbrev pub invariant-loop-command : goal.invariant-loop-command
invariant-loop-command l = l.out ++ programs_text (drop l.command-index l.commands) ≡ l.initial.out ++ programs_text l.commands
