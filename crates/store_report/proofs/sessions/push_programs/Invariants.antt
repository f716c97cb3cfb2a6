use Rattle.std.proofs.Common.{◌≡◌, ◌++◌, map, take}
use Rattle.store_report.specs.Sessions.{program_started}
use Rattle.store_report.proofs.sessions.push_programs.Given as goal

abbrev pub invariant-loop-command : goal.invariant-loop-command
invariant-loop-command l = l.words ≡ l.fn.words ++ map program_started (take l.command-index l.commands)
