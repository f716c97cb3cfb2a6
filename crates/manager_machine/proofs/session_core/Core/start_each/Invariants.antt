use Rattle.std.proofs.Common.{◌≡◌, drop}
use Rattle.session_model.specs.Moves.{tried_each}
use Rattle.session_state.specs.Session.{moved_all}
use Rattle.manager_machine.specs.Kept.{cause_for}
use Rattle.manager_machine.proofs.session_core.Core.start_each.Given as goal

abbrev pub invariant-loop-command : goal.invariant-loop-command
invariant-loop-command l = moved_all (tried_each (cause_for l.reason) (drop l.command-index l.command-items)) l.self ≡ moved_all (tried_each (cause_for l.reason) l.commands) l.initial.self
