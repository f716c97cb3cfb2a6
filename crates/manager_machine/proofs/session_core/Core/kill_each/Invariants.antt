use Rattle.std.proofs.Common.{◌≡◌, drop}
use Rattle.xsmp_messages.specs.declared.message.XsmpMessage.TheVariants.{Die}
use Rattle.session_model.specs.Moves.{gave_each}
use Rattle.session_state.specs.Session.{moved_all}
use Rattle.manager_machine.proofs.session_core.Core.kill_each.Given as goal

abbrev pub invariant-loop-conn : goal.invariant-loop-conn
invariant-loop-conn l = moved_all (gave_each Die (drop l.conn-index l.conns)) l.self ≡ moved_all (gave_each Die l.conns) l.initial.self
