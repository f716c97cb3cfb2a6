use Rattle.std.proofs.Common.{◌≡◌, drop}
use Rattle.xsmp_messages.specs.declared.message.XsmpMessage.TheVariants.{SaveYourselfPhase2}
use Rattle.manager_machine.specs.Given.{told_each}
use Rattle.manager_machine.proofs.session_core.Core.tell_second.Given as goal

abbrev pub invariant-loop-conn : goal.invariant-loop-conn
invariant-loop-conn l = told_each SaveYourselfPhase2 (drop l.conn-index l.conns) l.self ≡ told_each SaveYourselfPhase2 l.conns l.initial.self
