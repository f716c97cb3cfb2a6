use Rattle.std.proofs.Common.{◌≡◌, drop}
use Rattle.checkpoint_changes.specs.Changes.{session_with}
use Rattle.checkpoint_changes.proofs.applying.session_with.Given as goal

abbrev pub invariant-loop-session : goal.invariant-loop-session
invariant-loop-session l = session_with l.id (drop l.session-index l.sessions) ≡ session_with l.id l.sessions
