use Rattle.std.proofs.Common.{◌≡◌, ◌++◌, take, drop}
use Rattle.session_model.specs.Waits.{with_request}
use Rattle.session_rounds.proofs.waiting.replace.Given as goal

abbrev pub invariant-loop-wait : goal.invariant-loop-wait
invariant-loop-wait l = record {
  kept : l.wait-items ≡ l.initial.wait-items;
  placed : take l.wait-index l.wait-items ++ with_request l.conn l.request (drop l.wait-index l.wait-items) ≡ with_request l.conn l.request l.initial.wait-items;
}
