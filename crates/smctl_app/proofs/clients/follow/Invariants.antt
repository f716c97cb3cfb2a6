use Rattle.smctl_app.specs.Talking.{Adds, AreQuestions}
use Rattle.smctl_app.proofs.TalkLaws.{SeenSo}
use Rattle.smctl_app.proofs.clients.follow.Given as goal

abbrev pub invariant-loop : goal.invariant-loop
invariant-loop g l = record {
  asked : Adds (g.C.Talk.sent l.fn.connection) (g.C.Talk.sent l.connection) AreQuestions;
  seen : Adds (g.C.Talk.seen l.fn.connection) (g.C.Talk.seen l.connection) (SeenSo l.logout.has_begun);
}
