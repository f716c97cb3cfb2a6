use Rattle.std.proofs.Common.{◌≡◌, length, None}
use Rattle.client_engine.specs.Driving.{Run}
use Rattle.client_callbacks.specs.Doing.{IsRun, desk}
use Rattle.client_callbacks.specs.Script.{Keeper}
use Rattle.client_callbacks.proofs.RunLaws.{Under}
use Rattle.client_callbacks.proofs.joiner.Joiner.follow.Given as goal

abbrev pub invariant-loop : goal.invariant-loop
invariant-loop g l = record {
  under : (run : Run Keeper) → IsRun run l.fn.progress → l.fn.progress.ending ≡ None → Under g.S.Saves.answers g.D.Dies.gives g.C.Cancels.hears (desk (g.P.Told.outside l.fn.peer) l.fn.progress.lines l.fn.self) (desk (g.P.Told.outside l.peer) l.progress.lines l.self) run l.counter l.progress;
  room : length l.room ≡ 4096;
}
