use Rattle.std.proofs.Common.{◌≡◌, take}
use Rattle.checkpoint_slots.specs.Turns.{opened_in}
use Rattle.session_engine.specs.Doing.{items}
use Rattle.smd_app.specs.Summaries.{came_in, sent_in}
use Rattle.smd_app.proofs.summary.tally_of.Given as goal

abbrev pub invariant-loop-effect : goal.invariant-loop-effect
invariant-loop-effect l = record {
  events : l.tally.events ≡ came_in (items (take l.effect-index l.effects));
  bytes : l.tally.bytes ≡ sent_in (items (take l.effect-index l.effects));
  commits : l.tally.commits ≡ opened_in (take l.effect-index l.effects);
}
