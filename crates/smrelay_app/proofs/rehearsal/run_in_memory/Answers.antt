use Rattle.sm_world.specs.Worlds.{steady_outside}
use Rattle.smrelay_app.proofs.Rehearsing.{IsFresh, finished_run, spent_turns}
use Rattle.smrelay_app.proofs.rehearsal.run_in_memory.Goals as goal
use Rattle.smrelay_app.proofs.rehearsal.run_in_memory.Goals.{in-Ok, in-Err-Spent}

pub returns : goal.returns
returns c =
    let old = steady_outside c.in_ok-world.world in
    let fresh : IsFresh old c.args.events = record { told = c.in_ok-world.ensures.told; coming = c.in_ok-world.ensures.coming } in
    elim c.match-serve_relay.branch [
      | in-Ok w ↦ rw w.finished-is (finished_run c.args.to c.args.turns old c.serve_relay.new.world c.args.events c.requires.endless fresh w.in-Ok.ensures.relays)
      | in-Err-Spent w ↦ rw w.finished-is (spent_turns c.args.to c.args.turns old c.serve_relay.new.world c.args.events fresh (rw w.in-Err-Spent.field-0-is at w.in-Err-Spent.ensures.relays))
    ]
