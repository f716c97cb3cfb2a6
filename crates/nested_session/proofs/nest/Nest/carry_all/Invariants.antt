use Rattle.std.proofs.Common.{length, List, Option, Ok}
use Rattle.sm_world.specs.declared.effects.Effect.{Effect}
use Rattle.sm_world.specs.declared.events.Event.{Event}
use Rattle.checkpoint_records.specs.declared.records.Book.{Book}
use Rattle.checkpoint_slots.specs.declared.turn.Current.{Current}
use Rattle.session_engine.specs.Machine.{Item}
use Rattle.session_engine.specs.Shown.{IsShown, all_cut}
use Rattle.session_engine.specs.declared.config.Config.{Config}
use Rattle.nested_session.specs.Nesting.{Nested}
use Rattle.nested_session.specs.Standing.{GoesOn, Quiet, SayNoSuccess}
use Rattle.nested_session.specs.Woven.{Woven}
use Rattle.nested_session.proofs.ActLaws.{CarriesOn}
use Rattle.nested_session.proofs.nest.Nest.carry_all.Given as goal

abbrev pub invariant-loop-act : goal.invariant-loop-act
invariant-loop-act g l = record {
  held :
      (config : Config) (opening : Book) (current : Option Current) (base : Option (List Effect)) (events : List Event) (n : Nested) (script : List (Woven Item)) (all : List (Woven Effect)) → SayNoSuccess l.acts → GoesOn config opening current base events (g.W.Told.outside l.fn.world).told l.fn.self n script all
      → CarriesOn config opening current base events (g.W.Told.outside l.fn.world).told (g.W.Told.outside l.world).told l.nest n script l.acts l.left;
  none : SayNoSuccess l.acts → SayNoSuccess l.left;
  shown : IsShown all_cut l.nest.session.engine;
  quiet : Quiet {A = Unit {0}} (g.W.Told.outside l.fn.world) (g.W.Told.outside l.world) (Ok tt);
}

abbrev pub decreases-loop-act : goal.decreases-loop-act
decreases-loop-act g l = length l.left
