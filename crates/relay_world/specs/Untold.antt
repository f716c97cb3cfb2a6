-- What the outside of a relay tells of itself: how often each of its devices failed, and nothing else.
use Rattle.std.specs.Prelude.{None}
use Rattle.sm_world.specs.Outside.{Outside}
use Rattle.program_frame.specs.Untold.{console_outside}
use Rattle.relay_world.specs.declared.links.PairLinks.{PairLinks}
use Rattle.relay_world.specs.declared.world.RelayWorld.{RelayWorld}

abbrev pub links_outside : PairLinks → Outside
links_outside links = record {
  told = None;
  faults = record { disk = 0; links = links.faults; spawner = 0; console = 0 };
  size = 0;
  first = None;
  coming = None;
  input = None;
  files = None;
}

abbrev pub world_outside : RelayWorld → Outside
world_outside world = record {
  told = None;
  faults = record {
    disk = 0;
    links = (links_outside world.links).faults.links;
    spawner = 0;
    console = (console_outside world.console).faults.console;
  };
  size = 0;
  first = None;
  coming = None;
  input = None;
  files = None;
}
