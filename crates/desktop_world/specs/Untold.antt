-- What a desktop tells of itself: how often each of its devices failed, the size of its store, and nothing else.
use Rattle.std.specs.Prelude.{None}
use Rattle.sm_world.specs.Outside.{Outside}
use Rattle.store_file.specs.Untold.{disk_outside}
use Rattle.unix_links.specs.Untold.{links_outside}
use Rattle.program_spawner.specs.Untold.{spawner_outside}
use Rattle.program_frame.specs.Untold.{console_outside}
use Rattle.desktop_world.specs.declared.world.DesktopWorld.{DesktopWorld}

abbrev pub world_outside : DesktopWorld → Outside
world_outside world = record {
  told = None;
  faults = record {
    disk = (disk_outside world.disk).faults.disk;
    links = (links_outside world.links).faults.links;
    spawner = (spawner_outside world.spawner).faults.spawner;
    console = (console_outside world.console).faults.console;
  };
  size = (disk_outside world.disk).size;
  first = None;
  coming = None;
  input = None;
  files = None;
}
