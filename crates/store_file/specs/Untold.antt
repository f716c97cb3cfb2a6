-- What the store's file tells of itself: its size, how often it failed, and nothing else.
use Rattle.std.specs.Prelude.{None}
use Rattle.sm_world.specs.Outside.{Outside}
use Rattle.store_file.specs.declared.disk.FileDisk.{FileDisk}

abbrev pub disk_outside : FileDisk → Outside
disk_outside disk = record {
  told = None;
  faults = record { disk = disk.faults; links = 0; spawner = 0; console = 0 };
  size = disk.size;
  first = None;
  coming = None;
  input = None;
  files = None;
}
