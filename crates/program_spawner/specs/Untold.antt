-- What the spawner tells of itself: how often it failed, and nothing else.
use Rattle.std.specs.Prelude.{None}
use Rattle.sm_world.specs.Outside.{Outside}
use Rattle.program_spawner.specs.declared.spawner.ProgramSpawner.{ProgramSpawner}

abbrev pub spawner_outside : ProgramSpawner → Outside
spawner_outside spawner = record {
  told = None;
  faults = record { disk = 0; links = 0; spawner = spawner.faults; console = 0 };
  size = 0;
  first = None;
  coming = None;
  input = None;
  files = None;
}
