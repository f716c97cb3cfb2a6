-- What a world around another tells of itself: what the inner one tells, but for the effects and the events, which aren't the inner one's, and for how often something wasn't started, which it counts itself, since it starts programs besides.
use Rattle.std.specs.Prelude.{ℕ, None}
use Rattle.sm_world.specs.Outside.{Outside}

abbrev pub around : ℕ → Outside → Outside
around unstarted inner = record {
  told = None;
  faults = record {
    disk = inner.faults.disk;
    links = inner.faults.links;
    spawner = unstarted;
    console = inner.faults.console;
  };
  size = inner.size;
  first = None;
  coming = None;
  input = None;
  files = inner.files;
}
