-- What the sockets tell of themselves: how often they failed, and nothing else.
use Rattle.std.specs.Prelude.{None}
use Rattle.sm_world.specs.Outside.{Outside}
use Rattle.unix_links.specs.declared.links.SocketLinks.{SocketLinks}

abbrev pub links_outside : SocketLinks → Outside
links_outside links = record {
  told = None;
  faults = record { disk = 0; links = links.faults; spawner = 0; console = 0 };
  size = 0;
  first = None;
  coming = None;
  input = None;
  files = None;
}
