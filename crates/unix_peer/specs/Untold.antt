-- What a real client's outside tells: how often its connection and files failed, and its console, and nothing else.
use Rattle.std.specs.Prelude.{None}
use Rattle.sm_world.specs.Outside.{Outside}
use Rattle.program_frame.specs.Untold.{console_outside}
use Rattle.unix_peer.specs.declared.peer.UnixPeer.{UnixPeer}

abbrev pub peer_outside : UnixPeer → Outside
peer_outside peer = record {
  told = None;
  faults = record { disk = 0; links = peer.faults; spawner = 0; console = (console_outside peer.console).faults.console };
  size = 0;
  first = None;
  coming = None;
  input = None;
  files = None;
}
