-- What the outside of a real program tells that is wrapped: how often its files, its starts and its console failed, and nothing else.
use Rattle.std.specs.Prelude.{None}
use Rattle.sm_world.specs.Outside.{Outside}
use Rattle.program_frame.specs.Untold.{console_outside}
use Rattle.wrapped_files.specs.declared.wrapped.WrappedFiles.{WrappedFiles}

abbrev pub wrapped_outside : WrappedFiles → Outside
wrapped_outside world = record {
  told = None;
  faults = record { disk = world.disk; links = 0; spawner = world.starts; console = (console_outside world.console).faults.console };
  size = 0;
  first = None;
  coming = None;
  input = None;
  files = None;
}
