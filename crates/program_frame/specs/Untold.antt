-- What the console of a real program tells: how often it failed, and nothing else.
use Rattle.std.specs.Prelude.{ℕ, ◌≤◌, None}
use Rattle.sm_world.specs.Outside.{Outside, Rose}
use Rattle.program_frame.specs.declared.console.StandardConsole.{StandardConsole}

-- one more fault was counted
pub record CountsFault (before after : ℕ) : Type 0 where
  pub rose : Rose before after
  pub not_fallen : before ≤ after

abbrev pub console_outside : StandardConsole → Outside
console_outside console = record {
  told = None;
  faults = record { disk = 0; links = 0; spawner = 0; console = console.faults };
  size = 0;
  first = None;
  coming = None;
  input = None;
  files = None;
}
