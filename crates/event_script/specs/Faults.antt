-- Why a script has no events.
use Rattle.std.specs.Prelude.{ℕ, List}
use Rattle.event_script.specs.Script.{IsFirstBad}
use Rattle.event_script.specs.declared.script.Taken.{Taken}
use Rattle.event_script.specs.declared.script.ScriptFault.{ScriptFault}
use Rattle.event_script.specs.declared.script.ScriptFault.TheVariants.{BadLine, NoMemory}

abbrev pub IsScriptFault : Taken → List ℕ → ScriptFault → Type 0
IsScriptFault taken script (BadLine n) = IsFirstBad taken script n
IsScriptFault taken script NoMemory = Unit {0}
