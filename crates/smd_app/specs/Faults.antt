-- Why a script has no events.
use Rattle.std.specs.Prelude.{ℕ, List}
use Rattle.smd_app.specs.Script.{IsFirstBad}
use Rattle.smd_app.specs.declared.script.ScriptFault.{ScriptFault}
use Rattle.smd_app.specs.declared.script.ScriptFault.TheVariants.{BadLine, NoMemory}

abbrev pub IsScriptFault : List ℕ → ScriptFault → Type 0
IsScriptFault script (BadLine n) = IsFirstBad script n
IsScriptFault script NoMemory = Unit {0}
