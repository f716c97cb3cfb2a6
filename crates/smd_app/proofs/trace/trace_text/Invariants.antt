use Rattle.std.proofs.Common.{◌≡◌, ◌++◌, take}
use Rattle.session_engine.specs.Doing.{items}
use Rattle.session_in_memory.specs.Lines.{text}
use Rattle.smd_app.specs.Trace.{patience_text}
use Rattle.smd_app.proofs.trace.trace_text.Given as goal

abbrev pub invariant-loop-effect : goal.invariant-loop-effect
invariant-loop-effect l = l.out ≡ patience_text l.patience ++ text (items (take l.effect-index l.effects))
