use Rattle.std.proofs.Common.{◌≡◌, take}
use Rattle.control_lines.specs.Traces.{effects_text}
use Rattle.smrelay_app.proofs.trace.trace_text.Given as goal

abbrev pub invariant-loop-effect : goal.invariant-loop-effect
invariant-loop-effect l = l.out ≡ effects_text (take l.effect-index l.effects)
