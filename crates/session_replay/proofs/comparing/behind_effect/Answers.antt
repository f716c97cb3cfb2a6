use Rattle.std.proofs.Common.{[], ◌∷◌, ◌∙◌, ap}
use Rattle.control_lines.specs.Lines.{lines_of}
use Rattle.session_engine.specs.Doing.{item_of}
use Rattle.session_in_memory.specs.Lines.{run_lines}
use Rattle.session_replay.proofs.ComparingLemmas.{effect_by}
use Rattle.session_replay.proofs.comparing.behind_effect.Goals as goal

pub returns-in-Some : goal.returns-in-Some
returns-in-Some c =
    effect_by (lines_of c.args.text.now) (run_lines (item_of c.args.effect.now)) c.as_slice.result.now c.behind_line.result
    (ap (λ line. line ∷ []) c.as_slice.ensures ∙ (rw c.in-Some.is at c.in_ok-made.ensures.lines))
    c.behind_line.ensures
