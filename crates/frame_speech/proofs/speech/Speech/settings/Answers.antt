use Rattle.std.proofs.Common.{◌≡◌, ◌∙◌, sym, true, false}
use Rattle.ice_framing.specs.declared.cutting.WholeFrame.{WholeFrame}
use Rattle.frame_speech.proofs.Walked.{said, unsaid}
use Rattle.frame_speech.proofs.speech.Speech.settings.Goals as goal

pub returns-then-says : goal.returns-then-says
returns-then-says c =
    let frame : WholeFrame = record { endian = c.args.endian; bytes = c.args.frame.now } in
    said c.args.self frame c.walk_body.result (sym c.says.ensures ∙ c.if-says.true) c.walk_body.ensures

pub returns-else-says : goal.returns-else-says
returns-else-says c =
    let frame : WholeFrame = record { endian = c.args.endian; bytes = c.args.frame.now } in
    unsaid c.args.self frame (sym c.says.ensures ∙ c.if-says.false)
