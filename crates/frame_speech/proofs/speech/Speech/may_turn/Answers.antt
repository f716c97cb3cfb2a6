use Rattle.std.proofs.Common.{◌≡◌, ◌∙◌, sym, true, false}
use Rattle.std.specs.Prelude.{◌&&◌, not}
use Rattle.ice_framing.specs.declared.cutting.WholeFrame.{WholeFrame}
use Rattle.frame_speech.proofs.Walked.{turns_by_walk, turns_so, says_not}
use Rattle.frame_speech.proofs.speech.Speech.may_turn.Goals as goal

pub returns-then-not-may_say : goal.returns-then-not-may_say
returns-then-not-may_say c =
    let frame : WholeFrame = record { endian = c.args.endian; bytes = c.args.frame.now } in
    sym (says_not c.args.self frame (sym (c.may_say.ensures c.args.endian) ∙ c.if-not-may_say.true))

pub returns-in-Some : goal.returns-in-Some
returns-in-Some c =
    let frame : WholeFrame = record { endian = c.args.endian; bytes = c.args.frame.now } in
    sym (turns_by_walk c.args.self frame c.in-Some.field-0 c.in-Some.ensures)

pub returns-in-None : goal.returns-in-None
returns-in-None c =
    let frame : WholeFrame = record { endian = c.args.endian; bytes = c.args.frame.now } in
    sym (turns_so c.args.self frame (sym (c.may_say.ensures c.args.endian) ∙ c.if-not-may_say.false) c.in-None.ensures)
