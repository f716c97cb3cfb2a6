use Rattle.std.proofs.Common.{◌∙◌, sym}
use Rattle.ice_framing.specs.declared.cutting.WholeFrame.{WholeFrame}
use Rattle.client_quirks.proofs.Viewed.{means_nothing, means_by_walk, means_by_none}
use Rattle.client_quirks.proofs.heeding.may_mean.Goals as goal

pub returns-then-not-heeds : goal.returns-then-not-heeds
returns-then-not-heeds c =
    let frame : WholeFrame = record { endian = c.args.endian; bytes = c.args.frame.now } in
    sym (means_nothing c.args.speech frame (c.heeds.ensures c.if-not-heeds.true))

pub returns-in-Some : goal.returns-in-Some
returns-in-Some c =
    let frame : WholeFrame = record { endian = c.args.endian; bytes = c.args.frame.now } in
    c.sets_amended.ensures ∙ sym (means_by_walk c.args.speech frame c.in-Some.walk c.in-Some.ensures)

pub returns-in-None : goal.returns-in-None
returns-in-None c =
    let frame : WholeFrame = record { endian = c.args.endian; bytes = c.args.frame.now } in
    c.may_turn.ensures ∙ sym (means_by_none c.args.speech frame c.in-None.ensures)
