use Rattle.std.proofs.Common.{Some, refl}
use Rattle.client_quirks.specs.declared.side.Side.{Side}
use Rattle.frame_speech.specs.declared.speech.Speech.TheVariants.{Silent}
use Rattle.client_quirks.proofs.Following.{begins}
use Rattle.client_quirks.proofs.side.Side.new.Goals as goal

pub returns : goal.returns
returns c =
    let side : Side = record { cutter = Some c.new.result; speech = Silent } in
    begins c.new.result side c.new.ensures refl refl
