use Rattle.std.proofs.Common.{refl}
use Rattle.frame_speech.specs.declared.values.ValueWalk.{ValueWalk}
use Rattle.frame_speech.proofs.Walked.{values_walked, no_values_shown}
use Rattle.frame_speech.proofs.values.ValueWalk.of.Goals as goal

pub returns-in-Some : goal.returns-in-Some
returns-in-Some c =
    let walk : ValueWalk = record { endian = c.args.endian; count = c.in-Some.count; bytes = c.in-Some.bytes } in
    values_walked c.args.endian c.args.view.now walk refl c.in-Some.ensures

pub returns-in-None : goal.returns-in-None
returns-in-None c =
    let walk : ValueWalk = record { endian = c.args.endian; count = 0; bytes = c.args.view.now.values } in
    no_values_shown c.args.endian c.args.view.now walk c.in-None.ensures
