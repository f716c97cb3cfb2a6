use Rattle.frame_speech.proofs.Alone.{one_alone}
use Rattle.frame_speech.proofs.passing.is_alone.Goals as goal

pub returns-in-Some-clause-comes : goal.returns-in-Some-clause-comes
returns-in-Some-clause-comes c = λ all. one_alone c.args.endian c.args.bytes.now c.in-Some.len c.in-Some.ensures.front all
