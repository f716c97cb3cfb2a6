use Rattle.std.proofs.Common.{rules}
use Rattle.smd_app.proofs.Wording.{no_patience}
use Rattle.smd_app.proofs.words.read_patience.Goals as goal

pub returns-then-number-eq0 : goal.returns-then-number-eq0
returns-then-number-eq0 c = λ patience is same. no_patience c.args.word.now c.in-Some.number patience (search rules) (search rules) is same
