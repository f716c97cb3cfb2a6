use Rattle.session_notes.proofs.Settled.{one-has}
use Rattle.session_notes.proofs.laws.one_has_the_token.Goals as goal

pub returns : goal.returns
returns c = λ book seen x y s. one-has book seen s x y
