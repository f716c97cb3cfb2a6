use Rattle.session_notes.proofs.Settled.{is-owed}
use Rattle.session_notes.proofs.laws.named_is_not_lost.Goals as goal

pub returns : goal.returns
returns c = λ book written seen command s e. (is-owed book seen _ s).2 command e
