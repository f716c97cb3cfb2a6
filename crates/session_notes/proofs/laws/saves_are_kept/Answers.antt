use Rattle.session_notes.proofs.Settled.{kept-holds}
use Rattle.session_notes.proofs.laws.saves_are_kept.Goals as goal

pub returns : goal.returns
returns c = λ book seen id o s some. kept-holds book seen s o id some
