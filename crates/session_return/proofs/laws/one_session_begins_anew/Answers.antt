use Rattle.session_return.proofs.Beginnings.{anew_empty, anew_keeps, anew_others}
use Rattle.session_return.proofs.laws.one_session_begins_anew.Goals as goal

pub returns : goal.returns
returns c = λ name present p. (anew_keeps name present p, anew_empty name present p, anew_others name present p)
