use Rattle.byte_relay.proofs.OneSide.{one_side}
use Rattle.byte_relay.proofs.laws.one_side_gets_what_comes_from_the_other.Goals as goal

pub returns : goal.returns
returns c = λ to conn ls events some is live one two. one_side to conn some ls events is live one two
