use Rattle.byte_relay.proofs.WholeRuns.{each_side}
use Rattle.byte_relay.proofs.laws.each_side_gets_its_part.Goals as goal

pub returns : goal.returns
returns c = λ to conn one two front events some pair ends. each_side to conn some one two pair front events ends
