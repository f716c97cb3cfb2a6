use Rattle.client_engine.proofs.Driven.{in_parts}
use Rattle.client_engine.proofs.laws.a_piece_comes_in_parts.Goals as goal

pub returns : goal.returns
returns g c = λ unasked talk_of reacts. in_parts unasked talk_of reacts
