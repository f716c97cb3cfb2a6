use Rattle.client_engine.proofs.Driven.{deaf_parts}
use Rattle.client_engine.proofs.laws.one_who_stopped_does_nothing.Goals as goal

pub returns : goal.returns
returns g c = λ unasked talk_of reacts. deaf_parts unasked talk_of reacts
