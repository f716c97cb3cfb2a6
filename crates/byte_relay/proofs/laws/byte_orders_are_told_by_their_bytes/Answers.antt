use Rattle.byte_relay.proofs.Stating.{states_an_order}
use Rattle.byte_relay.proofs.laws.byte_orders_are_told_by_their_bytes.Goals as goal

pub returns : goal.returns
returns c = states_an_order
