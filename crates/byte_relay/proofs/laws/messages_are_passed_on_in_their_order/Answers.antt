use Rattle.byte_relay.proofs.InOrder.{in_order}
use Rattle.byte_relay.proofs.laws.messages_are_passed_on_in_their_order.Goals as goal

pub returns : goal.returns
returns c = λ to frames. in_order to frames
