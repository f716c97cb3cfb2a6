use Rattle.ice_messages.specs.Messages.{canon}
use Rattle.ice_messages.proofs.Dispatch.{decode_again, canon_spells}
use Rattle.ice_messages.proofs.laws.an_encoded_message_is_decoded.Goals as goal

pub returns : goal.returns
returns c = λ e message fits. decode_again e (canon e message) message (canon_spells e message fits)
