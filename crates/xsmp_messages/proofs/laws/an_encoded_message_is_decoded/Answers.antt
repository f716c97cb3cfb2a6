use Rattle.xsmp_messages.specs.Messages.{canon}
use Rattle.xsmp_messages.proofs.Dispatch.{decode_again, canon_spells}
use Rattle.xsmp_messages.proofs.laws.an_encoded_message_is_decoded.Goals as goal

pub returns : goal.returns
returns c = λ e opcode message fits. decode_again e opcode (canon e opcode message) message (canon_spells e opcode message fits)
