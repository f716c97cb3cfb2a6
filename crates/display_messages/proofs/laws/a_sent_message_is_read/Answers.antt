use Rattle.display_messages.proofs.LengthLaws.{messages_arrive}
use Rattle.display_messages.proofs.laws.a_sent_message_is_read.Goals as goal

pub returns : goal.returns
returns c = messages_arrive
