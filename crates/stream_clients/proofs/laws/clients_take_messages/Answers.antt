use Rattle.stream_clients.proofs.Receiving.{takes-message}
use Rattle.stream_clients.proofs.laws.clients_take_messages.Goals as goal

pub returns : goal.returns
returns c = takes-message
