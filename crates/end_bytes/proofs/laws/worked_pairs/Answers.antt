use Rattle.end_bytes.proofs.Computed.{a-client-registers, a-client-saves, a-connection-is-greeted}
use Rattle.end_bytes.proofs.laws.worked_pairs.Goals as goal

pub returns : goal.returns
returns c = record { greeted = a-connection-is-greeted; registers = a-client-registers; saves = a-client-saves }
