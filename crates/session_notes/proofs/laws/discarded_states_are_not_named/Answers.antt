use Rattle.session_notes.proofs.Settled.{discards-hold, none-named-by_rules}
use Rattle.session_notes.proofs.laws.discarded_states_are_not_named.Goals as goal

pub returns : goal.returns
returns c = λ book seen command k s e. discards-hold book seen s (none-named-by_rules book k) command e
