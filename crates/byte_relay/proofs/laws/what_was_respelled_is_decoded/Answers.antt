use Rattle.byte_relay.proofs.Respelled.{reads_turned, same_length}
use Rattle.byte_relay.proofs.laws.what_was_respelled_is_decoded.Goals as goal

pub returns-clause-read : goal.returns-clause-read
returns-clause-read c = λ e to frame bytes framed fits some. reads_turned e to frame framed fits bytes some

pub returns-clause-length : goal.returns-clause-length
returns-clause-length c = λ e to frame bytes framed fits some. same_length e to frame framed fits bytes some
