use Rattle.byte_relay.proofs.Respelled.{is_unspelled}
use Rattle.byte_relay.proofs.laws.unspelled_frames_are_refused.Goals as goal

pub returns : goal.returns
returns c = λ e to frame framed fits. is_unspelled e to frame framed fits
