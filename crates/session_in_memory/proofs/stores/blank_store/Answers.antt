use Rattle.std.proofs.Common.{refl}
use Rattle.session_in_memory.proofs.Blank.{blank_of}
use Rattle.session_in_memory.proofs.stores.blank_store.Goals as goal

pub returns : goal.returns
returns c = rw (c.from_vec.ensures) (blank_of 16777280 c.in_ok-zeros.field-0.items refl c.in_ok-zeros.ensures)
