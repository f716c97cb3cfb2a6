use Rattle.ice_values.proofs.CellLaws.{slice_bytes}
use Rattle.ice_cookie.proofs.AuthorityLaws.{entry_taken, none_read}
use Rattle.ice_cookie.proofs.reading.take_whole.Goals as goal

pub returns-in-Ok-clause-some : goal.returns-in-Ok-clause-some
returns-in-Ok-clause-some c = entry_taken c.args.bytes.now c.in-Ok.found.0 c.in-Ok.found.1.now (slice_bytes c.args.bytes.now c.type_inv.bytes) c.in-Ok.ensures

pub returns-in-Err-Short-clause-none : goal.returns-in-Err-Short-clause-none
returns-in-Err-Short-clause-none c = none_read c.args.bytes.now (rw c.in-Err-Short.field-0-is at c.in-Err-Short.ensures)
