use Rattle.std.proofs.Common.{Ok}
use Rattle.checkpoint_records.proofs.BookLaws.{stands_for_one}
use Rattle.checkpoint_records.proofs.RefusalLaws.{exactly_refused}
use Rattle.checkpoint_records.proofs.reading.read_book.Goals as goal

pub returns-in-Ok-clause-exact : goal.returns-in-Ok-clause-exact
returns-in-Ok-clause-exact c = λ answer stands. stands_for_one c.args.bytes.now answer (Ok c.in-Ok.stored.book) stands (c.in-Ok.stored.format, c.in-Ok.ensures.book)

pub returns-in-Err-clause-exact : goal.returns-in-Err-clause-exact
returns-in-Err-clause-exact c = λ answer stands. exactly_refused c.args.bytes.now answer c.in-Err.refusal stands c.in-Err.ensures.damaged
