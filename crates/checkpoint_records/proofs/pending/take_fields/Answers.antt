use Rattle.checkpoint_records.proofs.PendingLaws.{no_words, no_directory, no_environment, fields_found}
use Rattle.checkpoint_records.proofs.pending.take_fields.Goals as goal

pub returns-in-None : goal.returns-in-None
returns-in-None c = no_words c.args.bytes.now (rw c.in-None.is at c.in_ok-found.ensures)

pub returns-in-None-2 : goal.returns-in-None-2
returns-in-None-2 c = no_directory c.args.bytes.now c.in-Some.found.0 c.in-Some.found.1.now (rw c.in-Some.is at c.in_ok-found.ensures) (rw c.in-None-2.is at c.in_ok-found-2.ensures)

pub returns-in-None-3 : goal.returns-in-None-3
returns-in-None-3 c =
    no_environment c.args.bytes.now c.in-Some.found.0 c.in-Some.found.1.now (rw c.in-Some.is at c.in_ok-found.ensures) c.in-Some-2.found.0 c.in-Some-2.found.1.now (rw c.in-Some-2.is at c.in_ok-found-2.ensures) (rw c.in-None-3.is at c.in_ok-found-3.ensures)

pub returns : goal.returns
returns c =
    fields_found c.args.bytes.now c.in-Some.found.0 c.in-Some.found.1.now (rw c.in-Some.is at c.in_ok-found.ensures) c.in-Some-2.found.0 c.in-Some-2.found.1.now (rw c.in-Some-2.is at c.in_ok-found-2.ensures)
    c.in-Some-3.found.0 c.in-Some-3.found.1.now (rw c.in-Some-3.is at c.in_ok-found-3.ensures)
