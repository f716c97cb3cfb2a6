use Rattle.checkpoint_records.specs.declared.head.Format.TheVariants.{Single}
use Rattle.checkpoint_changes.proofs.TakeLaws.{alone_found, no_put, none_alone, put_found}
use Rattle.checkpoint_changes.proofs.taking.take_put_alone.Goals as goal

pub returns-in_ok-default_name-in-Some : goal.returns-in_ok-default_name-in-Some
returns-in_ok-default_name-in-Some c =
    put_found Single c.args.bytes.now (c.in_ok-default_name-in-Some.field-0, c.in-Some.entry) c.in-Some.rest.now
    (alone_found c.args.bytes.now c.in_ok-default_name-in-Some.field-0 c.in-Some.entry c.in-Some.rest.now c.in_ok-default_name-in-Some.ensures (rw c.in-Some.is at c.in_ok-entry.ensures))

pub returns-in-None : goal.returns-in-None
returns-in-None c = no_put Single c.args.bytes.now (none_alone c.args.bytes.now (rw c.in-None.is at c.in_ok-entry.ensures))
