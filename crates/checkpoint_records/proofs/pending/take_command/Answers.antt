use Rattle.std.proofs.Common.{◌∙◌, sym, ap}
use Rattle.xsmp_properties.specs.Readers.{in_pairs}
use Rattle.checkpoint_records.proofs.PendingLaws.{no_fields, too_long, bad_fields, command_found}
use Rattle.checkpoint_records.proofs.pending.take_command.Goals as goal

pub returns-in-None : goal.returns-in-None
returns-in-None c = no_fields c.args.bytes.now (rw c.in-None.is at c.in_ok-found.ensures)

pub returns-then-bytes-rest : goal.returns-then-bytes-rest
returns-then-bytes-rest c = too_long c.args.bytes.now c.in-Some.found.0 c.in-Some.found.1.now (rw c.in-Some.is at c.in_ok-found.ensures) c.if-bytes-rest.true

pub returns-then-not-are_of_command : goal.returns-then-not-are_of_command
returns-then-not-are_of_command c = bad_fields c.args.bytes.now c.in-Some.found.0 c.in-Some.found.1.now (rw c.in-Some.is at c.in_ok-found.ensures) (sym c.if-not-are_of_command.ensures)

pub returns : goal.returns
returns c =
    command_found c.args.bytes.now c.in-Some.found.0 c.in-Some.found.1.now (rw c.in-Some.is at c.in_ok-found.ensures) c.in_ok-environment.environment c.if-bytes-rest.false (sym c.if-not-are_of_command.ensures)
    (c.in_ok-environment.ensures ∙ ap in_pairs c.as_slice.ensures)
