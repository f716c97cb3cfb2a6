use Rattle.std.proofs.Common.{refl, sym, arith}
use Rattle.checkpoint_records.proofs.PendingLaws.{pending_more, none_next, twice, still_named}
use Rattle.checkpoint_records.proofs.pending.take_next.Goals as goal

pub returns-then-is_among-clause-stop : goal.returns-then-is_among-clause-stop
returns-then-is_among-clause-stop c =
    (omega arith, (refl, twice c.args.discards.now c.args.before.now c.args.bytes.now c.in-Some.command c.in-Some.rest.now (rw c.in-Some.is at c.in_ok-command.ensures) (sym c.if-is_among.ensures)))

pub returns-then-is_named-clause-stop : goal.returns-then-is_named-clause-stop
returns-then-is_named-clause-stop c =
    (omega arith, (refl, still_named c.args.discards.now c.args.before.now c.args.bytes.now c.in-Some.command c.in-Some.rest.now (rw c.in-Some.is at c.in_ok-command.ensures) (sym c.if-is_named.ensures)))

pub returns-else-is_named-clause-next : goal.returns-else-is_named-clause-next
returns-else-is_named-clause-next c =
    let finds = rw c.in-Some.is at c.in_ok-command.ensures in
    (pending_more c.args.discards.now c.args.before.now c.in-Some.command c.requires finds.some.0 (sym c.if-is_among.ensures) (sym c.if-is_named.ensures), finds.some.1)

pub returns-in-None-clause-stop : goal.returns-in-None-clause-stop
returns-in-None-clause-stop c = (omega arith, (refl, none_next c.args.discards.now c.args.before.now c.args.bytes.now (rw c.in-None.is at c.in_ok-command.ensures)))
