use Rattle.std.proofs.Common.{◌++◌, ◌∷◌, [], List, refl, subst, arith, length-append}
use Rattle.owned_lists.specs.declared.commands.Command.{Command}
use Rattle.ice_values.specs.declared.numbers.Endian.TheVariants.{Lsb}
use Rattle.checkpoint_records.specs.Parts.{ArePending}
use Rattle.checkpoint_records.specs.Rules.{command_cells}
use Rattle.checkpoint_records.proofs.FrontLaws.{none_yet, one_more}
use Rattle.checkpoint_records.proofs.PendingLaws.{no_pending}
use Rattle.checkpoint_records.proofs.pending.take_beside.Goals as goal

pub loop-i-init : goal.loop-i-init
loop-i-init c = rw c.new-pending.ensures (none_yet (command_cells Lsb) (ArePending c.args.discards.now) c.args.bytes.now (no_pending c.args.discards.now), refl)

pub loop-i-preserved : goal.loop-i-preserved
loop-i-preserved c =
    let so_far : List Command = c.loop-i.pending in
    rw c.in_ok-push-in-Ok.ensures.ok (
      one_more (command_cells Lsb) (ArePending c.args.discards.now) c.args.bytes.now so_far c.loop-i.rest.now c.in-Ok.command c.in-Ok.after.now c.loop-i.invariant.0 (subst (λ (l : List Command). ArePending c.args.discards.now (l ++ c.in-Ok.command ∷ [])) c.as_slice.ensures c.in-Ok.ensures.next.0) c.in-Ok.ensures.next.1,
      omega (arith, length-append so_far (c.in-Ok.command ∷ []), c.loop-i.invariant.1),
    )
