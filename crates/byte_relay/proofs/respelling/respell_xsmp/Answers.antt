use Rattle.std.proofs.Common.{subst, slice_index}
use Rattle.xsmp_messages.specs.Messages.{IsTooLong}
use Rattle.xsmp_messages.specs.declared.message.XsmpMessage.{XsmpMessage}
use Rattle.byte_relay.proofs.Turned.{xsmp_not_long}
use Rattle.byte_relay.proofs.respelling.respell_xsmp.Goals as goal

pub unreachable-requires : goal.unreachable-requires
unreachable-requires c = xsmp_not_long c.args.endian c.args.to (slice_index c.args.frame.now 0) c.in-Ok.message c.args.frame.now c.in-Ok.ensures.found c.requires.within
    (subst (λ (m : XsmpMessage). IsTooLong c.args.to m) c.turn_xsmp.ensures (c.encode_xsmp.ensures.too_long.0 (rw c.in-Err-TooLong.field-0-is at c.in-Err-TooLong.is)))
