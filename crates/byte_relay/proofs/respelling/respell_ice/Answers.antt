use Rattle.std.proofs.Common.{subst}
use Rattle.ice_messages.specs.Messages.{IsTooLong}
use Rattle.ice_messages.specs.declared.message.IceMessage.{IceMessage}
use Rattle.byte_relay.proofs.Turned.{ice_not_long}
use Rattle.byte_relay.proofs.respelling.respell_ice.Goals as goal

pub unreachable-requires : goal.unreachable-requires
unreachable-requires c = ice_not_long c.args.endian c.args.to c.in-Ok.message c.args.frame.now c.in-Ok.ensures.found c.requires.within
    (subst (λ (m : IceMessage). IsTooLong c.args.to m) c.turn_ice.ensures (c.encode_ice.ensures.too_long.0 (rw c.in-Err-TooLong.field-0-is at c.in-Err-TooLong.is)))
