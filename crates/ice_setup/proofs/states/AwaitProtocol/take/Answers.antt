use Rattle.std.proofs.Common.{ap, subst, ◌∙◌}
use Rattle.ice_messages.specs.declared.message.IceMessage.{IceMessage}
use Rattle.ice_setup.specs.Setup.{other_cell, named, HasFittingBody}
use Rattle.ice_setup.specs.declared.errors.Offending.{Offending}
use Rattle.ice_setup.specs.declared.states.AnySetup.TheVariants.{AwaitProtocol as AtProtocol}
use Rattle.ice_setup.proofs.Cells.{other-protocol}
use Rattle.ice_setup.proofs.SaidLaws.{protocol_fits}
use Rattle.ice_setup.proofs.states.AwaitProtocol.take.Goals as goal

pub returns-clause-exact : goal.returns-clause-exact
returns-clause-exact c =
    c.take_other.ensures.answer ∙ ap (λ (o : Offending). other_cell (AtProtocol c.args.self) c.args.message o) c.named-offending.ensures
    ∙ other-protocol c.args.self c.args.message (named c.args.message c.args.sequence) c.in_default.not-ProtocolSetup

pub returns-in-ProtocolSetup-clause-said : goal.returns-in-ProtocolSetup-clause-said
returns-in-ProtocolSetup-clause-said c = λ e fits.
    c.take_setup.ensures.said
    (protocol_fits e c.in-ProtocolSetup.opcode c.in-ProtocolSetup.must c.in-ProtocolSetup.protocol c.in-ProtocolSetup.vendor c.in-ProtocolSetup.release c.in-ProtocolSetup.names c.in-ProtocolSetup.versions
    (subst (λ (m : IceMessage). HasFittingBody e m) c.in-ProtocolSetup.is fits))
