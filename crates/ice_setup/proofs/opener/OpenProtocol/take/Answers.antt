use Rattle.std.proofs.Common.{ap, ◌∙◌}
use Rattle.ice_setup.specs.Opener.{other_cell}
use Rattle.ice_setup.specs.Setup.{named}
use Rattle.ice_setup.specs.declared.errors.Offending.{Offending}
use Rattle.ice_setup.specs.declared.opener.AnyOpener.TheVariants.{OpenProtocol as AtProtocol}
use Rattle.ice_setup.proofs.OpenerCells.{other-opening_protocol}
use Rattle.ice_setup.proofs.opener.OpenProtocol.take.Goals as goal

pub returns-clause-exact : goal.returns-clause-exact
returns-clause-exact c =
    c.take_other.ensures.answer ∙ ap (λ (o : Offending). other_cell (AtProtocol c.args.self) c.args.message o) c.named-offending.ensures
    ∙ other-opening_protocol c.args.self c.args.message (named c.args.message c.args.sequence) c.in_default.not-AuthenticationRequired c.in_default.not-ProtocolReply
