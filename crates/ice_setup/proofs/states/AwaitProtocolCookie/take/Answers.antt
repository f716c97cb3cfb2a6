use Rattle.std.proofs.Common.{ap, ◌∙◌}
use Rattle.ice_setup.specs.Setup.{other_cell, named}
use Rattle.ice_setup.specs.declared.errors.Offending.{Offending}
use Rattle.ice_setup.specs.declared.states.AnySetup.TheVariants.{AwaitProtocolCookie as AtProtocolCookie}
use Rattle.ice_setup.proofs.Cells.{other-protocol_cookie}
use Rattle.ice_setup.proofs.states.AwaitProtocolCookie.take.Goals as goal

pub returns-clause-exact : goal.returns-clause-exact
returns-clause-exact c =
    c.take_other.ensures.answer ∙ ap (λ (o : Offending). other_cell (AtProtocolCookie c.args.self) c.args.message o) c.named-offending.ensures
    ∙ other-protocol_cookie c.args.self c.args.message (named c.args.message c.args.sequence) c.in_default.not-AuthenticationReply
