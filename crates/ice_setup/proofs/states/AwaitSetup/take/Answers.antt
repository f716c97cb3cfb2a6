use Rattle.std.proofs.Common.{ap, ◌∙◌}
use Rattle.ice_setup.specs.Setup.{other_cell, named}
use Rattle.ice_setup.specs.declared.errors.Offending.{Offending}
use Rattle.ice_setup.specs.declared.states.AnySetup.TheVariants.{AwaitSetup as AtSetup}
use Rattle.ice_setup.proofs.Cells.{other-setup}
use Rattle.ice_setup.proofs.states.AwaitSetup.take.Goals as goal

pub returns-clause-exact : goal.returns-clause-exact
returns-clause-exact c =
    c.take_other.ensures.answer ∙ ap (λ (o : Offending). other_cell (AtSetup c.args.self) c.args.message o) c.named-offending.ensures
    ∙ other-setup c.args.self c.args.message (named c.args.message c.args.sequence) c.in_default.not-ConnectionSetup
