use Rattle.std.proofs.Common.{rules, subst, sym, if◌then◌else◌}
use Rattle.ice_values.specs.Fields.{ErrorFields}
use Rattle.ice_values.specs.declared.numbers.Endian.TheVariants.{Lsb}
use Rattle.ice_values.specs.declared.severity.Severity.TheVariants.{CanContinue, FatalToConnection}
use Rattle.ice_messages.specs.Messages.{IsTooLong}
use Rattle.ice_messages.specs.declared.message.IceMessage.TheVariants.{Error}
use Rattle.ice_setup.specs.Setup.{connected}
use Rattle.ice_setup.proofs.SaidLaws.{error_said}
use Rattle.ice_setup.proofs.others.refusal.Goals as goal

pub returns-clause-error : goal.returns-clause-error
returns-clause-error c = search rules

pub returns-clause-said : goal.returns-clause-said
returns-clause-said c =
    subst (λ (error : ErrorFields). ¬ (IsTooLong Lsb (Error error))) (sym (returns-clause-error c))
    (error_said (if connected c.args.state.now then CanContinue else FatalToConnection) c.args.class c.args.offending c.args.values c.requires.few)
