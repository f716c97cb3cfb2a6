use Rattle.std.proofs.Common.{◌≤◌, ℕ, List, length, subst, sym}
use Rattle.ice_values.specs.Fields.{ErrorFields}
use Rattle.ice_values.specs.declared.numbers.Endian.TheVariants.{Lsb}
use Rattle.ice_values.specs.declared.severity.Severity.TheVariants.{FatalToProtocol}
use Rattle.ice_messages.specs.Messages.{IsTooLong}
use Rattle.ice_messages.specs.declared.message.IceMessage.TheVariants.{Error}
use Rattle.ice_setup.proofs.SaidLaws.{error_said}
use Rattle.ice_setup.proofs.answers.protocol_error.Goals as goal

pub returns-clause-said : goal.returns-clause-said
returns-clause-said c = λ few.
    subst (λ (error : ErrorFields). ¬ (IsTooLong Lsb (Error error))) (sym c.error_of.ensures)
    (error_said FatalToProtocol c.args.class c.args.offending c.in_ok-values.values (subst (λ (values : List ℕ). length values ≤ 65528) (sym c.in_ok-values.ensures.spelled) few))
