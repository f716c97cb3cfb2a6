use Rattle.std.proofs.Common.{arith, ◌≡◌, length, ap}
use Rattle.ice_values.specs.Fields.{ErrorFields}
use Rattle.ice_values.proofs.LengthLaws.{length-error_body}
use Rattle.ice_values.proofs.lengths.error_len.Goals as goal

pub returns-then-count-clause-none : goal.returns-then-count-clause-none
returns-then-count-clause-none c = λ e.
    let same : length c.error.inside.values ≡ length c.args.error.now.values = ap (λ (error : ErrorFields). length error.values) c.error.view_is in
    omega (arith, c.len-count.ensures, same, length-error_body e c.args.error.now)

pub returns-clause-is : goal.returns-clause-is
returns-clause-is c = λ e.
    let same : length c.error.inside.values ≡ length c.args.error.now.values = ap (λ (error : ErrorFields). length error.values) c.error.view_is in
    omega (arith, c.len-count.ensures, same, length-error_body e c.args.error.now)
