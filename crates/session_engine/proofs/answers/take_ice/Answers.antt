use Rattle.std.proofs.Common.{rules, ◌≡◌, Err, refl, ◌∙◌}
use Rattle.ice_values.specs.declared.refusals.DecodeRefusal.TheVariants.{BadValue}
use Rattle.ice_messages.specs.Reading.{decode_at}
use Rattle.ice_setup.proofs.SaidLaws.{spelled_fits}
use Rattle.session_engine.proofs.answers.take_ice.Goals as goal

pub returns-in-Ok-clause-said : goal.returns-in-Ok-clause-said
returns-in-Ok-clause-said c = c.take_message.ensures.said c.args.endian (spelled_fits c.args.endian c.in-Ok.message c.args.frame.now c.in-Ok.ensures.found c.requires.within)

pub returns-in_ok-values-in-Err-BadValue-clause-outcome : goal.returns-in_ok-values-in-Err-BadValue-clause-outcome
returns-in_ok-values-in-Err-BadValue-clause-outcome c =
    let is : decode_at c.args.endian c.args.frame.now ≡ Err (BadValue c.in-Err-BadValue.at c.in-Err-BadValue.field-0-1) = search rules in
    c.refuse-in-Err-BadValue.ensures.outcome ∙ rw (is, c.named-offending.ensures, c.in_ok-values-in-Err-BadValue.ensures.spelled) refl
