use Rattle.std.proofs.Common.{◌≡◌, [], ◌∷◌, ◌++◌, sym, ◌∙◌, ap, subst}
use Rattle.ice_values.specs.declared.numbers.Endian.TheVariants.{Lsb}
use Rattle.xsmp_messages.specs.Messages.{IsTooLong}
use Rattle.xsmp_messages.specs.declared.message.XsmpMessage.{XsmpMessage}
use Rattle.client_engine.specs.Messages.{AreShort}
use Rattle.client_engine.specs.declared.hearing.Heard.{Heard}
use Rattle.protocol_messages.specs.declared.message.Message.TheVariants.{Xsmp}
use Rattle.client_engine.proofs.Short.{short-previous, short_more}
use Rattle.client_engine.proofs.opening.open_at.Goals as goal

pub returns-in_ok-push-in-Joined-clause-said : goal.returns-in_ok-push-in-Joined-clause-said
returns-in_ok-push-in-Joined-clause-said c =
    let registers : XsmpMessage = c.in_ok-client-in-Joined.message in
    let all : c.says.result.said ≡ c.in_ok-said.said ++ Xsmp registers ∷ [] = ap (λ (h : Heard). h.said) c.says.ensures ∙ c.in_ok-push-in-Joined.ensures.ok in
    let short : ¬ (IsTooLong Lsb registers) = subst (λ (m : XsmpMessage). ¬ (IsTooLong Lsb m)) (sym c.in_ok-client-in-Joined.ensures.message) (short-previous c.args.previous c.requires.short) in
    subst AreShort (sym all) (short_more c.in_ok-said.said (Xsmp registers) c.in_ok-said.ensures.short short)
