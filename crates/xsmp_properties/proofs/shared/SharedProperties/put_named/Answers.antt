use Rattle.std.proofs.Common.{◌≡◌, ap, sym, subst, ◌∙◌, length, arith}
use Rattle.std.specs.Rc.{rc_value}
use Rattle.xsmp_properties.specs.Named.{shown_from}
use Rattle.xsmp_properties.specs.Tables.{set_all, AreNamesDistinct}
use Rattle.xsmp_properties.proofs.ShownLaws.{none_hidden}
use Rattle.xsmp_properties.proofs.shared.SharedProperties.put_named.Goals as goal

pub invariant_of-self : goal.invariant_of-self
invariant_of-self c =
    let kept : c.put_named.new.self ≡ rc_value c.self.inside.named = c.in_err-put_named.ensures.err ∙ c.in-Some.ensures.value in
    (omega (arith, ap length kept, c.self.invariant.0), subst AreNamesDistinct (sym kept) c.self.invariant.1)

pub invariant_of-self-in-Some : goal.invariant_of-self-in-Some
invariant_of-self-in-Some c =
    let named = rc_value c.self.inside.named in
    let all_shown : named ≡ c.args.self.now = sym (none_hidden 0 named) ∙ ap (λ h. shown_from h 0 named) (sym c.if-self-eq0.true) ∙ c.self.view_is in
    let whole : c.put_named.new.self ≡ set_all c.args.self.now c.args.others = c.in_ok-put_named.ensures.ok ∙ ap (λ l. set_all l c.args.others) (c.in-Some.ensures.value ∙ all_shown) in
    (omega (arith, ap length whole, c.requires), c.len-len.ensures.names)

pub returns-in-Some-clause-ok : goal.returns-in-Some-clause-ok
returns-in-Some-clause-ok c =
    let named = rc_value c.self.inside.named in
    let all_shown : named ≡ c.args.self.now = sym (none_hidden 0 named) ∙ ap (λ h. shown_from h 0 named) (sym c.if-self-eq0.true) ∙ c.self.view_is in
    let whole : c.put_named.new.self ≡ set_all c.args.self.now c.args.others = c.in_ok-put_named.ensures.ok ∙ ap (λ l. set_all l c.args.others) (c.in-Some.ensures.value ∙ all_shown) in
    ap (λ h. shown_from h 0 c.put_named.new.self) c.if-self-eq0.true ∙ none_hidden 0 c.put_named.new.self ∙ whole
