use Rattle.std.proofs.Common.{◌≡◌, [], ◌∷◌, ap, sym, ◌∙◌, length, not, arith}
use Rattle.std.specs.List.{list_any}
use Rattle.std.specs.Rc.{rc_value}
use Rattle.xsmp_properties.specs.Named.{shown_from}
use Rattle.xsmp_properties.specs.Tables.{is_named, without_names}
use Rattle.xsmp_properties.proofs.ShownLaws.{none_hidden}
use Rattle.xsmp_properties.proofs.TableLaws.{length-kept}
use Rattle.xsmp_properties.proofs.shared.SharedProperties.remove.Goals as goal

pub invariant_of-self : goal.invariant_of-self
invariant_of-self c =
    let named = rc_value c.self.inside.named in
    let names = c.args.name.now ∷ [] in
    let left : c.remove.new.self ≡ without_names names named = c.remove.ensures ∙ ap (without_names names) c.in-Some.ensures.value in
    (omega (arith, ap length left, length-kept (λ p. not (list_any (λ name. is_named name p) names)) named, c.self.invariant.0), c.len-len.ensures.names)

pub returns-in-Some : goal.returns-in-Some
returns-in-Some c =
    let named = rc_value c.self.inside.named in
    let names = c.args.name.now ∷ [] in
    let all_shown : named ≡ c.args.self.now = sym (none_hidden 0 named) ∙ ap (λ h. shown_from h 0 named) (sym c.if-self-eq0.true) ∙ c.self.view_is in
    ap (λ h. shown_from h 0 c.remove.new.self) c.if-self-eq0.true ∙ none_hidden 0 c.remove.new.self ∙ c.remove.ensures ∙ ap (without_names names) (c.in-Some.ensures.value ∙ all_shown)
