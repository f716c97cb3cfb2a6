use Rattle.std.proofs.Common.{◌≡◌, ◌+◌, ◌∙◌, ap, ap₂, sym, take, ◌++◌, ◌∷◌, [], List, ℕ}
use Rattle.std.proofs.lemmas.List.{take_more}
use Rattle.xsmp_properties.specs.Tables.{without_names}
use Rattle.xsmp_properties.proofs.TableLaws.{without-none, without-more}
use Rattle.xsmp_properties.proofs.shared.SharedProperties.remove_all.Goals as goal

pub loop-name-init : goal.loop-name-init
loop-name-init c = sym (without-none c.args.self.now)

pub loop-name-preserved : goal.loop-name-preserved
loop-name-preserved c =
    let names = c.args.names.now in
    let i = c.loop-name.name-index in
    let name = c.name-item.result in
    let grown : take (i + 1) names ≡ take i names ++ name ∷ [] = take_more names i name c.loop-name-test.true ∙ ap (λ (y : List ℕ). take i names ++ y ∷ []) (sym c.name-item.is) in
    c.remove.ensures ∙ ap₂ (λ (n : List ℕ) l. without_names (n ∷ []) l) c.as_slice.ensures c.loop-name.invariant ∙ sym (without-more (take i names) name c.args.self.now) ∙ ap (λ l. without_names l c.args.self.now) (sym grown)
