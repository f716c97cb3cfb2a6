use Rattle.std.proofs.Common.{◌∙◌, List, ℕ, ap, sym, slice_index}
use Rattle.manager_machine.proofs.Setting.{none-view, walks-view}
use Rattle.manager_machine.proofs.settings.settings_in.Goals as goal

pub returns-then-minor-ne-SET_PROPERTIES_MINOR : goal.returns-then-minor-ne-SET_PROPERTIES_MINOR
returns-then-minor-ne-SET_PROPERTIES_MINOR c =
    none-view c.args.view.now (λ at. c.if-minor-ne-SET_PROPERTIES_MINOR.true (ap (λ (bytes : List ℕ). slice_index bytes 1) c.bytes.ensures.is ∙ at))

pub returns : goal.returns
returns c =
    walks-view c.args.view.now c.properties.result (ap (λ (bytes : List ℕ). slice_index bytes 1) (sym c.bytes.ensures.is) ∙ c.if-minor-ne-SET_PROPERTIES_MINOR.false) c.properties.ensures
