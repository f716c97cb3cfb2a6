use Rattle.std.proofs.Common.{◌∙◌, ap}
use Rattle.std.specs.List.{list_any}
use Rattle.std.specs.Str.{chars}
use Rattle.shown_text.specs.Shown.{is_hidden}
use Rattle.shown_text.proofs.Texts.{whole_is, whole_isnt}
use Rattle.shown_text.proofs.shown.is_whole.Goals as goal

pub returns-in-Ok : goal.returns-in-Ok
returns-in-Ok c =
    whole_is _ _ c.in-Ok.ensures.cases.1 (c.has_hidden.ensures ∙ ap (λ text. list_any is_hidden (chars text)) c.in-Ok.ensures.cases.0)

pub returns-in-Err : goal.returns-in-Err
returns-in-Err c = whole_isnt _ c.in-Err.ensures.cases.0
