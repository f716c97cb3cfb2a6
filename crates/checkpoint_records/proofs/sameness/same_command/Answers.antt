use Rattle.std.proofs.Common.{◌≡◌, ◌∙◌, ap₂, sym}
use Rattle.std.specs.Str.{bytes_eq}
use Rattle.std.specs.Cmp.Lexicographic.{pointwise}
use lib.Pointwise.{pointwise_decides, bytes_decides}
use Rattle.checkpoint_records.proofs.sameness.same_command.Goals as goal

pub returns-clause-exact : goal.returns-clause-exact
returns-clause-exact c =
    let first = c.args.first.now.words in
    let second = c.args.second.now.words in
    let told : c.same_texts.result ≡ pointwise bytes_eq first second = c.same_texts.ensures ∙ ap₂ (pointwise bytes_eq) c.as_slice.ensures c.as_slice-2.ensures in
    let decides = pointwise_decides bytes_decides first second in
    (λ yes. decides.0 (sym told ∙ yes), λ same. told ∙ decides.1 same)
