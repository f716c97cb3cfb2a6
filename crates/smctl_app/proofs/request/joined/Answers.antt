use Rattle.std.proofs.Common.{◌≡◌, ◌∙◌, List, ℕ, IfOk, map, string_bytes, subst, codes}
use Rattle.smctl_app.specs.Requests.{spaced}
use Rattle.smctl_app.proofs.WordLaws.{texts_joined}
use Rattle.smctl_app.proofs.request.joined.Goals as goal

pub returns : goal.returns
returns c =
    let same : c.as_bytes.result.now ≡ spaced (map string_bytes c.args.words.now) = c.as_bytes.ensures.value ∙ (c.in_ok-line.ensures.ok ∙ texts_joined string_bytes (codes " ") c.args.words.now) in
    subst (λ (text : List ℕ). IfOk c.from_slice.result (λ line. line ≡ text)) same c.from_slice.ensures
