use Rattle.std.proofs.Common.{◌≡◌, ◌++◌, ◌∷◌, [], List, ◌∙◌, ap, append_assoc}
use Rattle.std.specs.Prelude.{codes}
use Rattle.json.specs.Token.{Token as JsonToken, key}
use Rattle.store_report.specs.Tokens.{bytes_tokens, listed}
use Rattle.store_report.proofs.json_text.put_call.Goals as goal

pub returns : goal.returns
returns c =
    let directory : List JsonToken = key (codes "directory") ∷ bytes_tokens c.args.command.now.directory in
    c.in_ok-put_member-2.ensures
    ∙ (ap (λ (xs : List JsonToken). xs ++ directory) c.in_ok-put_member.ensures ∙ append_assoc c.args.out.now (key (codes "words") ∷ listed bytes_tokens c.args.command.now.words) directory)
