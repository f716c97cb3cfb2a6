use Rattle.std.proofs.Common.{◌≡◌, ◌++◌, ◌∷◌, [], List, ◌∙◌, ap, append_assoc, rules}
use Rattle.std.specs.Prelude.{codes, option_copied}
use Rattle.json.specs.Token.{Token as JsonToken, key, string}
use Rattle.xsmp_properties.specs.Readers.{command_of, hint_of}
use Rattle.store_report.specs.Lines.{hint_text}
use Rattle.store_report.specs.Tokens.{command_tokens, if_any, start_tokens}
use Rattle.store_report.proofs.json_text.put_start.Goals as goal

pub returns : goal.returns
returns c =
    let o : List JsonToken = c.args.out.now in
    let first : List JsonToken = key (codes "hint") ∷ [] in
    let hint : List JsonToken = string c.hint_text.result.now ∷ [] in
    let second : List JsonToken = key (codes "restart") ∷ [] in
    let command : List JsonToken = if_any command_tokens (option_copied c.as_ref.result) in
    let text : c.hint_text.result.now ≡ hint_text (hint_of c.args.entry.now.table) = search rules in
    let again : option_copied c.as_ref.result ≡ command_of (codes "RestartCommand") c.args.entry.now.table = search rules in
    let all : c.put_any.new.out ≡ (((o ++ first) ++ hint) ++ second) ++ command =
    c.in_ok-put_any.ensures ∙ ap (λ (xs : List JsonToken). xs ++ command) (c.in_ok-put_key-2.ensures ∙ ap (λ (xs : List JsonToken). xs ++ second) (c.in_ok-put_string.ensures ∙ ap (λ (xs : List JsonToken). xs ++ hint) c.in_ok-put_key.ensures)) in
    all ∙ (append_assoc ((o ++ first) ++ hint) second command ∙ (append_assoc (o ++ first) hint (second ++ command) ∙ append_assoc o first (hint ++ (second ++ command))))
    ∙ (λ i. o ++ (key (codes "hint") ∷ string (text i) ∷ key (codes "restart") ∷ if_any command_tokens (again i)))
