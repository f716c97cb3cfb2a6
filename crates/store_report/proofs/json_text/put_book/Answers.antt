use Rattle.std.proofs.Common.{◌≡◌, ◌++◌, ◌∷◌, [], List, length, ◌∙◌, ap, append_assoc, rules}
use Rattle.std.specs.Prelude.{codes, decimal}
use Rattle.json.specs.Token.{Token as JsonToken, key, number}
use Rattle.restart_plan.specs.Restarts.{opening_restarts}
use Rattle.store_report.specs.Tokens.{command_tokens, entry_tokens, listed, other_tokens}
use Rattle.store_report.proofs.json_text.put_book.Goals as goal

pub returns : goal.returns
returns c =
    let o : List JsonToken = c.args.out.now in
    let epoch : List JsonToken = key (codes "epoch") ∷ number (decimal c.into.result) ∷ [] in
    let starts : List JsonToken = key (codes "starts") ∷ number (decimal c.in_ok-starts.starts) ∷ [] in
    let entries : List JsonToken = key (codes "entries") ∷ listed entry_tokens c.args.book.now.entries in
    let others : List JsonToken = key (codes "others") ∷ listed other_tokens c.args.book.now.others in
    let pending : List JsonToken = key (codes "pending") ∷ listed command_tokens c.args.book.now.pending in
    let is_epoch : c.into.result ≡ c.args.book.now.epoch = search rules in
    let are_starts : c.in_ok-starts.starts ≡ length (opening_restarts c.args.book.now.entries) = search rules in
    let all : c.put_member-3.new.out ≡ ((((o ++ epoch) ++ starts) ++ entries) ++ others) ++ pending =
    c.in_ok-put_member-3.ensures ∙ ap (λ (xs : List JsonToken). xs ++ pending) (c.in_ok-put_member-2.ensures ∙ ap (λ (xs : List JsonToken). xs ++ others) (c.in_ok-put_member.ensures ∙ ap (λ (xs : List JsonToken). xs ++ entries) (c.in_ok-put_count-2.ensures ∙ ap (λ (xs : List JsonToken). xs ++ starts) c.in_ok-put_count.ensures))) in
    all ∙ (append_assoc (((o ++ epoch) ++ starts) ++ entries) others pending ∙ (append_assoc ((o ++ epoch) ++ starts) entries (others ++ pending) ∙ (append_assoc (o ++ epoch) starts (entries ++ (others ++ pending)) ∙ append_assoc o epoch (starts ++ (entries ++ (others ++ pending))))))
    ∙ (λ i. o ++ (key (codes "epoch") ∷ number (decimal (is_epoch i)) ∷ key (codes "starts") ∷ number (decimal (are_starts i)) ∷ key (codes "entries") ∷ (listed entry_tokens c.args.book.now.entries ++ (others ++ pending))))
