use Rattle.std.proofs.Common.{rules, ◌≡◌, false, sym, ◌∙◌}
use Rattle.std.specs.List.{list_any}
use Rattle.session_model.specs.Phases.{is_owing}
use Rattle.session_clients.specs.declared.client.Client.{Client}
use Rattle.session_clients.proofs.RowLaws.{nobody-owes}
use Rattle.session_clients.proofs.summaries.is_any_owing.Goals as goal

pub returns-else-is_any_row_owing : goal.returns-else-is_any_row_owing
returns-else-is_any_row_owing c =
    let none : list_any (λ (k : Client). is_owing k.phase) c.args.rows.now ≡ false = search rules in
    c.if-is_any_row_owing.false ∙ sym (nobody-owes c.args.conns.now c.args.rows.now none)
