use Rattle.std.proofs.Common.{rules, ◌≡◌, ◌++◌, filter_map, IfOk}
use Rattle.std.specs.Prelude.{option_to_list}
use Rattle.session_model.specs.Rules.{last_command}
use Rattle.session_clients.specs.Clients.{clients_in}
use Rattle.session_clients.specs.Ids.{registered_ids}
use Rattle.session_books.proofs.StepLaws.{one-more}
use Rattle.session_books.proofs.commands.last_commands.Goals as goal
use Rattle.session_books.proofs.commands.last_commands.Goals.{in-Some+in_ok-push, in_default}

pub loop-entry-preserved : goal.loop-entry-preserved
loop-entry-preserved c =
    let ids : c.in_ok-ids.ids ≡ registered_ids (clients_in c.args.clients.now) = search rules in
    let known : IfOk c.last_command.result (λ command. command ≡ last_command (clients_in c.args.clients.now) c.entry-item.result) = c.last_command.ensures (clients_in c.args.clients.now) ids in
    let gives : c.in_ok-command.field-0 ≡ last_command (clients_in c.args.clients.now) c.entry-item.result = search rules in
    let added : c.match-branch-3.commands ≡ c.loop-entry.commands ++ option_to_list c.in_ok-command.field-0 =
    elim c.match-branch-3.branch [ in-Some+in_ok-push w ↦ rw w.in-Some.is (search rules) | in_default w ↦ rw w.in_default.is (search rules) ] in
    one-more (last_command (clients_in c.args.clients.now)) c.as_slice-entry-items.result.now c.loop-entry.entry-index c.entry-item.result c.in_ok-command.field-0 c.loop-entry.commands c.match-branch-3.commands
    (filter_map (last_command (clients_in c.args.clients.now)) c.args.entries.now) c.loop-entry-test.true c.entry-item.is gives added c.loop-entry.invariant
