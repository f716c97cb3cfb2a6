use Rattle.std.proofs.Common.{rules, ◌≡◌, None, Some}
use Rattle.session_model.specs.Reading.{client_of}
use Rattle.session_clients.specs.Clients.{clients_in}
use Rattle.session_books.proofs.entries.next_entry.Goals as goal

pub returns-in-Some : goal.returns-in-Some
returns-in-Some c =
    let known : c.client_of.result ≡ client_of c.as_slice.result.now (clients_in c.args.clients.now) = c.client_of.ensures (clients_in c.args.clients.now) c.requires in
    let found : client_of c.args.entry.now.id (clients_in c.args.clients.now) ≡ Some c.in-Some.conn = search rules in
    search rules

pub returns-in-None : goal.returns-in-None
returns-in-None c =
    let known : c.client_of.result ≡ client_of c.as_slice.result.now (clients_in c.args.clients.now) = c.client_of.ensures (clients_in c.args.clients.now) c.requires in
    let found : client_of c.args.entry.now.id (clients_in c.args.clients.now) ≡ None = search rules in
    search rules
