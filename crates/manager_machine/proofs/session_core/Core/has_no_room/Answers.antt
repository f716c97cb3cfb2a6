use Rattle.std.proofs.Common.{sym, ap}
use Rattle.session_clients.specs.Clients.{clients_in}
use Rattle.session_state.specs.Session.{Session, reading_in}
use Rattle.manager_machine.proofs.Replying.{full-by_ids, full-by_number}
use Rattle.manager_machine.proofs.session_core.Core.has_no_room.Goals as goal

pub returns-then-known_ids-ge-ID_LIMIT : goal.returns-then-known_ids-ge-ID_LIMIT
returns-then-known_ids-ge-ID_LIMIT c =
    full-by_ids (reading_in c.args.self.now) c.known_ids.result (c.known_ids.ensures (reading_in c.args.self.now) (sym (ap (λ (s : Session). clients_in s.clients) c.self.view_is)) (sym (ap (λ (s : Session). s.book) c.self.view_is)))
    c.if-known_ids-ge-ID_LIMIT.true

pub returns-else-known_ids-ge-ID_LIMIT : goal.returns-else-known_ids-ge-ID_LIMIT
returns-else-known_ids-ge-ID_LIMIT c =
    full-by_number (reading_in c.args.self.now) c.known_ids.result c.self.inside.given
    (c.known_ids.ensures (reading_in c.args.self.now) (sym (ap (λ (s : Session). clients_in s.clients) c.self.view_is)) (sym (ap (λ (s : Session). s.book) c.self.view_is))) (ap (λ (s : Session). s.given) c.self.view_is)
    c.if-known_ids-ge-ID_LIMIT.false
