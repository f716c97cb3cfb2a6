use Rattle.std.proofs.Common.{rules, ◌≡◌, ◌∙◌, ◌==◌, ap, ap₂, not, List, ℕ}
use Rattle.std.proofs.lemmas.Fn.{filter_same}
use Rattle.session_model.specs.declared.events.SessionEvent.TheVariants.{Left}
use Rattle.session_model.specs.Moves.{Outside}
use Rattle.interact_queue.specs.Queue.{without}
use Rattle.session_clients.specs.declared.client.Client.{Client}
use Rattle.session_clients.specs.Clients.{Held, held_by}
use Rattle.session_clients.proofs.clients.Clients.leave.Goals as goal

abbrev held_of : List Client → List ℕ → Held
held_of rows registered = record { rows = rows; registered = registered }

pub returns-clause-left : goal.returns-clause-left
returns-clause-left c =
    let registered : c.retain.new.self.items ≡ without c.args.conn c.self.inside.registered.items = filter_same _ (λ other. not (other == c.args.conn)) _ (λ x kept f r. search rules) c.self.inside.registered.items _ c.retain.ensures.filtered in
    ap₂ held_of c.leave.ensures registered ∙ ap (held_by (Outside (Left c.args.conn))) c.self.view_is

pub returns-clause-closed : goal.returns-clause-closed
returns-clause-closed c = returns-clause-left c
