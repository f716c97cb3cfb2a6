use Rattle.std.proofs.Common.{◌≡◌, ◌∙◌, ap, sym, rules, List, ℕ}
use Rattle.std.specs.Prelude.{filter, flat_map}
use Rattle.session_clients.specs.Clients.{clients_in}
use Rattle.session_model.specs.Replies.{depart, is_overdue}
use Rattle.session_state.specs.Session.{Session, reading_in}
use Rattle.manager_machine.proofs.session_core.Core.reply_to_tick.Goals as goal

pub returns : goal.returns
returns c =
    let r = reading_in c.args.self.now in
    let late : c.in_ok-late.late ≡ filter (is_overdue r c.args.milliseconds) r.clients.registered =
    c.in_ok-late.ensures r (sym (ap (λ (s : Session). clients_in s.clients) c.self.view_is)) (sym (ap (λ (s : Session). s.patience) c.self.view_is)) in
    let conns : c.as_slice.result.now ≡ c.in_ok-late.late = search rules in
    λ s. c.in_ok-departures.ensures ∙ ap (λ (xs : List ℕ). flat_map (depart r) xs) (conns ∙ late)
