use Rattle.std.proofs.Common.{rules, ◌≡◌, List, ℕ, ap, ◌∙◌}
use Rattle.session_model.specs.Books.{next_entries, standing, with_entries}
use Rattle.session_model.specs.Rules.{completed}
use Rattle.session_clients.specs.Clients.{clients_in}
use Rattle.session_books.specs.Plans.{seen}
use Rattle.session_state.specs.Session.{Session, reading_in}
use Rattle.manager_machine.specs.Agreeing.{completing}
use Rattle.manager_machine.proofs.Carrying.{planned-as}
use Rattle.manager_machine.proofs.session_core.Core.plan_agreement.Goals as goal

pub returns : goal.returns
returns c =
    let s = c.args.self.now in
    let round = c.args.round.now in
    let ids : c.deref.result.now ≡ c.self.inside.expected.items = search rules in
    let entries : c.in_ok-entries.entries ≡ next_entries (reading_in s) round =
    c.in_ok-entries.ensures
    ∙ ap (λ (expected : List (List ℕ)). next_entries (seen c.self.inside.clients c.self.inside.book expected) round) ids
    ∙ ap (λ (t : Session). next_entries (reading_in t) round) c.self.view_is
    in
    let book = with_entries (reading_in s).store c.in_ok-entries.entries in
    let done : completing c.in_ok-completion.completion ≡ completed round.wanted.shutdown (clients_in s.clients) round book = search rules in
    let stand : c.in_ok-standing.standing ≡ standing (clients_in s.clients) = search rules in
    planned-as
    (reading_in s)
    round
    (record { entries = c.in_ok-entries.entries; completion = c.in_ok-completion.completion; standing = c.in_ok-standing.standing })
    entries
    done
    stand
