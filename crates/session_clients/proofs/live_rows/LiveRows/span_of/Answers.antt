use Rattle.std.proofs.Common.{◌≡◌, true, sym, ap, ◌∙◌, slice_get}
use Rattle.round_agreement.specs.Agreement.{are_distinct}
use Rattle.session_clients.specs.Clients.{conns_in}
use Rattle.session_clients.specs.Rows.{is_of}
use Rattle.session_clients.proofs.SpanLaws.{stands-alone}
use Rattle.session_clients.proofs.live_rows.LiveRows.span_of.Goals as goal

pub returns-then-stands_at : goal.returns-then-stands_at
returns-then-stands_at c =
    let rows = c.args.self.now in
    let place = c.place-place.result in
    let once : are_distinct (conns_in rows) ≡ true = ap (λ xs. are_distinct (conns_in xs)) (sym c.self.view_is) ∙ c.self.invariant c.if-self.true in
    let of : is_of c.args.conn (slice_get rows place) ≡ true =
    ap (λ xs. is_of c.args.conn (slice_get xs place)) (sym c.self.view_is ∙ sym c.deref.ensures.value) ∙ sym c.stands_at.ensures ∙ c.if-stands_at.true in
    stands-alone c.args.conn place rows once of
