use Rattle.std.proofs.Common.{◌≡◌, ◌==◌, ◌<◌, Some, true, length, refl, sym, ap, ◌∙◌, slice_get, arith}
use Rattle.std.proofs.lemmas.Bool.Decides.{nat_tests}
use Rattle.std.proofs.lemmas.Option.{slice_get_read}
use Rattle.round_agreement.specs.Agreement.{are_distinct}
use Rattle.session_clients.specs.Clients.{conns_in}
use Rattle.session_clients.specs.Rows.{is_of}
use Rattle.session_clients.proofs.SpanLaws.{only-row}
use Rattle.session_clients.proofs.live_rows.LiveRows.row.Goals as goal

pub returns-in-Some : goal.returns-in-Some
returns-in-Some c =
    let rows = c.args.self.now in
    let place = c.place-place.result in
    let once : are_distinct (conns_in rows) ≡ true = ap (λ xs. are_distinct (conns_in xs)) (sym c.self.view_is) ∙ c.self.invariant c.if-self.true in
    let lent = c.deref.result.now in
    let inside : place < length lent = grind (arith, nat_tests, c.in-Some.ensures.lookup.0) in
    let at : slice_get rows place ≡ Some c.in-Some.row.now =
    ap (λ xs. slice_get xs place) (sym c.self.view_is ∙ sym c.deref.ensures.value) ∙ slice_get_read lent (length lent) place c.in-Some.row.now refl inside c.in-Some.ensures.lookup.1 in
    let same : (c.in-Some.row.now.conn == c.args.conn) ≡ true = grind (arith, nat_tests, c.if-row-conn.true) in
    let of : is_of c.args.conn (slice_get rows place) ≡ true = ap (is_of c.args.conn) at ∙ same in
    sym at ∙ only-row c.args.conn place rows once of
