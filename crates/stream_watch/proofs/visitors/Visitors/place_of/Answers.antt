use Rattle.std.proofs.Common.{◌≡◌, true, sym, ap, ◌∙◌, slice_get, subst}
use Rattle.stream_watch.specs.Visiting.{AreOnce, is_of, numbers}
use Rattle.stream_watch.proofs.Once.{guessed}
use Rattle.stream_watch.proofs.visitors.Visitors.place_of.Goals as goal

pub returns-then-stands_at : goal.returns-then-stands_at
returns-then-stands_at c =
    let rows = c.args.self.now in
    let place = c.guess-place.result in
    let once : AreOnce (numbers rows) = subst (λ xs. AreOnce (numbers xs)) c.self.view_is (c.self.invariant c.if-self.true) in
    let of : is_of c.args.conn (slice_get rows place) ≡ true =
    ap (λ xs. is_of c.args.conn (slice_get xs place)) (sym c.self.view_is ∙ sym c.deref-then-self.ensures.value) ∙ sym c.stands_at.ensures ∙ c.if-stands_at.true in
    guessed c.args.conn rows place once of
