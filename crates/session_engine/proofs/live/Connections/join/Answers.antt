use Rattle.std.proofs.Common.{rules, Some}
use Rattle.session_engine.proofs.Seats.{filled, kept_is, seated_after, seated_here}
use Rattle.session_engine.proofs.live.Connections.join.Goals as goal

pub invariant_of-self-else-is_err : goal.invariant_of-self-else-is_err
invariant_of-self-else-is_err c =
    let change = filled c.args.self.now.places c.insert-2.new.self c.args.self.now.seats c.insert.new.self c.args.conn c.in_ok-place.place c.in_ok-new.field-0 c.args.self.now.seated c.in_ok-place.ensures.was_vacant (λ q. search rules) c.in_ok-place.ensures.updates in
    record { seated = seated_after c.args.self.now.places c.insert-2.new.self c.args.self.now.seats c.insert.new.self c.args.conn c.in_ok-place.place (Some c.in_ok-place.place) (Some c.in_ok-new.field-0) c.args.self.now.seated change (seated_here c.insert.new.self c.args.conn c.in_ok-place.place c.in_ok-new.field-0 c.in_ok-place.ensures.updates.changed c.in_ok-new.ensures.conn) }

pub returns : goal.returns
returns c =
    let change = filled c.args.self.now.places c.insert-2.new.self c.args.self.now.seats c.insert.new.self c.args.conn c.in_ok-place.place c.in_ok-new.field-0 c.args.self.now.seated c.in_ok-place.ensures.was_vacant (λ q. search rules) c.in_ok-place.ensures.updates in
    (c.in_ok-new.field-0, c.in_ok-new.ensures.new, kept_is c.args.self.now.places c.insert-2.new.self c.args.self.now.seats c.insert.new.self c.args.conn c.in_ok-place.place (Some c.in_ok-place.place) (Some c.in_ok-new.field-0) change c.in_ok-place.ensures.updates.changed)
