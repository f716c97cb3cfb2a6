use Rattle.std.proofs.Common.{rules, None, refl}
use Rattle.session_engine.proofs.Seats.{emptied, kept_is, seated_after}
use Rattle.session_engine.proofs.live.Connections.leave.Goals as goal

pub invariant_of-self : goal.invariant_of-self
invariant_of-self c =
    let change = emptied c.args.self.now.places c.remove.new.self c.args.self.now.seats c.try_remove.new.self c.args.conn c.in-Some.place c.args.self.now.seated (search rules) (λ q. search rules) c.try_remove.ensures.updates in
    record { seated = seated_after c.args.self.now.places c.remove.new.self c.args.self.now.seats c.try_remove.new.self c.args.conn c.in-Some.place None None c.args.self.now.seated change (λ p e. absurd cc) }

pub returns-in-Some : goal.returns-in-Some
returns-in-Some c =
    let change = emptied c.args.self.now.places c.remove.new.self c.args.self.now.seats c.try_remove.new.self c.args.conn c.in-Some.place c.args.self.now.seated (search rules) (λ q. search rules) c.try_remove.ensures.updates in
    kept_is c.args.self.now.places c.remove.new.self c.args.self.now.seats c.try_remove.new.self c.args.conn c.in-Some.place None None change refl
