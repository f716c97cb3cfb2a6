use Rattle.nested_session.proofs.ActLaws.{makes_stay, parted}
use Rattle.nested_session.proofs.nest.Nest.hear_outer.Goals as goal

pub returns-in-Joined-clause-makes : goal.returns-in-Joined-clause-makes
returns-in-Joined-clause-makes g c = rw c.in-Joined.is (λ config opening current base events n script all goes.
    makes_stay config opening current base events (g.W.Told.outside c.args.world.now).told c.args.self n script all goes)

pub returns-in-Piece-clause-makes : goal.returns-in-Piece-clause-makes
returns-in-Piece-clause-makes g c = rw c.in-Piece.is (rw c.as_slice.ensures at c.hear_piece.ensures.makes)

pub returns-in-Gone-clause-makes : goal.returns-in-Gone-clause-makes
returns-in-Gone-clause-makes g c = rw (c.in-Gone.is, c.part.ensures) (λ config opening current base events n script all goes.
    parted config opening current base events (g.W.Told.outside c.args.world.now).told c.args.self n script all goes)

pub returns-in-Operator-clause-makes : goal.returns-in-Operator-clause-makes
returns-in-Operator-clause-makes g c = rw c.in-Operator.is (λ config opening current base events n script all goes.
    makes_stay config opening current base events (g.W.Told.outside c.args.world.now).told c.args.self n script all goes)

pub returns-in-Tick-clause-makes : goal.returns-in-Tick-clause-makes
returns-in-Tick-clause-makes g c = rw c.in-Tick.is (λ config opening current base events n script all goes.
    makes_stay config opening current base events (g.W.Told.outside c.args.world.now).told c.args.self n script all goes)

pub returns-in-End-clause-makes : goal.returns-in-End-clause-makes
returns-in-End-clause-makes g c = rw c.in-End.is (λ config opening current base events n script all goes.
    makes_stay config opening current base events (g.W.Told.outside c.args.world.now).told c.args.self n script all goes)
