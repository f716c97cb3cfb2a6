use Rattle.std.proofs.Common.{refl, arith, ◌-◌, ◌<◌}
use Rattle.ice_values.specs.Properties.{property_at}
use Rattle.ice_values.specs.declared.walk.PropertyWalk.{PropertyWalk}
use Rattle.ice_values.proofs.WalkLaws.{none_left, stops, gives_none, gives_next, is_less}
use Rattle.ice_values.proofs.walk.PropertyWalkIterator.next.Goals as goal

pub returns-then-self-eq0-clause-steps : goal.returns-then-self-eq0-clause-steps
returns-then-self-eq0-clause-steps c =
    let walk = c.args.self.now in
    gives_none walk (none_left (property_at walk.endian) walk.count walk.bytes.now c.if-self-eq0.true)

pub returns-in_err-view-clause-steps : goal.returns-in_err-view-clause-steps
returns-in_err-view-clause-steps c =
    let walk = c.args.self.now in
    rw c.from_residual.ensures (gives_none walk (stops (property_at walk.endian) walk.count walk.bytes.now c.in_err-view.ensures))

pub returns-clause-steps : goal.returns-clause-steps
returns-clause-steps c =
    let walk = c.args.self.now in
    let new : PropertyWalk = record { endian = walk.endian; count = walk.count - 1; bytes = c.in_ok-view.rest } in
    let some : 0 < walk.count = omega (arith, c.if-self-eq0.false) in
    gives_next walk c.in_ok-view.view new some refl refl c.in_ok-view.ensures

pub returns-clause-goes : goal.returns-clause-goes
returns-clause-goes c =
    let walk = c.args.self.now in
    let new : PropertyWalk = record { endian = walk.endian; count = walk.count - 1; bytes = c.in_ok-view.rest } in
    let some : 0 < walk.count = omega (arith, c.if-self-eq0.false) in
    is_less walk c.in_ok-view.view new (gives_next walk c.in_ok-view.view new some refl refl c.in_ok-view.ensures)
