use Rattle.std.proofs.Common.{refl, arith, ◌-◌, ◌<◌}
use Rattle.frame_speech.specs.declared.values.ValueWalk.{ValueWalk}
use Rattle.frame_speech.proofs.Walked.{value_none, value_stops, value_given}
use Rattle.frame_speech.proofs.values.ValueWalk.next.Goals as goal

pub returns-then-self-eq0 : goal.returns-then-self-eq0
returns-then-self-eq0 c = value_none c.args.self.now c.if-self-eq0.true

pub returns-in_err-value : goal.returns-in_err-value
returns-in_err-value c = rw c.from_residual.ensures (value_stops c.args.self.now c.in_err-value.ensures)

pub returns : goal.returns
returns c =
    let old = c.args.self.now in
    let new : ValueWalk = record { endian = old.endian; count = old.count - 1; bytes = c.in_ok-value.rest } in
    let some : 0 < old.count = omega (arith, c.if-self-eq0.false) in
    value_given old new c.in_ok-value.value.now some refl refl c.in_ok-value.ensures
