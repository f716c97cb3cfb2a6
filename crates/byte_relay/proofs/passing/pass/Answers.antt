use Rattle.std.proofs.Common.{rules, ◌≡◌, ℕ, List, length, refl, sym, ◌∙◌, subst}
use Rattle.ice_framing.proofs.Fronts.{rest_is}
use Rattle.byte_relay.specs.Rows.{HoldsAll, TakesFirst}
use Rattle.byte_relay.specs.declared.passing.Pair.TheVariants.{Open}
use Rattle.byte_relay.proofs.Passed.{Middle, further, cut_off, all_sent, unbroken, grown, no_part_left, stands_there, stands_held}
use Rattle.byte_relay.proofs.passing.pass.Goals as goal

pub returns-in-Ok-None-clause-grows : goal.returns-in-Ok-None-clause-grows
returns-in-Ok-None-clause-grows g c = λ goes.
    let holds : HoldsAll c.loop-left.row c.loop-left.left.now c.cut.new.self = rw c.in-Ok-None.field-0-is at c.in-Ok-None.ensures.cuts in
    grown c.args.respeller.now.to c.args.other c.args.row.now c.args.piece.now (g.W.Told.outside c.args.world.now) (g.W.Told.outside c.loop-left.world) c.loop-left.row c.loop-left.left.now c.loop-left.invariant.middle c.cut.new.self holds.none (stands_held c.loop-left.row c.cut.new.self c.loop-left.left.now holds) holds.fresh

pub loop-left-preserved : goal.loop-left-preserved
loop-left-preserved g c = record {
  middle =
      let t : TakesFirst c.args.respeller.now.to c.loop-left.row c.loop-left.left.now c.in-Ok-Some.cut c.cut.new.respeller.bytes c.cut.new.self = rw (c.in-Ok-Some.field-0-is, c.loop-left.invariant.to) at c.in-Ok-Some.ensures.cuts in
      let P : List ℕ → Type 0 = λ left. Middle c.args.respeller.now.to c.args.other c.args.row.now c.args.piece.now (g.W.Told.outside c.args.world.now) (g.W.Told.outside c.hand_on.new.world) c.cut.new.self left in
      subst P (sym (rest_is c.loop-left.left.now c.in-Ok-Some.cut.count))
      (further c.args.respeller.now.to c.args.other c.args.row.now c.args.piece.now (g.W.Told.outside c.args.world.now) (g.W.Told.outside c.loop-left.world) (g.W.Told.outside c.hand_on.new.world) c.loop-left.row c.loop-left.left.now c.in-Ok-Some.cut c.cut.new.respeller.bytes c.cut.new.self c.loop-left.invariant.middle t Open (sym (rw c.in-Ok-Open.field-0-is at c.in-Ok-Open.ensures.pair)) (rw (c.bytes.ensures, c.in-Ok-Open.field-0-is) at c.in-Ok-Open.ensures.done));
  conn = c.cut.ensures.conn ∙ c.loop-left.invariant.conn;
  to = c.cut.ensures.to ∙ c.loop-left.invariant.to;
}

pub returns-in-Err-hand_on-clause-done : goal.returns-in-Err-hand_on-clause-done
returns-in-Err-hand_on-clause-done g c =
    let t : TakesFirst c.args.respeller.now.to c.loop-left.row c.loop-left.left.now c.in-Ok-Some.cut c.cut.new.respeller.bytes c.cut.new.self = rw (c.in-Ok-Some.field-0-is, c.loop-left.invariant.to) at c.in-Ok-Some.ensures.cuts in
    cut_off c.args.respeller.now.to c.args.other c.args.row.now c.args.piece.now (g.W.Told.outside c.args.world.now) (g.W.Told.outside c.loop-left.world) (g.W.Told.outside c.hand_on.new.world) c.loop-left.row c.loop-left.left.now c.in-Ok-Some.cut c.cut.new.respeller.bytes c.cut.new.self c.loop-left.invariant.middle t c.in-Err-hand_on.fault (rw c.bytes.ensures at c.in-Err-hand_on.ensures.done)

pub returns-clause-done : goal.returns-clause-done
returns-clause-done g c =
    let none : length c.loop-left.left.now ≡ 0 = search rules in
    all_sent c.args.respeller.now.to c.args.other c.args.row.now c.args.piece.now (g.W.Told.outside c.args.world.now) (g.W.Told.outside c.loop-left.world) c.loop-left.row c.loop-left.left.now c.loop-left.invariant.middle Open (no_part_left c.loop-left.row c.loop-left.left.now none)

pub returns-clause-pair : goal.returns-clause-pair
returns-clause-pair g c =
    let none : length c.loop-left.left.now ≡ 0 = search rules in
    unbroken c.args.respeller.now.to c.args.other c.args.row.now c.args.piece.now (g.W.Told.outside c.args.world.now) (g.W.Told.outside c.loop-left.world) c.loop-left.row c.loop-left.left.now c.loop-left.invariant.middle (no_part_left c.loop-left.row c.loop-left.left.now none)

pub returns-clause-grows : goal.returns-clause-grows
returns-clause-grows g c = λ goes.
    let none : length c.loop-left.left.now ≡ 0 = search rules in
    grown c.args.respeller.now.to c.args.other c.args.row.now c.args.piece.now (g.W.Told.outside c.args.world.now) (g.W.Told.outside c.loop-left.world) c.loop-left.row c.loop-left.left.now c.loop-left.invariant.middle c.loop-left.row (no_part_left c.loop-left.row c.loop-left.left.now none) (stands_there c.loop-left.row c.loop-left.left.now none) refl
