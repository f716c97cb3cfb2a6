use Rattle.std.proofs.Common.{rules, ◌≡◌, ◌∷◌, [], true, false, sym, refl, ◌∙◌, Some, None, Ok, position}
use Rattle.sm_world.specs.declared.effects.Effect.TheVariants.{Shut}
use Rattle.byte_relay.specs.Relaying.{partner, is_live, stream_of, parted, piece_for, stays}
use Rattle.byte_relay.proofs.Doing.{does_nothing}
use Rattle.byte_relay.proofs.Shown.{has, placed, unplaced, parted_shows}
use Rattle.byte_relay.proofs.Stepping.{by_step, at_ok, piece_none, piece_alone, piece_goes_on, piece_breaks_off, piece_fails}
use Rattle.byte_relay.proofs.relay.Relay.take_piece.Goals as goal

pub returns-in_default-clause-steps : goal.returns-in_default-clause-steps
returns-in_default-clause-steps g c = λ lines shows.
    let at : position (has c.args.conn) c.args.self.now.rows.items ≡ None = search rules in
    by_step (piece_for c.args.self.now.respeller.to c.args.conn c.args.piece.now (stream_of c.args.conn lines) lines) (stays lines) (piece_none c.args.self.now.respeller.to c.args.conn lines c.args.piece.now (unplaced c.args.conn c.args.self.now.rows.items lines shows at))
    (g.W.Told.outside c.args.world.now) (g.W.Told.outside c.args.world.now) c.args.self.now.rows.items (Ok tt) (does_nothing (g.W.Told.outside c.args.world.now) tt) shows

pub returns-in_default-live-clause-steps : goal.returns-in_default-live-clause-steps
returns-in_default-live-clause-steps g c = λ lines shows.
    let at : position (has c.args.conn) c.args.self.now.rows.items ≡ Some c.in-Some.place = search rules in
    let found = placed c.args.conn c.args.self.now.rows.items lines c.in-Some.place shows at in
    let other : is_live (partner c.args.conn) lines ≡ false = sym (rw c.partner.ensures at c.in_default-live.ensures.live lines shows) in
    by_step (piece_for c.args.self.now.respeller.to c.args.conn c.args.piece.now (stream_of c.args.conn lines) lines) (record { line = Shut c.args.conn ∷ []; next = parted c.args.conn lines }) (piece_alone c.args.self.now.respeller.to c.args.conn lines c.args.piece.now found.stream found.is other)
    (g.W.Told.outside c.args.world.now) (g.W.Told.outside c.shut.new.world) c.part.new.self.rows.items c.shut.result c.shut.ensures (at_ok c.shut.result (rw c.part.ensures.rows (parted_shows c.args.conn c.args.self.now.rows.items lines shows)))

pub returns-in-Ok-Open-clause-steps : goal.returns-in-Ok-Open-clause-steps
returns-in-Ok-Open-clause-steps g c = λ lines shows.
    let at : position (has c.args.conn) c.args.self.now.rows.items ≡ Some c.in-Some.place = sym (rw (c.from.ensures, c.deref.ensures.value) at c.place_of.ensures) ∙ c.in-Some.is in
    let found = placed c.args.conn c.args.self.now.rows.items lines c.in-Some.place shows at in
    let other : is_live (partner c.args.conn) lines ≡ true = sym (rw c.partner.ensures at c.in-Some-live.ensures.live lines shows) in
    let number : c.in-Some-live.other ≡ partner c.args.conn = c.in-Some-live.ensures.conn ∙ c.partner.ensures in
    piece_goes_on c.args.self.now.respeller.to c.args.conn c.args.piece.now c.args.self.now.rows.items lines c.in-Some.place shows found c.index_mut.result.now c.index_mut.ensures.value other
    (g.W.Told.outside c.args.world.now) (g.W.Told.outside c.pass.new.world) c.pass.new.row c.in-Ok-Open.field-0 (rw number at c.in-Ok-Open.ensures.done) (rw c.in-Ok-Open.field-0-is at c.in-Ok-Open.ensures.pair) ((rw c.in-Ok-Open.field-0-is at c.in-Ok-Open.ensures.grows) refl) c.pass.ensures.conn

pub returns-in-Ok-Broken-clause-steps : goal.returns-in-Ok-Broken-clause-steps
returns-in-Ok-Broken-clause-steps g c = λ lines shows.
    let at : position (has c.args.conn) c.args.self.now.rows.items ≡ Some c.in-Some.place = sym (rw (c.from.ensures, c.deref.ensures.value) at c.place_of.ensures) ∙ c.in-Some.is in
    let found = placed c.args.conn c.args.self.now.rows.items lines c.in-Some.place shows at in
    let other : is_live (partner c.args.conn) lines ≡ true = sym (rw c.partner.ensures at c.in-Some-live.ensures.live lines shows) in
    let number : c.in-Some-live.other ≡ partner c.args.conn = c.in-Some-live.ensures.conn ∙ c.partner.ensures in
    piece_breaks_off c.args.self.now.respeller.to c.args.conn c.args.piece.now c.args.self.now.rows.items lines c.in-Some.place shows found c.index_mut.result.now c.index_mut.ensures.value other
    (g.W.Told.outside c.args.world.now) (g.W.Told.outside c.pass.new.world) (g.W.Told.outside c.break_pair.new.world) c.pass.new.row c.break_pair.new.self.rows.items c.in-Ok-Broken.field-0 c.break_pair.result (rw number at c.in-Ok-Broken.ensures.done) (rw c.in-Ok-Broken.field-0-is at c.in-Ok-Broken.ensures.pair) c.break_pair.ensures.done c.pass.ensures.conn c.break_pair.ensures.rows

pub returns-in-Err-clause-steps : goal.returns-in-Err-clause-steps
returns-in-Err-clause-steps g c = λ lines shows.
    let at : position (has c.args.conn) c.args.self.now.rows.items ≡ Some c.in-Some.place = sym (rw (c.from.ensures, c.deref.ensures.value) at c.place_of.ensures) ∙ c.in-Some.is in
    let found = placed c.args.conn c.args.self.now.rows.items lines c.in-Some.place shows at in
    let other : is_live (partner c.args.conn) lines ≡ true = sym (rw c.partner.ensures at c.in-Some-live.ensures.live lines shows) in
    let number : c.in-Some-live.other ≡ partner c.args.conn = c.in-Some-live.ensures.conn ∙ c.partner.ensures in
    piece_fails c.args.self.now.respeller.to c.args.conn c.args.piece.now c.args.self.now.rows.items lines c.in-Some.place shows found c.index_mut.result.now c.index_mut.ensures.value other
    (g.W.Told.outside c.args.world.now) (g.W.Told.outside c.pass.new.world) c.args.self.now.rows.items c.in-Err.fault (rw number at c.in-Err.ensures.done)
