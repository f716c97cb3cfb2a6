use Rattle.std.proofs.Common.{rules, ◌≡◌, ◌∷◌, [], true, false, sym, ◌∙◌, Ok}
use Rattle.sm_world.specs.declared.effects.Effect.TheVariants.{Shut}
use Rattle.byte_relay.specs.Relaying.{partner, is_live, parted, gone}
use Rattle.byte_relay.proofs.Doing.{does_nothing}
use Rattle.byte_relay.proofs.Shown.{parted_shows}
use Rattle.byte_relay.proofs.Stepping.{by_step, at_ok, ends_pair, ends_alone}
use Rattle.byte_relay.proofs.relay.Relay.take_end.Goals as goal

pub returns-in-Some-clause-steps : goal.returns-in-Some-clause-steps
returns-in-Some-clause-steps g c = λ lines shows.
    let live : is_live c.args.conn lines ≡ true = sym (c.is_live.ensures lines shows) ∙ search rules in
    let other : is_live (partner c.args.conn) lines ≡ true = sym (rw c.partner.ensures at c.in-Some.ensures.live lines shows) in
    by_step (gone c.args.conn lines) (record { line = Shut (partner c.args.conn) ∷ []; next = parted c.args.conn lines }) (ends_pair c.args.self.now.respeller.to c.args.conn lines live other)
    (g.W.Told.outside c.args.world.now) (g.W.Told.outside c.shut.new.world) c.part.new.self.rows.items c.shut.result
    (rw (sym (c.in-Some.ensures.conn ∙ c.partner.ensures)) c.shut.ensures) (at_ok c.shut.result (rw c.part.ensures.rows (parted_shows c.args.conn c.args.self.now.rows.items lines shows)))

pub returns-in-None-clause-steps : goal.returns-in-None-clause-steps
returns-in-None-clause-steps g c = λ lines shows.
    let live : is_live c.args.conn lines ≡ true = sym (c.is_live.ensures lines shows) ∙ search rules in
    let other : is_live (partner c.args.conn) lines ≡ false = sym (rw c.partner.ensures at c.in-None.ensures.live lines shows) in
    by_step (gone c.args.conn lines) (record { line = []; next = parted c.args.conn lines }) (ends_alone c.args.self.now.respeller.to c.args.conn lines live other)
    (g.W.Told.outside c.args.world.now) (g.W.Told.outside c.args.world.now) c.part.new.self.rows.items (Ok tt)
    (does_nothing (g.W.Told.outside c.args.world.now) tt) (rw c.part.ensures.rows (parted_shows c.args.conn c.args.self.now.rows.items lines shows))
