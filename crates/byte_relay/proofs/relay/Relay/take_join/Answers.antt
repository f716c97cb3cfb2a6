use Rattle.std.proofs.Common.{rules, ◌≡◌, ◌∷◌, [], true, false, sym, ◌∙◌, Ok}
use Rattle.sm_world.specs.declared.effects.Effect.TheVariants.{Shut}
use Rattle.byte_relay.specs.Relaying.{partner, is_live, is_refused, greetings, joined}
use Rattle.byte_relay.proofs.Doing.{does_nothing}
use Rattle.byte_relay.proofs.Stepping.{by_step, at_ok, joins_refused, joins_pair, joins_alone, with_new}
use Rattle.byte_relay.proofs.relay.Relay.take_join.Goals as goal

pub returns-then-is_refused-clause-steps : goal.returns-then-is_refused-clause-steps
returns-then-is_refused-clause-steps g c = λ lines shows.
    let live : is_live c.args.conn lines ≡ false = sym (c.is_live.ensures lines shows) ∙ search rules in
    let refused : is_refused c.args.conn lines ≡ true = sym (c.is_refused.ensures lines shows) ∙ search rules in
    by_step (joined c.args.self.now.respeller.to c.args.conn lines) (record { line = Shut c.args.conn ∷ []; next = lines }) (joins_refused c.args.self.now.respeller.to c.args.conn lines live refused)
    (g.W.Told.outside c.args.world.now) (g.W.Told.outside c.shut.new.world) c.args.self.now.rows.items c.shut.result c.shut.ensures (at_ok c.shut.result shows)

pub returns-in-Some-clause-steps : goal.returns-in-Some-clause-steps
returns-in-Some-clause-steps g c = λ lines shows.
    let live : is_live c.args.conn lines ≡ false = sym (c.is_live.ensures lines shows) ∙ search rules in
    let refused : is_refused c.args.conn lines ≡ false = sym (c.is_refused.ensures lines shows) ∙ search rules in
    let other : is_live (partner c.args.conn) lines ≡ true = sym (rw c.partner.ensures at c.in-Some.ensures.live lines shows) in
    let number : c.in-Some.other ≡ partner c.args.conn = c.in-Some.ensures.conn ∙ c.partner.ensures in
    let order : c.order.result ≡ c.args.self.now.respeller.to = c.order.ensures ∙ c.join.ensures.order in
    by_step (joined c.args.self.now.respeller.to c.args.conn lines) (record { line = greetings c.args.self.now.respeller.to c.args.conn; next = with_new c.args.self.now.respeller.to c.args.conn lines }) (joins_pair c.args.self.now.respeller.to c.args.conn lines live refused other)
    (g.W.Told.outside c.args.world.now) (g.W.Told.outside c.greet.new.world) c.join.new.self.rows.items c.greet.result
    (rw (c.min.ensures, c.max.ensures, number, order) at c.greet.ensures) (at_ok c.greet.result (c.in-Ok.ensures.shows lines shows))

pub returns-in-None-clause-steps : goal.returns-in-None-clause-steps
returns-in-None-clause-steps g c = λ lines shows.
    let live : is_live c.args.conn lines ≡ false = sym (c.is_live.ensures lines shows) ∙ search rules in
    let refused : is_refused c.args.conn lines ≡ false = sym (c.is_refused.ensures lines shows) ∙ search rules in
    let other : is_live (partner c.args.conn) lines ≡ false = sym (rw c.partner.ensures at c.in-None.ensures.live lines shows) in
    by_step (joined c.args.self.now.respeller.to c.args.conn lines) (record { line = []; next = with_new c.args.self.now.respeller.to c.args.conn lines }) (joins_alone c.args.self.now.respeller.to c.args.conn lines live refused other)
    (g.W.Told.outside c.args.world.now) (g.W.Told.outside c.args.world.now) c.join.new.self.rows.items (Ok tt)
    (does_nothing (g.W.Told.outside c.args.world.now) tt) (c.in-Ok.ensures.shows lines shows)
