use Rattle.std.proofs.Common.{◌≡◌, ℕ, ◌+◌, ◌≤◌, List, ◌++◌, drop, arith, ap, ◌∙◌, subst}
use Rattle.ice_framing.specs.Frames.{Standing, fed, units, units_in, cut}
use Rattle.ice_framing.proofs.Feeding.{rejoined_twice, stated_alike}
use Rattle.ice_framing.proofs.splitting.Splitter.feed.Goals as goal

pub returns-clause-frames : goal.returns-clause-frames
returns-clause-frames c =
    let whole = rejoined_twice c.self.inside.held.items c.args.piece.now c.fill-head.new.held.items c.split_at.result.1.now c.fill.new.held.items c.fill-head.result c.fill.result c.fill-head.ensures.items c.split_at.ensures.back c.fill.ensures.items in
    subst (λ (at : Standing). cut (record { order = c.self.inside.order; held = c.fill.new.held.items ++ drop (c.fill-head.result + c.fill.result) c.args.piece.now }) ≡ cut (fed at c.args.piece.now)) c.self.view_is
    (ap (λ (bytes : List ℕ). cut (record { order = c.self.inside.order; held = bytes })) whole)

pub returns-clause-within : goal.returns-clause-within
returns-clause-within c =
    let alike = stated_alike c.self.inside.order c.self.inside.held.items c.args.piece.now c.fill-head.new.held.items c.split_at.result.1.now c.fill.new.held.items c.fill-head.result c.fill.result c.fill-head.ensures.items c.split_at.ensures.back c.fill.ensures.items c.fill-head.ensures.count in
    let stated : c.units_of-units.result ≡ units_in c.self.inside.order c.fill-head.new.held.items = c.units_of-units.ensures ∙ ap (units_in c.self.inside.order) c.deref.ensures.value in
    let held : units_in c.self.inside.order c.fill.new.held.items ≤ 8192 = omega (arith, alike.0, c.if-units-gt-UNIT_LIMIT.false) in
    let all : units_in c.self.inside.order (c.self.inside.held.items ++ c.args.piece.now) ≤ 8192 = omega (arith, alike.1, c.if-units-gt-UNIT_LIMIT.false) in
    (held, subst (λ (at : Standing). units (fed at c.args.piece.now) ≤ 8192) c.self.view_is all)
