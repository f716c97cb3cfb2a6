use Rattle.std.proofs.Common.{rules, ◌≡◌, ◌+◌, ◌-◌, length, subst, Option, None}
use Rattle.std.specs.Prelude.{MatchOption}
use Rattle.std.specs.Option.{option_or}
use Rattle.ice_framing.specs.Frames.{Standing, fed, cut, order_of, StandsAt, IsOversize}
use Rattle.frame_speech.specs.Streams.{bytes_in}
use Rattle.frame_speech.proofs.Counted.{held_then, order_then}
use Rattle.frame_speech.proofs.cutter.FrameCutter.cut.Goals as goal

pub invariant_of-rest : goal.invariant_of-rest
invariant_of-rest c =
    let at : Standing = c.self.inside.rest in
    let to : Standing = c.in-Some-rest.rest in
    let behind : Standing = (cut (fed at c.args.piece.now)).standing in
    let goes : MatchOption c.in_ok-rest.rest (IsOversize behind) (λ (r : Standing). StandsAt behind r None) = search rules in
    let stands = subst (λ (o : Option Standing). MatchOption o (IsOversize behind) (λ (r : Standing). StandsAt behind r None)) c.in-Some-rest.is goes in
    let are : c.as_slice.result.now ≡ (cut (fed at c.args.piece.now)).frames = search rules in
    let sum : c.in-Some.all ≡ c.self.inside.held + length c.args.piece.now = search rules in
    let less : c.left_behind-held.result ≡ c.in-Some.all - length (bytes_in c.as_slice.result.now) = search rules in
    let order : c.or-order.result ≡ option_or c.self.inside.order (order_of c.as_slice.result.now) = search rules in (
      order_then at to c.args.piece.now c.self.inside.order c.or-order.result c.as_slice.result.now c.self.invariant.0 are stands.0 order,
      held_then at to c.args.piece.now c.self.inside.held c.in-Some.all c.left_behind-held.result c.as_slice.result.now c.self.invariant.1 sum are stands.0 less,
    )
