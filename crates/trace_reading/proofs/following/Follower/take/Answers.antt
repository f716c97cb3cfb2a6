use Rattle.std.proofs.Common.{refl}
use Rattle.ice_values.proofs.OptionLaws.{on_ok_by}
use Rattle.trace_reading.proofs.FollowLemmas.{keeps_on, tells_on_line}
use Rattle.trace_reading.proofs.following.Follower.take.Goals as goal

pub returns-then-opens : goal.returns-then-opens
returns-then-opens c = on_ok_by c.take_opening.result _ _ (λ keeps. keeps_on c.args.line.now c.args.self.now c.take_opening.new.self c.args.out.now keeps) c.take_opening.ensures

pub returns : goal.returns
returns c =
    tells_on_line c.args.line.now c.in_ok-said.said c.args.self.now c.end_opening.new.self c.tell.new.self c.args.out.now c.end_opening.new.out c.tell.new.out (c.if-opens.ensures refl) c.in_ok-end_opening.ensures c.in_ok-said.ensures.says c.in_ok-tell.ensures
