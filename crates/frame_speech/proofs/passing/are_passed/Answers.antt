use Rattle.std.proofs.Common.{sym, ◌∙◌}
use Rattle.frame_speech.proofs.Passed.{one_passed, all_passed}
use Rattle.frame_speech.proofs.passing.are_passed.Goals as goal

pub loop-len-preserved : goal.loop-len-preserved
loop-len-preserved g c = one_passed (g.H.Heeds.ignores c.args.heeds.now) c.args.endian c.args.bytes.now c.loop-len.rest.now c.split_at.result.0.now c.split_at.result.1.now c.in-Some.len c.loop-len.invariant c.in-Some.ensures.front c.split_at.ensures.front c.split_at.ensures.back (c.heeds.ensures c.if-heeds.false)

pub returns : goal.returns
returns g c = λ empty. all_passed (g.H.Heeds.ignores c.args.heeds.now) c.args.endian c.args.bytes.now c.loop-len.rest.now c.loop-len.invariant (sym c.is_empty.ensures ∙ empty)
