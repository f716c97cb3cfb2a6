use Rattle.std.proofs.Common.{Bool, ◌||◌, subst, sym, ◌+◌}
use Rattle.frame_speech.specs.declared.speech.Speech.{Speech}
use Rattle.client_quirks.proofs.Walking.{Walking, walked_one}
use Rattle.client_quirks.proofs.speech.add_frames.Goals as goal

pub loop-frame-preserved : goal.loop-frame-preserved
loop-frame-preserved c =
    let i = c.loop-frame.frame-index in
    let one = walked_one c.args.speech c.args.frames.now c.args.out.now c.loop-frame.so_far.speech c.loop-frame.so_far.changed c.loop-frame.out i c.frame-item.result c.add_frame.new.out c.in_ok-next.next.speech c.in_ok-next.next.changed c.loop-frame.invariant c.loop-frame-test.true c.frame-item.is c.in_ok-next.ensures.speech c.in_ok-next.ensures.changed c.in_ok-next.ensures.added in
    subst (λ (b : Bool). Walking c.args.speech c.args.frames.now c.args.out.now c.and_then-so_far.result.speech b c.add_frame.new.out (i + 1)) (sym c.and_then-so_far.ensures.changed)
    (subst (λ (s : Speech). Walking c.args.speech c.args.frames.now c.args.out.now s (c.loop-frame.so_far.changed || c.in_ok-next.next.changed) c.add_frame.new.out (i + 1)) (sym c.and_then-so_far.ensures.speech) one)
