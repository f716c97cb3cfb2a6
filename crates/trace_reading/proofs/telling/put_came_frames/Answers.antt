use Rattle.std.proofs.Common.{◌≡◌, ◌+◌, List, ◌∷◌, drop, sym, ◌∙◌, ap, rules}
use Rattle.std.proofs.lemmas.List.{drop_more}
use Rattle.ice_framing.specs.declared.cutting.WholeFrame.{WholeFrame}
use Rattle.trace_reading.proofs.PartLemmas.{coming_all, coming_more, coming_none}
use Rattle.trace_reading.proofs.telling.put_came_frames.Goals as goal

pub loop-frame-init : goal.loop-frame-init
loop-frame-init c = coming_none c.args.clock c.args.conn c.args.known c.args.frames.now c.args.out.now

pub loop-frame-preserved : goal.loop-frame-preserved
loop-frame-preserved c =
    let rest : List WholeFrame = drop (c.loop-frame.frame-index + 1) c.args.frames.now in
    let left : drop c.loop-frame.frame-index c.args.frames.now ≡ c.frame-item.result ∷ rest = drop_more c.args.frames.now c.loop-frame.frame-index c.frame-item.result c.loop-frame-test.true ∙ ap (λ frame. frame ∷ rest) (sym c.frame-item.is) in
    coming_more c.args.clock c.args.conn c.args.known c.loop-frame.program c.in_ok-program.program c.args.frames.now c.loop-frame.frame-index c.frame-item.result c.args.out.now c.loop-frame.out c.put_part.new.out c.loop-frame.invariant left (search rules) (search rules)

pub returns : goal.returns
returns c = coming_all c.args.clock c.args.conn c.args.known c.loop-frame.program c.args.frames.now c.loop-frame.frame-index c.args.out.now c.loop-frame.out c.loop-frame.invariant (search rules)
