use Rattle.std.proofs.Common.{◌≡◌, ◌+◌, List, ◌∷◌, drop, sym, ◌∙◌, ap, rules}
use Rattle.std.specs.Prelude.{option_copied}
use Rattle.std.proofs.lemmas.List.{drop_more}
use Rattle.ice_framing.specs.declared.cutting.WholeFrame.{WholeFrame}
use Rattle.trace_reading.proofs.PartLemmas.{going_all, going_more}
use Rattle.trace_reading.proofs.telling.put_sent_frames.Goals as goal

pub loop-frame-preserved : goal.loop-frame-preserved
loop-frame-preserved c =
    let rest : List WholeFrame = drop (c.loop-frame.frame-index + 1) c.args.frames.now in
    let left : drop c.loop-frame.frame-index c.args.frames.now ≡ c.frame-item.result ∷ rest = drop_more c.args.frames.now c.loop-frame.frame-index c.frame-item.result c.loop-frame-test.true ∙ ap (λ frame. frame ∷ rest) (sym c.frame-item.is) in
    going_more c.args.clock c.args.conn (option_copied c.args.known) c.args.frames.now c.loop-frame.frame-index c.frame-item.result c.args.out.now c.loop-frame.out c.put_part.new.out c.loop-frame.invariant left (search rules)

pub returns : goal.returns
returns c = going_all c.args.clock c.args.conn (option_copied c.args.known) c.args.frames.now c.loop-frame.frame-index c.args.out.now c.loop-frame.out c.loop-frame.invariant (search rules)
