use Rattle.std.proofs.Common.{List, map, arith, subst}
use Rattle.ice_framing.specs.Parts.{Whole}
use Rattle.ice_framing.specs.declared.cutting.WholeFrame.{WholeFrame}
use Rattle.ice_values.proofs.OptionLaws.{on_ok_by}
use Rattle.trace_replay.specs.Parts.{ShowsParts}
use Rattle.trace_replay.proofs.PartLemmas.{put_header}
use Rattle.trace_replay.proofs.parts.put_parts.Goals as goal

pub returns-then-brought : goal.returns-then-brought
returns-then-brought c =
    let shows : ShowsParts c.args.channel c.args.brought.now.before (map Whole c.args.brought.now.frames) c.args.out.now c.put_frames.new.out c.in_ok-count.count =
    subst (λ (fs : List WholeFrame). ShowsParts c.args.channel c.args.brought.now.before (map Whole fs) c.args.out.now c.put_frames.new.out c.in_ok-count.count) c.as_slice.ensures c.in_ok-count.ensures in
    on_ok_by c.put_line.result _ _ (λ line. put_header c.args.channel c.args.brought.now c.args.out.now c.put_frames.new.out c.put_line.new.out c.in_ok-count.count c.saturating_add.result c.if-brought.true shows (λ fits. omega (arith, c.saturating_add.ensures)) line) c.put_line.ensures
