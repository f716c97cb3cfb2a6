use Rattle.std.proofs.Common.{◌≡◌, rules}
use Rattle.std.specs.Prelude.{option_copied}
use Rattle.ice_values.proofs.OptionLaws.{on_ok_by}
use Rattle.trace_reading.proofs.PartLemmas.{went_header}
use Rattle.trace_reading.proofs.telling.put_sent.Goals as goal

pub returns : goal.returns
returns c =
    let frames : c.as_slice.result.now ≡ c.args.brought.now.frames = search rules in
    on_ok_by c.put_oversize.result _ _
    (λ line. went_header c.args.clock c.args.conn (option_copied c.args.known) c.args.brought.now c.args.out.now c.put_sent_frames.new.out c.put_oversize.new.out (search rules) (rw frames at c.in_ok-put_sent_frames.ensures) line)
    c.put_oversize.ensures
