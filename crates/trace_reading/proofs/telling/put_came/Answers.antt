use Rattle.std.proofs.Common.{◌≡◌, rules}
use Rattle.trace_reading.proofs.PartLemmas.{came_header}
use Rattle.trace_reading.proofs.telling.put_came.Goals as goal

pub returns : goal.returns
returns c =
    let frames : c.as_slice.result.now ≡ c.args.brought.now.frames = search rules in
    came_header c.args.clock c.args.conn c.args.known c.in_ok-program.program c.args.brought.now c.args.out.now c.put_came_frames.new.out c.put_oversize.new.out (search rules) (rw frames at c.in_ok-program.ensures) (search rules)
