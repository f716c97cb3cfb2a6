use Rattle.ice_values.proofs.OptionLaws.{on_ok_by}
use Rattle.trace_reading.proofs.LineLemmas.{patience_line}
use Rattle.trace_reading.proofs.lines.put_patience.Goals as goal

pub returns : goal.returns
returns c =
    rw (c.in-Some.is) (on_ok_by c.append.result _ _
    (patience_line c.in-Some.patience c.args.out.now c.put_stamp.new.out c.put_counted.new.out c.append.new.self c.in_ok-put_stamp.ensures c.in_ok-put_counted.ensures)
    c.append.ensures.ok)
