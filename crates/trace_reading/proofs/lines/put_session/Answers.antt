use Rattle.ice_values.proofs.OptionLaws.{on_ok_by}
use Rattle.trace_reading.proofs.LineLemmas.{session_line}
use Rattle.trace_reading.proofs.lines.put_session.Goals as goal

pub returns : goal.returns
returns c =
    rw (c.in-Some.is) (on_ok_by c.append-2.result _ _
    (session_line c.in-Some.name c.args.out.now c.put_stamp.new.out c.append.new.self c.put_plain.new.out c.append-2.new.self c.in_ok-put_stamp.ensures c.in_ok-append.ensures.ok (rw c.as_slice.ensures at c.in_ok-put_plain.ensures))
    c.append-2.ensures.ok)
