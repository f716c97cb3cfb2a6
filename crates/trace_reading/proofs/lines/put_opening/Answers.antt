use Rattle.ice_values.proofs.OptionLaws.{on_ok_by}
use Rattle.trace_reading.specs.Lines.{book_told, if_said, patience_told, session_told}
use Rattle.trace_reading.proofs.LineLemmas.{three}
use Rattle.trace_replay.specs.Openings.{book_opened}
use Rattle.trace_reading.proofs.lines.put_opening.Goals as goal

pub returns : goal.returns
returns c =
    on_ok_by c.put_session.result _ _
    (three c.args.out.now c.put_opened.new.out c.put_patience.new.out c.put_session.new.out (if_said book_told (book_opened c.args.opening.now)) (if_said patience_told c.args.opening.now.patience) (if_said session_told c.args.opening.now.session) c.in_ok-put_opened.ensures c.in_ok-put_patience.ensures)
    c.put_session.ensures
