use Rattle.trace_replay.proofs.WatchLemmas.{put_came}
use Rattle.ice_values.proofs.OptionLaws.{on_ok_by}
use Rattle.trace_replay.proofs.showing.put_heard.Goals as goal

pub returns-in-Piece : goal.returns-in-Piece
returns-in-Piece c =
    rw (c.in-Piece.is) (on_ok_by c.put_parts.result _ _ (put_came c.in-Piece.conn c.in-Piece.field-1 c.args.brought.now c.args.out.now c.put_parts.new.out) c.put_parts.ensures)
