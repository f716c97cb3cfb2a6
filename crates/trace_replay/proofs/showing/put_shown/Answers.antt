use Rattle.trace_replay.proofs.WatchLemmas.{put_went}
use Rattle.ice_values.proofs.OptionLaws.{on_ok_by}
use Rattle.trace_replay.proofs.showing.put_shown.Goals as goal

pub returns-in-Sent : goal.returns-in-Sent
returns-in-Sent c =
    rw (c.in-Sent.is) (on_ok_by c.put_parts.result _ _ (put_went c.in-Sent.conn c.in-Sent.field-1 c.args.brought.now c.args.out.now c.put_parts.new.out) c.put_parts.ensures)
