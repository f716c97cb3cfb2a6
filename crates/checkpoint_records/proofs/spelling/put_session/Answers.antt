use Rattle.std.proofs.lemmas.Result.{on_ok_weaker}
use Rattle.checkpoint_records.proofs.SpellLaws.{session_added}
use Rattle.checkpoint_records.proofs.spelling.put_session.Goals as goal

pub returns : goal.returns
returns c =
    on_ok_weaker c.put_entries.result (λ h.
    session_added (record { name = c.args.name.now; entries = c.args.entries.now }) c.args.out.now c.put.new.out c.put_card32.new.out c.put_card32-2.new.out c.put_entries.new.out
    c.in_ok-put.ensures.ok c.in_ok-put_card32.ensures.ok c.in_ok-put_card32-2.ensures.ok h) c.put_entries.ensures
