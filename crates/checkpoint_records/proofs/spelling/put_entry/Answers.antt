use Rattle.std.proofs.lemmas.Result.{on_ok_weaker}
use Rattle.checkpoint_records.proofs.SpellLaws.{entry_added}
use Rattle.checkpoint_records.proofs.spelling.put_entry.Goals as goal

pub returns : goal.returns
returns c =
    on_ok_weaker c.put-2.result (λ h.
    entry_added c.args.entry.now c.in_ok-properties.properties c.args.out.now c.put.new.out c.put-2.new.out c.in_ok-properties.ensures.list c.in_ok-put.ensures.ok h) c.put-2.ensures.ok
