use Rattle.std.proofs.lemmas.Result.{on_ok_weaker}
use Rattle.display_messages.proofs.RequestLaws.{adds_event}
use Rattle.display_messages.proofs.encoding.put_event.Goals as goal

pub returns : goal.returns
returns c = on_ok_weaker c.put_longs-2.result (λ h. adds_event c.args.window c.args.events c.args.message.now c.args.out.now c.put_head.new.out c.put_longs.new.out c.put_bytes.new.out c.put_longs-2.new.out c.in_ok-put_head.ensures c.in_ok-put_longs.ensures c.in_ok-put_bytes.ensures.ok h) c.put_longs-2.ensures
