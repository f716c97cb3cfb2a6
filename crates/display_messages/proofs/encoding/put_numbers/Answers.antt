use Rattle.std.proofs.lemmas.Result.{on_ok_weaker}
use Rattle.display_messages.proofs.RequestLaws.{adds_numbers}
use Rattle.display_messages.proofs.encoding.put_numbers.Goals as goal

pub returns : goal.returns
returns c = on_ok_weaker c.put_longs.result (λ h. adds_numbers c.args.opcode c.args.own c.args.numbers.now c.args.out.now c.put_head.new.out c.put_longs.new.out c.in_ok-put_head.ensures h) c.put_longs.ensures
