use Rattle.std.proofs.lemmas.Result.{on_ok_weaker}
use Rattle.display_messages.proofs.RequestLaws.{adds_setup}
use Rattle.display_messages.proofs.encoding.put_setup.Goals as goal

pub returns : goal.returns
returns c = on_ok_weaker c.put_padded-2.result (λ h. adds_setup c.args.name.now c.args.proof.now c.args.out.now c.put_bytes.new.out c.put_card16.new.out c.put_card16-2.new.out c.put_bytes-2.new.out c.put_padded.new.out c.put_padded-2.new.out c.in_ok-put_bytes.ensures.ok c.in_ok-put_card16.ensures.ok c.in_ok-put_card16-2.ensures.ok c.in_ok-put_bytes-2.ensures.ok c.in_ok-put_padded.ensures h) c.put_padded-2.ensures
