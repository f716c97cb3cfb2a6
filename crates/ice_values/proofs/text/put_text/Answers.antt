use Rattle.std.proofs.Common.{length}
use Rattle.std.proofs.lemmas.Result.{on_ok_weaker}
use Rattle.ice_values.specs.Cells.{free, zeros}
use Rattle.ice_values.specs.Fields.{text16}
use Rattle.ice_values.specs.Numbers.{number_bytes}
use Rattle.ice_values.proofs.WriteLaws.{adds_three, zeros-text16}
use Rattle.ice_values.proofs.text.put_text.Goals as goal

pub returns-clause-ok : goal.returns-clause-ok
returns-clause-ok c =
    on_ok_weaker c.put_zeros.result
    (λ h. adds_three c.args.out.now (number_bytes c.args.endian 2 (length c.args.text.now)) c.args.text.now (zeros (free c.pad.result)) (zeros (text16 c.args.endian c.args.text.now))
    c.put_card16.new.out c.put_bytes.new.out c.put_zeros.new.out c.in_ok-put_card16.ensures.ok c.in_ok-put_bytes.ensures.ok h (zeros-text16 c.args.endian c.args.text.now c.pad.result c.pad.ensures.is))
    c.put_zeros.ensures.ok
