use Rattle.std.proofs.Common.{length}
use Rattle.std.proofs.lemmas.Result.{on_ok_weaker}
use Rattle.ice_values.specs.Cells.{free, zeros}
use Rattle.ice_values.specs.Fields.{proof_data}
use Rattle.ice_values.specs.Numbers.{number_bytes}
use Rattle.ice_values.proofs.WriteLaws.{adds_three, zeros-proof_data}
use Rattle.ice_values.proofs.writing.put_proof_data.Goals as goal

pub returns-clause-ok : goal.returns-clause-ok
returns-clause-ok c =
    on_ok_weaker c.put_bytes.result
    (λ h. adds_three c.args.out.now (number_bytes c.args.endian 2 (length c.args.data.now)) (zeros (free 6)) c.args.data.now (zeros (proof_data c.args.endian c.args.data.now))
    c.put_card16.new.out c.put_zeros.new.out c.put_bytes.new.out c.in_ok-put_card16.ensures.ok c.in_ok-put_zeros.ensures.ok h (zeros-proof_data c.args.endian c.args.data.now))
    c.put_bytes.ensures.ok
