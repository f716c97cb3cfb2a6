use Rattle.std.proofs.Common.{◌≡◌, ◌++◌, subst}
use Rattle.std.specs.Prelude.{OnOk}
use Rattle.std.proofs.lemmas.Result.{on_ok_weaker}
use Rattle.ice_values.specs.Cells.{byte, zeros}
use Rattle.ice_values.specs.Fields.{ErrorFields, error_body}
use Rattle.ice_values.proofs.WriteLaws.{adds_error}
use Rattle.ice_values.proofs.writing.put_error.Goals as goal

pub returns-clause-ok : goal.returns-clause-ok
returns-clause-ok c =
    let fields : ErrorFields = record { class = c.error.inside.class; minor = c.error.inside.minor; severity = c.error.inside.severity; sequence = c.error.inside.sequence; values = c.error.inside.values } in
    subst (λ (v : ErrorFields). OnOk c.put_error_parts.result (c.put_error_parts.new.out ≡ c.args.out.now ++ zeros (error_body byte c.args.endian v))) c.error.view_is
    (on_ok_weaker c.put_error_parts.result (λ h. adds_error c.args.endian fields c.args.out.now c.put_error_parts.new.out c.as_slice.result.now c.number.result c.number.ensures c.as_slice.ensures h) c.put_error_parts.ensures.ok)
