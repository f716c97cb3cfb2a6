use Rattle.ice_values.specs.declared.view.PropertyView.{PropertyView}
use Rattle.ice_values.proofs.PropertyLaws.{array8_list_exact}
use Rattle.ice_values.proofs.WalkLaws.{no_name, no_kind, no_values, shows}
use Rattle.ice_values.proofs.view.cut_property.Goals as goal

pub returns-in_err-name : goal.returns-in_err-name
returns-in_err-name c = rw c.from_residual.ensures (no_name c.args.endian c.args.bytes.now c.in_err-name.ensures)

pub returns-in_err-kind : goal.returns-in_err-kind
returns-in_err-kind c =
    rw c.from_residual-in_err-kind.ensures (no_kind c.args.endian c.args.bytes.now c.in_ok-name.name.now c.in_ok-name.rest.now c.in_ok-name.ensures c.in_err-kind.ensures)

pub cut_front-requires : goal.cut_front-requires
cut_front-requires c = array8_list_exact c.args.endian

pub returns-in_err-values : goal.returns-in_err-values
returns-in_err-values c =
    rw c.from_residual-in_err-values.ensures (no_values c.args.endian c.args.bytes.now c.in_ok-name.name.now c.in_ok-name.rest.now c.in_ok-kind.kind.now c.in_ok-kind.rest.now c.in_ok-name.ensures c.in_ok-kind.ensures c.in_err-values.ensures)

pub returns : goal.returns
returns c =
    let view : PropertyView = record { name = c.in_ok-name.name; kind = c.in_ok-kind.kind; values = c.in_ok-values.values } in
    shows c.args.endian c.args.bytes.now c.in_ok-name.rest.now c.in_ok-kind.rest.now c.in_ok-values.rest.now view c.in_ok-name.ensures c.in_ok-kind.ensures c.in_ok-values.ensures
