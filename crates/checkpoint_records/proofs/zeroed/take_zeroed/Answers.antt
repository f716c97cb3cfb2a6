use Rattle.std.proofs.Common.{ℕ, List, ◌++◌, ◌∙◌, sym, ap, subst, Some, None}
use Rattle.ice_values.specs.Cells.{zeros}
use Rattle.std.proofs.lemmas.Slice.Eq.{strip_prefix_is}
use Rattle.std.proofs.lemmas.Bool.Decides.{Decides-eqb}
use Rattle.ice_values.specs.Reading.{IsBytes}
use Rattle.ice_values.specs.declared.numbers.Endian.TheVariants.{Lsb}
use Rattle.ice_values.proofs.CellLaws.{slice_bytes}
use Rattle.checkpoint_records.proofs.ZeroLaws.{bytes-take, none_seen, read_fits, found, missing}
use Rattle.checkpoint_records.proofs.zeroed.take_zeroed.Goals as goal

pub returns-in-Err-Short : goal.returns-in-Err-Short
returns-in-Err-Short g c =
    none_seen (g.T.Spelled.cells Lsb) g.T.Spelled.is_spelled (g.T.Spelled.front Lsb) c.requires 65536 c.args.bytes.now c.window.result.now c.window.ensures (rw c.in-Err-Short.field-0-is at c.in-Err-Short.ensures)

pub put-requires : goal.put-requires
put-requires g c =
    let fits : IsBytes c.window.result.now = subst IsBytes (sym c.window.ensures) (bytes-take 65536 c.args.bytes.now (slice_bytes c.args.bytes.now c.type_inv.bytes)) in
    read_fits (g.T.Spelled.cells Lsb) g.T.Spelled.is_spelled (g.T.Spelled.front Lsb) c.requires 65536 c.window.result.now c.in-Ok.value _ fits c.in-Ok.ensures

pub returns-in-Some : goal.returns-in-Some
returns-in-Some g c =
    found (g.T.Spelled.cells Lsb) g.T.Spelled.is_spelled (g.T.Spelled.front Lsb) c.requires 65536 c.args.bytes.now c.window.result.now c.in-Ok.value _ c.in-Some.rest.now c.as_slice.result.now
    (slice_bytes c.args.bytes.now c.type_inv.bytes) c.window.ensures c.in-Ok.ensures (c.as_slice.ensures ∙ c.in_ok-put.ensures.ok ∙ ap (λ (l : List ℕ). l ++ zeros (g.T.Spelled.cells Lsb c.in-Ok.value)) c.new-again.ensures) (strip_prefix_is Decides-eqb c.args.bytes.now c.as_slice.result.now (Some c.in-Some.rest) c.in-Some.ensures.cases)

pub returns : goal.returns
returns g c =
    missing (g.T.Spelled.cells Lsb) g.T.Spelled.is_spelled (g.T.Spelled.front Lsb) c.requires 65536 c.args.bytes.now c.window.result.now c.in-Ok.value _ c.as_slice.result.now
    c.window.ensures c.in-Ok.ensures (c.as_slice.ensures ∙ c.in_ok-put.ensures.ok ∙ ap (λ (l : List ℕ). l ++ zeros (g.T.Spelled.cells Lsb c.in-Ok.value)) c.new-again.ensures) (strip_prefix_is Decides-eqb c.args.bytes.now c.as_slice.result.now None c.in-None.ensures.cases)
