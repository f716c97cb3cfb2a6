use Rattle.std.proofs.Common.{ℕ, ◌∙◌, ◌<◌, ◌^◌, arith}
use Rattle.checkpoint_records.specs.Parts.{IsHead}
use Rattle.checkpoint_records.specs.Spelling.{format_number}
use Rattle.checkpoint_records.proofs.FindLaws.{nothing, found_is, none_found, number, head_is}
use Rattle.checkpoint_records.proofs.OnceLaws.{head_bytes, few_counted, few_formats}
use Rattle.checkpoint_records.proofs.head.take_head.Goals as goal

abbrev IsNumber : ℕ → Type 0
IsNumber n = n < 2 ^ 32

pub returns-in_err-number : goal.returns-in_err-number
returns-in_err-number c = rw c.from_residual.ensures (
    nothing head_bytes IsHead c.args.bytes.now (λ head rest fits is.
    none_found number IsNumber c.args.bytes.now (format_number head.format) _ c.in_err-number.ensures (few_formats head.format) (is ∙ head_is head rest)))

pub returns-in_err-epoch : goal.returns-in_err-epoch
returns-in_err-epoch c = rw c.from_residual-in_err-epoch.ensures (
    nothing head_bytes IsHead c.args.bytes.now (λ head rest fits is.
    let first = found_is number IsNumber c.args.bytes.now c.in_ok-number.number (format_number head.format) c.in_ok-number.rest.now _ c.in_ok-number.ensures (few_formats head.format) (is ∙ head_is head rest) in
    none_found number IsNumber c.in_ok-number.rest.now head.epoch _ c.in_err-epoch.ensures fits.epoch first.1))

pub returns-in_err-count : goal.returns-in_err-count
returns-in_err-count c = rw c.from_residual-in_err-count.ensures (
    nothing head_bytes IsHead c.args.bytes.now (λ head rest fits is.
    let first = found_is number IsNumber c.args.bytes.now c.in_ok-number.number (format_number head.format) c.in_ok-number.rest.now _ c.in_ok-number.ensures (few_formats head.format) (is ∙ head_is head rest) in
    let epoch = found_is number IsNumber c.in_ok-number.rest.now c.in_ok-epoch.epoch head.epoch c.in_ok-epoch.rest.now _ c.in_ok-epoch.ensures fits.epoch first.1 in
    none_found number IsNumber c.in_ok-epoch.rest.now head.count _ c.in_err-count.ensures (few_counted head.format head.count fits.count) epoch.1))

pub returns-in_err-pending : goal.returns-in_err-pending
returns-in_err-pending c = rw c.from_residual-in_err-pending.ensures (
    nothing head_bytes IsHead c.args.bytes.now (λ head rest fits is.
    let first = found_is number IsNumber c.args.bytes.now c.in_ok-number.number (format_number head.format) c.in_ok-number.rest.now _ c.in_ok-number.ensures (few_formats head.format) (is ∙ head_is head rest) in
    let epoch = found_is number IsNumber c.in_ok-number.rest.now c.in_ok-epoch.epoch head.epoch c.in_ok-epoch.rest.now _ c.in_ok-epoch.ensures fits.epoch first.1 in
    let count = found_is number IsNumber c.in_ok-epoch.rest.now c.in_ok-count.count head.count c.in_ok-count.rest.now _ c.in_ok-count.ensures (few_counted head.format head.count fits.count) epoch.1 in
    none_found number IsNumber c.in_ok-count.rest.now head.pending _ c.in_err-pending.ensures (omega (arith, fits.pending)) count.1))
