use Rattle.std.proofs.Common.{◌≡◌, ◌<◌, ◌^◌, not, true, false, Bool, sym, ◌∙◌, ap, refl, arith}
use Rattle.std.specs.Str.{bytes_eq}
use Rattle.checkpoint_records.specs.Rules.{hex8}
use Rattle.checkpoint_records.proofs.FindLaws.{nothing}
use Rattle.checkpoint_records.proofs.IdLaws.{hex8_front, not_digits, not_lower, hex8_found}
use Rattle.checkpoint_records.proofs.ids.take_hex8.Goals as goal

not_is : (a b : Bool) → b ≡ not a → a ≡ not b
not_is true b e = rw e refl
not_is false b e = rw e refl

pub returns-in_err-digits : goal.returns-in_err-digits
returns-in_err-digits c = rw c.from_residual.ensures (nothing hex8 (λ n. n < 2 ^ 32) c.args.text.now (λ n rest lt is. omega (arith, (hex8_front c.args.text.now n rest is).0, c.in_err-digits.ensures.cases)))

pub returns-then-is_err : goal.returns-then-is_err
returns-then-is_err c =
    not_digits c.args.text.now c.in_ok-digits.digits.now c.in_ok-digits.rest.now c.decode_to_slice.new.out c.decode_to_slice.new.out c.decode_to_slice.result c.decode_to_slice.result
    c.in_ok-digits.ensures.cases.1 c.in_ok-digits.ensures.cases.2 c.decode_to_slice.ensures.value (sym c.if-is_err.ensures.value)

pub returns-then-ne : goal.returns-then-ne
returns-then-ne c =
    let lower : c.as_slice.result.now ≡ c.encode_to_slice.new.output = c.as_slice.ensures in
    not_lower c.args.text.now c.in_ok-digits.digits.now c.in_ok-digits.rest.now c.decode_to_slice.new.out c.encode_to_slice.new.output c.decode_to_slice.result c.encode_to_slice.result
    c.in_ok-digits.ensures.cases.1 c.in_ok-digits.ensures.cases.2 c.decode_to_slice.ensures.value (c.encode_to_slice.ensures.fits.1 (omega (arith, c.decode_to_slice.auto.out))) c.encode_to_slice.ensures.written
    (ap (bytes_eq c.in_ok-digits.digits.now) (sym lower) ∙ not_is (bytes_eq c.in_ok-digits.digits.now c.as_slice.result.now) true c.if-ne.ensures)

pub returns : goal.returns
returns c =
    let lower : c.as_slice.result.now ≡ c.encode_to_slice.new.output = c.as_slice.ensures in
    hex8_found c.args.text.now c.in_ok-digits.digits.now c.in_ok-digits.rest.now c.decode_to_slice.new.out c.encode_to_slice.new.output c.decode_to_slice.result c.encode_to_slice.result
    c.in_ok-digits.ensures.cases.1 c.in_ok-digits.ensures.cases.2 c.decode_to_slice.ensures.value c.read_card32.result c.in_ok-digits.ensures.cases.0 c.in_ok-digits.ensures.cases.3 (sym c.if-is_err.ensures.value)
    (c.encode_to_slice.ensures.fits.1 (omega (arith, c.decode_to_slice.auto.out))) c.encode_to_slice.ensures.written
    (ap (bytes_eq c.in_ok-digits.digits.now) (sym lower) ∙ not_is (bytes_eq c.in_ok-digits.digits.now c.as_slice.result.now) false c.if-ne.ensures) c.read_card32.ensures
