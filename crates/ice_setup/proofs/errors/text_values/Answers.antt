use Rattle.std.proofs.Common.{◌≡◌, ℕ, List, ◌++◌, ◌+◌, ◌%◌, refl, ◌∙◌, sym, ap, subst, arith, length}
use Rattle.ice_values.specs.Cells.{free, zeros, pad_len}
use Rattle.ice_values.specs.Fields.{text16}
use Rattle.ice_values.specs.declared.numbers.Endian.TheVariants.{Lsb}
use Rattle.ice_values.proofs.CellLaws.{zeros-append, length-zeros}
use Rattle.ice_setup.specs.Errors.{text_values}
use Rattle.ice_setup.proofs.SaidLaws.{length-text_values}
use Rattle.ice_setup.proofs.errors.text_values.Goals as goal

-- a text's spelling, and zeros to a unit
spelled : (text out last : List ℕ) (padding : ℕ) → out ≡ zeros (text16 Lsb text) → padding ≡ pad_len (length out) 8 → last ≡ out ++ zeros (free padding) → last ≡ text_values text
spelled text out last padding is count grown = grown ∙ rw (count, is, length-zeros (text16 Lsb text)) (sym (zeros-append (text16 Lsb text) (free (pad_len (length (text16 Lsb text)) 8))))

filled : (n m : ℕ) → m ≡ pad_len n 8 → (n + m) % 8 ≡ 0
filled n m is = omega arith

units : (text values : List ℕ) → values ≡ text_values text → length values % 8 ≡ 0
units text values is =
    let n : ℕ = length (text16 Lsb text) in
    subst (λ (m : ℕ). m % 8 ≡ 0) (sym (ap length is ∙ length-text_values text)) (filled n (pad_len n 8) refl)

pub returns-clause-spelled : goal.returns-clause-spelled
returns-clause-spelled c =
    spelled c.args.text.now c.put_text16.new.out c.put_zeros.new.out c.pad.result
    (c.in_ok-put_text16.ensures.ok ∙ ap (λ (front : List ℕ). front ++ zeros (text16 Lsb c.args.text.now)) c.new-values.ensures) (rw (← c.len.ensures) c.pad.ensures.is) c.in_ok-put_zeros.ensures.ok

pub returns-clause-units : goal.returns-clause-units
returns-clause-units c = units c.args.text.now c.put_zeros.new.out (returns-clause-spelled c)
