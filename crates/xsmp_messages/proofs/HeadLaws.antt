-- A message whose head is added at once.
use Rattle.std.proofs.Common.{◌≡◌, ℕ, ◌+◌, ◌/◌, List, [], ◌∷◌, ◌++◌, length, refl, sym, ap, ◌∙◌, append_assoc}
use Rattle.ice_values.specs.Cells.{Cells, zeros, free, pad_len}
use Rattle.ice_values.specs.Numbers.{number_bytes}
use Rattle.ice_values.specs.Fields.{spelling}
use Rattle.ice_values.specs.declared.numbers.Endian.{Endian}
use Rattle.ice_values.proofs.WriteLaws.{adds_message}

-- a head, and then the body with its padding
pub adds_headed : (e : Endian) (opcode minor count padding : ℕ) (own body : Cells) (old head mid new : List ℕ) → count ≡ length body → padding ≡ pad_len count 8
    → head ≡ opcode ∷ minor ∷ (zeros own ++ number_bytes e 4 ((count + padding) / 8)) → mid ≡ old ++ head → new ≡ mid ++ (zeros body ++ zeros (free padding))
    → new ≡ old ++ zeros (spelling e opcode minor own body)
adds_headed e opcode minor count padding own body old head mid new is_count is_padding is_head p q =
    let units : List ℕ = number_bytes e 4 ((count + padding) / 8) in
    let one : List ℕ = old ++ (opcode ∷ minor ∷ []) in
    let three : mid ≡ (one ++ zeros own) ++ units =
    p ∙ ap (λ (l : List ℕ). old ++ l) is_head ∙ sym (append_assoc old (opcode ∷ minor ∷ []) (zeros own ++ units)) ∙ sym (append_assoc one (zeros own) units) in
    adds_message e opcode minor count padding own body old one (one ++ zeros own) mid (mid ++ zeros body) new is_count is_padding refl refl three refl
    (q ∙ sym (append_assoc mid (zeros body) (zeros (free padding))))
