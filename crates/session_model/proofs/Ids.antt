-- IDs of different numbers differ.
use Rattle.std.proofs.Common.{◌≡◌, ℕ, zero, suc, ◌^◌, ◌<◌, List, [], sym, ap, ◌∙◌, arith, Result, Ok}
use Rattle.std.proofs.lemmas.List.{append-nil}
use Rattle.byteorder.specs.Endian.{big_bytes, big_number}
use Rattle.byteorder.specs.Numbers.{big_number-reads_back}
use Rattle.hex.specs.Hex.{IsBytes, decode_of, encode_with}
use Rattle.hex.specs.declared.error.FromHexError.{FromHexError}
use Rattle.hex.proofs.HexLemmas.{decode_of-encode_lower}
use Rattle.checkpoint_records.specs.Rules.{hex8, client_id}

are-bytes : (n : ℕ) → IsBytes (big_bytes 4 n)
are-bytes n zero = omega arith
are-bytes n (suc zero) = omega arith
are-bytes n (suc (suc zero)) = omega arith
are-bytes n (suc (suc (suc zero))) = omega arith
are-bytes n (suc (suc (suc (suc i)))) = omega arith

ok-same : (xs ys : List ℕ) (r s : Result (List ℕ) FromHexError) → r ≡ s → r ≡ Ok xs → s ≡ Ok ys → xs ≡ ys
ok-same xs ys r s e f g = cc

same-bytes : (m n : ℕ) → hex8 m ≡ hex8 n → big_bytes 4 m ≡ big_bytes 4 n
same-bytes m n e =
    ok-same (big_bytes 4 m) (big_bytes 4 n) (decode_of (hex8 m)) (decode_of (hex8 n)) (ap (λ (text : List ℕ). decode_of text) e) (decode_of-encode_lower (big_bytes 4 m) (are-bytes m)) (decode_of-encode_lower (big_bytes 4 n) (are-bytes n))

read-back : (n : ℕ) → n < 2 ^ 32 → big_number 4 (big_bytes 4 n) ≡ n
read-back n l = ap (λ (xs : List ℕ). big_number 4 xs) (sym (append-nil (big_bytes 4 n))) ∙ big_number-reads_back 4 n [] l

same-number : (m n : ℕ) → m < 2 ^ 32 → n < 2 ^ 32 → hex8 m ≡ hex8 n → m ≡ n
same-number m n k l e = sym (read-back m k) ∙ ap (λ (xs : List ℕ). big_number 4 xs) (same-bytes m n e) ∙ read-back n l

id-epoch : (e f m n : ℕ) → client_id e m ≡ client_id f n → hex8 e ≡ hex8 f
unfolding encode_with
id-epoch e f m n k = cc

id-number : (e f m n : ℕ) → client_id e m ≡ client_id f n → hex8 m ≡ hex8 n
unfolding encode_with
id-number e f m n k = cc

pub same-epoch : (e f m n : ℕ) → e < 2 ^ 32 → f < 2 ^ 32 → client_id e m ≡ client_id f n → e ≡ f
same-epoch e f m n k l s = same-number e f k l (id-epoch e f m n s)

pub same-place : (e f m n : ℕ) → m < 2 ^ 32 → n < 2 ^ 32 → client_id e m ≡ client_id f n → m ≡ n
same-place e f m n k l s = same-number m n k l (id-number e f m n s)
