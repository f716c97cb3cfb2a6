-- The fields of a line that are bytes.
use Rattle.std.specs.Prelude.{◌≡◌, ℕ, ◌<◌, ◌≤◌, ◌^◌, List, [], ◌∷◌, ◌++◌, length, codes, Ok}
use Rattle.std.specs.Fmt.{decimal}
use Rattle.hex.specs.Hex.{decode_of, encode_lower}

-- the hex text, in either case, of at least one byte
pub record IsHex (text bytes : List ℕ) : Type 0 where
  pub spells : decode_of text ≡ Ok bytes
  pub some : 1 ≤ length bytes

-- a connection's number, a space (32), and its bytes in hex
pub record SaysBytes (fields : List ℕ) (n : ℕ) (bytes : List ℕ) : Type 0 where
  pub text : List ℕ
  pub fields_are : fields ≡ decimal n ++ (32 ∷ text)
  pub number : n < 2 ^ 32
  pub hex : IsHex text bytes

-- the same as it is printed, with its hex in lower case
abbrev pub bytes_text : ℕ → List ℕ → List ℕ
bytes_text n bytes = decimal n ++ (32 ∷ encode_lower bytes)

-- bytes in lower-case hex, and - for none
abbrev pub hex_text : List ℕ → List ℕ
hex_text [] = codes "-"
hex_text (b ∷ bytes) = encode_lower (b ∷ bytes)
