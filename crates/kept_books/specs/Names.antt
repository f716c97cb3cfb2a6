-- What the file of a kept book is called.
use Rattle.std.specs.Prelude.{◌≡◌, ℕ, ◌<◌, ◌^◌, List, ◌∷◌, ◌++◌, codes}
use Rattle.std.specs.Fmt.{decimal}
use Rattle.checkpoint_records.specs.Rules.{IsName}
use Rattle.control_lines.specs.Fields.{IsHex, hex_text}

-- its number, a point, and the name of its session in hex
abbrev pub file_name : ℕ → List ℕ → List ℕ
file_name number session = decimal number ++ (codes "." ++ hex_text session)

-- So a file is called, with its hex in either case.
pub record IsFileName (name : List ℕ) (number : ℕ) (session : List ℕ) : Type 0 where
  pub hex : List ℕ
  pub parts : name ≡ decimal number ++ (46 ∷ hex)
  pub small : number < 2 ^ 64
  pub is_hex : IsHex hex session
  pub is_name : IsName session
