-- How each field is spelled (ICE, chapter 7), and what has a spelling.
use Rattle.std.specs.Prelude.{◌≡◌, ℕ, ◌+◌, ◌/◌, ◌%◌, ◌^◌, ◌<◌, List, [], ◌∷◌, ◌++◌, length, flat_map, Bool, true, false}
use Rattle.std.specs.List.{AllByRecursion}
use Rattle.ice_values.specs.Cells.{Cells, byte, known, free, pad_len}
use Rattle.ice_values.specs.Numbers.{card16, card32}
use Rattle.ice_values.specs.declared.numbers.Endian.{Endian}
use Rattle.ice_values.specs.declared.numbers.Endian.TheVariants.{Lsb, Msb}
use Rattle.ice_values.specs.declared.version.Version.{Version}
use Rattle.ice_values.specs.declared.severity.Severity.{Severity}
use Rattle.ice_values.specs.declared.severity.Severity.TheVariants.{CanContinue, FatalToProtocol, FatalToConnection}

-- STRING
abbrev pub text16 : Endian → List ℕ → Cells
text16 e text = card16 e (length text) ++ known text ++ free (pad_len (2 + length text) 4)

abbrev pub IsText16 : List ℕ → Type 0
IsText16 text = length text < 2 ^ 16

-- VERSION
abbrev pub version : Endian → Version → Cells
version e v = card16 e v.major ++ card16 e v.minor

abbrev pub IsVersion : Version → Type 0
IsVersion v = (v.major < 2 ^ 16) × (v.minor < 2 ^ 16)

-- LISTofSTRING and LISTofVERSION, whose counts stand elsewhere
abbrev pub texts : Endian → List (List ℕ) → Cells
texts e items = flat_map (text16 e) items

abbrev pub versions : Endian → List Version → Cells
versions e items = flat_map (version e) items

-- so many items, each of which has a spelling
abbrev pub IsCounted : {A : Type 0} → (A → Type 0) → ℕ → List A → Type 0
IsCounted Fits n items = (length items ≡ n) × AllByRecursion Fits items

-- Data of an authentication: a count, six unused bytes and the data.
abbrev pub proof_data : Endian → List ℕ → Cells
proof_data e data_bytes = card16 e (length data_bytes) ++ free 6 ++ known data_bytes

abbrev pub IsProofData : List ℕ → Type 0
IsProofData data_bytes = length data_bytes < 2 ^ 16

-- the numbers of enumerated bytes
abbrev pub bool_number : Bool → ℕ
bool_number false = 0
bool_number true = 1

abbrev pub order_number : Endian → ℕ
order_number Lsb = 0
order_number Msb = 1

abbrev pub severity_number : Severity → ℕ
severity_number CanContinue = 0
severity_number FatalToProtocol = 1
severity_number FatalToConnection = 2

-- What an Error says: its values are all that follows the sequence number.
pub record ErrorFields : Type 0 where
  pub class : ℕ
  pub minor : ℕ
  pub severity : Severity
  pub sequence : ℕ
  pub values : List ℕ

-- the two bytes of an Error's own, and its body, with `mark n` for the severity
abbrev pub error_own : Endian → ErrorFields → Cells
error_own e error = card16 e error.class

abbrev pub error_body : (ℕ → Cells) → Endian → ErrorFields → Cells
error_body mark e error = byte error.minor ++ mark (severity_number error.severity) ++ free 2 ++ card32 e error.sequence ++ known error.values

abbrev pub IsError : ErrorFields → Type 0
IsError error = (error.class < 2 ^ 16) × (error.sequence < 2 ^ 32) × (length error.values % 8 ≡ 0)

-- A message: its major and minor opcode, two bytes of its own, the units of 8 bytes that follow, its body, and
-- free bytes that bring the body to whole units.
abbrev pub spelling : Endian → ℕ → ℕ → Cells → Cells → Cells
spelling e opcode minor own body =
    known (opcode ∷ minor ∷ []) ++ own ++ card32 e ((length body + pad_len (length body) 8) / 8) ++ body ++ free (pad_len (length body) 8)
