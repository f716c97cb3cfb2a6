-- Whole messages read from their frames: how a body is cut, and what enumerated bytes mean.
use Rattle.std.specs.Prelude.{◌≡◌, ℕ, ◌+◌, ◌*◌, ◌≤◌, Bool, true, false, List, [], ◌∷◌, length, drop, slice_index, slice_set, Option, Some, None, Result, Ok, Err, nat_lt, nat_le, ◌==◌, if◌then◌else◌}
use Rattle.ice_values.specs.Numbers.{number}
use Rattle.ice_values.specs.Fields.{ErrorFields}
use Rattle.ice_values.specs.declared.numbers.Endian.{Endian}
use Rattle.ice_values.specs.declared.numbers.Endian.TheVariants.{Lsb, Msb}
use Rattle.ice_values.specs.declared.severity.Severity.{Severity}
use Rattle.ice_values.specs.declared.severity.Severity.TheVariants.{CanContinue, FatalToProtocol, FatalToConnection}
use Rattle.ice_values.specs.declared.refusals.DecodeRefusal.{DecodeRefusal}
use Rattle.ice_values.specs.declared.refusals.DecodeRefusal.TheVariants.{BadMinor, BadLength, BadValue, NoMemory as NoMemoryToDecode}
use Rattle.ice_values.specs.declared.refusals.ValueRefusal.{ValueRefusal}
use Rattle.ice_values.specs.declared.refusals.ValueRefusal.TheVariants.{TooLong, Short, NoMemory}

-- 8 bytes, and the units that they state
pub record IsFrame (e : Endian) (bytes : List ℕ) : Type 0 where
  pub header : 8 ≤ length bytes
  pub units : length bytes ≡ 8 + 8 * number e 4 (drop 4 bytes)

infixl 10 ◌>>=◌
abbrev pub ◌>>=◌ : {A B : Type 0} → Result A DecodeRefusal → (A → Result B DecodeRefusal) → Result B DecodeRefusal
(Ok x) >>= f = f x
(Err refusal) >>= f = Err refusal

-- a call's answer, seen by view, is this one, unless memory was wanting
abbrev pub RefusesAs : {Y : Type 0} → DecodeRefusal → Result Y DecodeRefusal → Type 0
RefusesAs BadMinor answer = answer ≡ Err BadMinor
RefusesAs BadLength answer = answer ≡ Err BadLength
RefusesAs (BadValue at len) answer = answer ≡ Err (BadValue at len)
RefusesAs NoMemoryToDecode answer = Unit {0}

abbrev pub GivesAs : {X Y : Type 0} → (X → Y) → Result X DecodeRefusal → Result Y DecodeRefusal → Type 0
GivesAs view (Ok x) answer = answer ≡ Ok (view x)
GivesAs view (Err refusal) answer = RefusesAs refusal answer

-- the same, seen as it is
abbrev pub Gives : {X : Type 0} → Result X DecodeRefusal → Result X DecodeRefusal → Type 0
Gives result answer = GivesAs (λ x. x) result answer

-- a value's refusal as a message's
abbrev pub refusal_of : ValueRefusal → DecodeRefusal
refusal_of TooLong = BadLength
refusal_of Short = BadLength
refusal_of NoMemory = NoMemoryToDecode

-- what can't be cut is BadLength
unfoldable pub cut : {A : Type 0} → Option A → Result A DecodeRefusal
cut (Some x) = Ok x
cut None = Err BadLength

-- less than a unit is left
unfoldable pub ended : List ℕ → Result (Unit {0}) DecodeRefusal
ended rest = if nat_lt (length rest) 8 then Ok tt else Err BadLength

-- the body of a frame, all of it but less than a unit
unfoldable pub body_at : {X : Type 0} → (List ℕ → Option (X × List ℕ)) → List ℕ → Result X DecodeRefusal
body_at read bytes = do
  x ← cut (read (drop 8 bytes))
  end ← ended x.1
  Ok x.0

-- what has no meaning is BadValue
abbrev pub or_bad : {A : Type 0} → Option A → ℕ → Result A DecodeRefusal
or_bad (Some a) at = Ok a
or_bad None at = Err (BadValue at 1)

-- the meaning of the byte at a place
unfoldable pub means_at : {A : Type 0} → (ℕ → Option A) → List ℕ → ℕ → Result A DecodeRefusal
means_at meaning bytes at = or_bad (meaning (slice_index bytes at)) at

-- one meaning, and then another
unfoldable pub both_at : {A B : Type 0} → (List ℕ → Result A DecodeRefusal) → (List ℕ → Result B DecodeRefusal) → List ℕ → Result (A × B) DecodeRefusal
both_at first second bytes = do
  x ← first bytes
  y ← second bytes
  Ok (x, y)

abbrev pub bool_meaning : ℕ → Option Bool
bool_meaning n = if n == 0 then Some false else if n == 1 then Some true else None

abbrev pub order_meaning : ℕ → Option Endian
order_meaning n = if n == 0 then Some Lsb else if n == 1 then Some Msb else None

abbrev pub severity_meaning : ℕ → Option Severity
severity_meaning n = if n == 0 then Some CanContinue else if n == 1 then Some FatalToProtocol else if n == 2 then Some FatalToConnection else None

-- Why bytes that have fewer units than they state are no message, where the minor opcodes go from 0 to the last.
abbrev pub cut_refusal : ℕ → List ℕ → DecodeRefusal
cut_refusal last bytes = if nat_le (slice_index bytes 1) last then BadLength else BadMinor

-- Places of enumerated bytes, each with its number of meanings, which are those from 0 on: the first whose byte has none.
abbrev pub first_wrong : List (ℕ × ℕ) → List ℕ → Option ℕ
first_wrong [] bytes = None
first_wrong (place ∷ places) bytes = if nat_lt (slice_index bytes place.0) place.1 then first_wrong places bytes else Some place.0

-- the bytes with any others chosen at these places
abbrev pub IsChoice : List (ℕ × ℕ) → List ℕ → List ℕ → Type 0
IsChoice [] bytes chosen = chosen ≡ bytes
IsChoice (place ∷ places) bytes chosen = (b : ℕ) × IsChoice places (slice_set bytes place.0 b) chosen

-- an Error, of any protocol
unfoldable pub error_at : Endian → List ℕ → Result ErrorFields DecodeRefusal
error_at e bytes = if nat_lt (length bytes) 16 then Err BadLength else do
  severity ← means_at severity_meaning bytes 9
  Ok (record { class = number e 2 (drop 2 bytes); minor = slice_index bytes 8; severity = severity; sequence = number e 4 (drop 12 bytes); values = drop 16 bytes })

-- whether it is read, without what is read
abbrev pub is_read : {A : Type 0} → Result A DecodeRefusal → Result (Unit {0}) DecodeRefusal
is_read (Ok x) = Ok tt
is_read (Err refusal) = Err refusal
