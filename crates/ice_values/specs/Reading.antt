-- Fields read from left to right: the value at the front of some bytes, and the bytes after it.
use Rattle.std.specs.Prelude.{◌≡◌, ℕ, zero, suc, ◌+◌, ◌<◌, ◌≤◌, List, [], ◌∷◌, length, take, drop, Option, Some, None, Result, Ok, Err, nat_lt, if◌then◌else◌, slice_index, IfOk, IsErrOf}
use Rattle.ice_values.specs.Cells.{Cells, Begins, pad_len}
use Rattle.ice_values.specs.Numbers.{number}
use Rattle.ice_values.specs.declared.numbers.Endian.{Endian}
use Rattle.ice_values.specs.declared.version.Version.{Version}
use Rattle.ice_values.specs.declared.refusals.ValueRefusal.{ValueRefusal}
use Rattle.ice_values.specs.declared.refusals.ValueRefusal.TheVariants.{TooLong, Short, NoMemory}

infixl 10 ◌>>=◌
abbrev pub ◌>>=◌ : {A B : Type 0} → Option A → (A → Option B) → Option B
(Some x) >>= f = f x
None >>= f = None

-- A call's answer, seen by view, is this one, unless memory was wanting. None is Short.
abbrev pub FailsAs : {Y : Type 0} → ValueRefusal → Option Y → Type 0
FailsAs TooLong answer = ⊥
FailsAs Short answer = answer ≡ None
FailsAs NoMemory answer = Unit {0}

abbrev pub Answers : {X Y : Type 0} → (X → Y) → Result X ValueRefusal → Option Y → Type 0
Answers view (Ok x) answer = answer ≡ Some (view x)
Answers view (Err refusal) answer = FailsAs refusal answer

-- a call's answer, seen by view, is this one
abbrev pub Finds : {X Y : Type 0} → (X → Y) → Option X → Option Y → Type 0
Finds view (Some x) answer = answer ≡ Some (view x)
Finds view None answer = answer ≡ None

-- what follows a value that was read
abbrev pub rest_of : {A : Type 0} → Option (A × List ℕ) → Option (List ℕ)
rest_of (Some x) = Some x.1
rest_of None = None

-- a number of n bytes
abbrev pub card_at : Endian → ℕ → List ℕ → Option (ℕ × List ℕ)
card_at e n bytes = if nat_lt (length bytes) n then None else Some (number e n bytes, drop n bytes)

-- this many bytes
abbrev pub bytes_at : ℕ → List ℕ → Option (List ℕ × List ℕ)
bytes_at n bytes = if nat_lt (length bytes) n then None else Some (take n bytes, drop n bytes)

-- what follows this many bytes
abbrev pub skip_at : ℕ → List ℕ → Option (List ℕ)
skip_at n bytes = if nat_lt (length bytes) n then None else Some (drop n bytes)

unfoldable pub text16_at : Endian → List ℕ → Option (List ℕ × List ℕ)
text16_at e bytes = do
  n ← card_at e 2 bytes
  text ← bytes_at n.0 n.1
  rest ← skip_at (pad_len (2 + n.0) 4) text.1
  Some (text.0, rest)

unfoldable pub version_at : Endian → List ℕ → Option (Version × List ℕ)
version_at e bytes = do
  major ← card_at e 2 bytes
  minor ← card_at e 2 major.1
  Some (record { major = major.0; minor = minor.0 }, minor.1)

-- this many values, one after the other
unfoldable pub many_at : {A : Type 0} → (List ℕ → Option (A × List ℕ)) → ℕ → List ℕ → Option (List A × List ℕ)
many_at read zero bytes = Some ([], bytes)
many_at read (suc n) bytes = do
  first ← read bytes
  others ← many_at read n first.1
  Some (first.0 ∷ others.0, others.1)

-- nothing
unfoldable pub nothing_at : List ℕ → Option (Unit {0} × List ℕ)
nothing_at bytes = Some (tt, bytes)

-- one value, and then another
unfoldable pub pair_at : {A B : Type 0} → (List ℕ → Option (A × List ℕ)) → (List ℕ → Option (B × List ℕ)) → List ℕ → Option ((A × B) × List ℕ)
pair_at read_a read_b bytes = do
  x ← read_a bytes
  y ← read_b x.1
  Some ((x.0, y.0), y.1)

-- a value after this many free bytes
unfoldable pub after_at : {A : Type 0} → ℕ → (List ℕ → Option (A × List ℕ)) → List ℕ → Option (A × List ℕ)
after_at n read bytes = do
  rest ← skip_at n bytes
  read rest

unfoldable pub proof_data_at : Endian → List ℕ → Option (List ℕ × List ℕ)
proof_data_at e bytes = do
  n ← card_at e 2 bytes
  rest ← skip_at 6 n.1
  bytes_at n.0 rest

-- each byte is below 256
abbrev pub IsBytes : List ℕ → Type 0
IsBytes bytes = (i : ℕ) → slice_index bytes i < 256

-- A reader takes the spellings of values that fit, and no other bytes.
pub record Exact {X : Type 0} (cells : X → Cells) (Fits : X → Type 0) (read : List ℕ → Option (X × List ℕ)) : Type 0 where
  pub takes : (bytes : List ℕ) (x : X) (rest : List ℕ) → IsBytes bytes → read bytes ≡ Some (x, rest) → Begins (cells x) bytes rest × Fits x
  pub again : (bytes : List ℕ) (x : X) (rest : List ℕ) → Fits x → Begins (cells x) bytes rest → read bytes ≡ Some (x, rest)

-- What reading the value at the front of some bytes says.
pub record ReadsFront {X : Type 0} (cells : X → Cells) (Fits : X → Type 0) (bytes : List ℕ) (result : Result (X × ℕ) ValueRefusal) : Type 0 where
  -- what is read is spelled at the front, in so many bytes
  pub found : IfOk result (λ x. (x.1 ≤ length bytes) × Fits x.0 × Begins (cells x.0) bytes (drop x.1 bytes))
  -- what is spelled at the front is what is read
  pub only : (x : X) (rest : List ℕ) → Fits x → Begins (cells x) bytes rest → Answers {Y = X × List ℕ} (λ y. (y.0, drop y.1 bytes)) result (Some (x, rest))
  -- it is Short only where no front is a spelling
  pub short : IsErrOf result Short → (x : X) (rest : List ℕ) → Fits x → Begins (cells x) bytes rest → ⊥
  pub not_long : IsErrOf result TooLong → ⊥

-- A front is cut off what follows it: alone it is read as the value at the front, and it is as long as the value's spelling.
pub record CutsFront {X : Type 0} (cells : X → Cells) (read : List ℕ → Option (X × List ℕ)) (bytes front rest : List ℕ) : Type 0 where
  pub value : X
  pub whole : read bytes ≡ Some (value, rest)
  pub alone : read front ≡ Some (value, [])
  pub len : length front ≡ length (cells value)

abbrev pub CutsAt : {X : Type 0} → (X → Cells) → (List ℕ → Option (X × List ℕ)) → List ℕ → Option (List ℕ × List ℕ) → Type 0
CutsAt cells read bytes (Some x) = CutsFront cells read bytes x.0 x.1
CutsAt cells read bytes None = read bytes ≡ None
