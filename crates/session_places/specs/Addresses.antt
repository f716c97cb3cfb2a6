-- The sockets at which an address is: PROTOCOL/HOST:NAME.
use Rattle.std.specs.Prelude.{◌≡◌, ◌⊎◌, ℕ, ◌==◌, Bool, false, List, [], ◌∷◌, ◌++◌, codes, drop, map, if◌then◌else◌}
use Rattle.control_lines.specs.Parts.{IsWithout}
use Rattle.session_places.specs.declared.places.SessionPlace.{SessionPlace}
use Rattle.session_places.specs.declared.places.SocketName.{SocketName}
use Rattle.session_places.specs.declared.places.SocketName.TheVariants.{Abstract, Path}

-- the parts around the last byte of one kind
pub record SplitsLast (byte : ℕ) (bytes front back : List ℕ) : Type 0 where
  pub parts : bytes ≡ front ++ (byte ∷ back)
  pub last : IsWithout byte back

-- the folder of a socket that is named without one
unfoldable pub folder : List ℕ
folder = codes "/tmp/.ICE-unix/"

abbrev pub begins_with : ℕ → List ℕ → Bool
begins_with byte [] = false
begins_with byte (b ∷ bytes) = b == byte

-- a name that begins with a slash (47) is a path, and any other one lies in the folder
abbrev pub whole_path : List ℕ → List ℕ
whole_path name = if begins_with 47 name then name else folder ++ name

-- Behind `local` an at sign (64) says that the name is abstract; any other name is tried as an abstract one and then as a file's.
abbrev pub local_sockets : List ℕ → List SocketName
local_sockets name = if begins_with 64 name then Abstract (drop 1 name) ∷ [] else Abstract (whole_path name) ∷ Path (whole_path name) ∷ []

-- Behind `unix` it is a file's.
abbrev pub unix_sockets : List ℕ → List SocketName
unix_sockets name = Path (whole_path name) ∷ []

-- the words before the host
abbrev pub local_word : List ℕ
local_word = codes "local/"

abbrev pub unix_word : List ℕ
unix_word = codes "unix/"

-- An address that begins with the word, and of which the name stands behind the last colon (58).
pub record IsBy (word address host name : List ℕ) : Type 0 where
  pub rest : List ℕ
  pub begins : address ≡ word ++ rest
  pub split : SplitsLast 58 rest host name

abbrev pub places_for : List ℕ → List ℕ → List SocketName → List SessionPlace
places_for address host sockets = map (λ socket. record { network = address; host = host; socket = socket }) sockets

-- the address is of neither form
abbrev pub IsElsewhere : List ℕ → Type 0
IsElsewhere address = (host name : List ℕ) → (¬ (IsBy local_word address host name)) × (¬ (IsBy unix_word address host name))

-- an address by a word, with the sockets that the word gives a name
pub record IsAtBy (word : List ℕ) (sockets_of : List ℕ → List SocketName) (address : List ℕ) (places : List SessionPlace) : Type 0 where
  pub host : List ℕ
  pub name : List ℕ
  pub by : IsBy word address host name
  pub is : places ≡ places_for address host (sockets_of name)

-- An address of another form has no sockets.
abbrev pub IsAt : List ℕ → List SessionPlace → Type 0
IsAt address places = IsAtBy local_word local_sockets address places ⊎ (IsAtBy unix_word unix_sockets address places ⊎ (IsElsewhere address × (places ≡ [])))
