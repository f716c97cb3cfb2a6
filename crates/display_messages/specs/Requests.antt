-- The bytes of the set-up and of each request (X protocol, appendix B; X-Resource 1.2), least significant byte first.
use Rattle.std.specs.Prelude.{ℕ, ◌+◌, ◌/◌, List, [], ◌∷◌, ◌++◌, length, flat_map, codes, Option, Some, None}
use Rattle.ice_values.specs.Cells.{free, zeros, pad_len}
use Rattle.ice_values.specs.Numbers.{number_bytes}
use Rattle.ice_values.specs.declared.numbers.Endian.TheVariants.{Lsb}
use Rattle.display_messages.specs.declared.request.ClientMessage.{ClientMessage}
use Rattle.display_messages.specs.declared.request.Request.{Request}
use Rattle.display_messages.specs.declared.request.Request.TheVariants.{InternAtom, GetProperty, ChangeWindowAttributes, GetWindowAttributes, QueryTree, SendEvent, GetInputFocus, QueryExtension, QueryResourceVersion, QueryClientIds}

-- a number of two bytes, one of four, and many of four
abbrev pub short : ℕ → List ℕ
short x = number_bytes Lsb 2 x

abbrev pub long : ℕ → List ℕ
long x = number_bytes Lsb 4 x

abbrev pub longs : List ℕ → List ℕ
longs numbers = flat_map long numbers

-- bytes, and zeros up to a whole unit of four
abbrev pub padded : List ℕ → List ℕ
padded bytes = bytes ++ zeros (free (pad_len (length bytes) 4))

-- A request: its opcode, a byte of its own, how many units of four bytes it has in all, and its fields.
abbrev pub request : ℕ → ℕ → List ℕ → List ℕ
request opcode own fields = (opcode ∷ own ∷ []) ++ short (1 + length fields / 4) ++ fields

-- a name behind its length and two unused bytes
abbrev pub named : List ℕ → List ℕ
named name = short (length name) ++ (0 ∷ 0 ∷ []) ++ padded name

-- The event that is sent: its code 33, format 32, two unused bytes, and five numbers, the last two 0.
abbrev pub client_message : ClientMessage → List ℕ
client_message m = (33 ∷ 32 ∷ 0 ∷ 0 ∷ []) ++ longs (m.window ∷ m.kind ∷ m.first ∷ m.second ∷ m.third ∷ 0 ∷ 0 ∷ [])

-- Of a window's attributes 2048 is its event mask; X-Resource has 2 for the process on this machine.
abbrev pub bytes_of_request : Request → List ℕ
bytes_of_request (InternAtom name) = request 16 0 (named name)
bytes_of_request (GetProperty window property limit) = request 20 0 (longs (window ∷ property ∷ 0 ∷ 0 ∷ limit ∷ []))
bytes_of_request (ChangeWindowAttributes window events) = request 2 0 (longs (window ∷ 2048 ∷ events ∷ []))
bytes_of_request (GetWindowAttributes window) = request 3 0 (longs (window ∷ []))
bytes_of_request (QueryTree window) = request 15 0 (longs (window ∷ []))
bytes_of_request (SendEvent window events message) = request 25 0 (longs (window ∷ events ∷ []) ++ client_message message)
bytes_of_request GetInputFocus = request 43 0 []
bytes_of_request (QueryExtension name) = request 98 0 (named name)
bytes_of_request (QueryResourceVersion opcode) = request opcode 0 (1 ∷ 2 ∷ 0 ∷ 0 ∷ [])
bytes_of_request (QueryClientIds opcode window) = request opcode 4 (longs (1 ∷ window ∷ 2 ∷ []))

-- A set-up: `l` for the order of bytes, protocol 11.0, the lengths of a name and of data, and both.
abbrev pub setup : List ℕ → List ℕ → List ℕ
setup name proof = (108 ∷ 0 ∷ 11 ∷ 0 ∷ 0 ∷ 0 ∷ []) ++ short (length name) ++ short (length proof) ++ (0 ∷ 0 ∷ []) ++ padded name ++ padded proof

-- with a cookie, or with both fields empty
abbrev pub bytes_of_setup : Option (List ℕ) → List ℕ
bytes_of_setup (Some cookie) = setup (codes "MIT-MAGIC-COOKIE-1") cookie
bytes_of_setup None = setup [] []
