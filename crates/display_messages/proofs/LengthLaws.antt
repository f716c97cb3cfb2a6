-- Requests state how long they are, and messages are read as they were sent.
use Rattle.std.proofs.Common.{◌≡◌, ℕ, ◌+◌, ◌*◌, ◌/◌, ◌^◌, ◌<◌, true, List, [], ◌∷◌, ◌++◌, length, refl, arith}
use Rattle.ice_values.specs.Cells.{pad_len}
use Rattle.ice_values.specs.declared.numbers.Endian.TheVariants.{Lsb}
use Rattle.ice_values.proofs.NumberLaws.{number-again}
use Rattle.display_messages.specs.Places.{short_at}
use Rattle.display_messages.specs.Requests.{longs, request, named, client_message, bytes_of_request}
use Rattle.display_messages.specs.Parts.{part_of}
use Rattle.display_messages.specs.Laws.{IsRequest, IsMessage, relayed}
use Rattle.display_messages.specs.declared.request.ClientMessage.{ClientMessage}
use Rattle.display_messages.specs.declared.request.Request.{Request}
use Rattle.display_messages.specs.declared.request.Request.TheVariants.{InternAtom, GetProperty, ChangeWindowAttributes, GetWindowAttributes, QueryTree, SendEvent, GetInputFocus, QueryExtension, QueryResourceVersion, QueryClientIds}
use Rattle.display_messages.specs.declared.part.Event.TheVariants.{Message}
use Rattle.display_messages.specs.declared.part.Part.TheVariants.{Event}
use Rattle.display_messages.proofs.RequestLaws.{length-named}

-- fields of whole units
states : (opcode own units : ℕ) (fields : List ℕ) → length fields ≡ 4 * units → units < 65535 → length (request opcode own fields) ≡ 4 * short_at 2 (request opcode own fields)
states opcode own units fields whole small =
    let count : 1 + length fields / 4 ≡ 1 + units = omega (arith, whole) in
    let read : short_at 2 (request opcode own fields) ≡ 1 + length fields / 4 = number-again Lsb 2 (1 + length fields / 4) fields (omega (arith, count, small)) in
    omega (arith, whole, count, read)

named_states : (opcode : ℕ) (name : List ℕ) → length name < 2 ^ 16 → length (request opcode 0 (named name)) ≡ 4 * short_at 2 (request opcode 0 (named name))
named_states opcode name small = states opcode 0 (1 + (length name + pad_len (length name) 4) / 4) (named name) (omega (arith, length-named name)) (omega (arith, small))

pub state_their_length : (r : Request) → IsRequest r → length (bytes_of_request r) ≡ 4 * short_at 2 (bytes_of_request r)
state_their_length (InternAtom name) fits = named_states 16 name fits
state_their_length (GetProperty window property limit) fits = states 20 0 5 (longs (window ∷ property ∷ 0 ∷ 0 ∷ limit ∷ [])) refl (omega arith)
state_their_length (ChangeWindowAttributes window events) fits = states 2 0 3 (longs (window ∷ 2048 ∷ events ∷ [])) refl (omega arith)
state_their_length (GetWindowAttributes window) fits = states 3 0 1 (longs (window ∷ [])) refl (omega arith)
state_their_length (QueryTree window) fits = states 15 0 1 (longs (window ∷ [])) refl (omega arith)
state_their_length (SendEvent window events message) fits = states 25 0 10 (longs (window ∷ events ∷ []) ++ client_message message) refl (omega arith)
state_their_length GetInputFocus fits = states 43 0 0 [] refl (omega arith)
state_their_length (QueryExtension name) fits = named_states 98 name fits
state_their_length (QueryResourceVersion opcode) fits = states opcode 0 1 (1 ∷ 2 ∷ 0 ∷ 0 ∷ []) refl (omega arith)
state_their_length (QueryClientIds opcode window) fits = states opcode 4 3 (longs (1 ∷ window ∷ 2 ∷ [])) refl (omega arith)

pub messages_arrive : (sequence : ℕ) (m : ClientMessage) → IsMessage m → part_of (relayed sequence m) ≡ Event true (Message m)
messages_arrive sequence m fits =
    let third = number-again Lsb 4 m.third (longs (0 ∷ 0 ∷ [])) fits.4 in
    let second = number-again Lsb 4 m.second (longs (m.third ∷ 0 ∷ 0 ∷ [])) fits.3 in
    let first = number-again Lsb 4 m.first (longs (m.second ∷ m.third ∷ 0 ∷ 0 ∷ [])) fits.2 in
    let kind = number-again Lsb 4 m.kind (longs (m.first ∷ m.second ∷ m.third ∷ 0 ∷ 0 ∷ [])) fits.1 in
    let window = number-again Lsb 4 m.window (longs (m.kind ∷ m.first ∷ m.second ∷ m.third ∷ 0 ∷ 0 ∷ [])) fits.0 in
    rw (window, kind, first, second, third) refl
