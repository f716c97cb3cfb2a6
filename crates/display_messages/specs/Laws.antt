-- Laws of requests and of messages that programs send each other.
use Rattle.std.specs.Prelude.{◌≡◌, ℕ, ◌*◌, ◌^◌, ◌<◌, true, List, [], ◌∷◌, ◌++◌, length, drop}
use Rattle.display_messages.specs.Places.{short_at}
use Rattle.display_messages.specs.Requests.{short, client_message, bytes_of_request}
use Rattle.display_messages.specs.Parts.{part_of}
use Rattle.display_messages.specs.declared.request.ClientMessage.{ClientMessage}
use Rattle.display_messages.specs.declared.request.Request.{Request}
use Rattle.display_messages.specs.declared.request.Request.TheVariants.{InternAtom, QueryExtension}
use Rattle.display_messages.specs.declared.part.Event.TheVariants.{Message}
use Rattle.display_messages.specs.declared.part.Part.TheVariants.{Event}

-- a request whose name has a length of two bytes
abbrev pub IsRequest : Request → Type 0
IsRequest (InternAtom name) = length name < 2 ^ 16
IsRequest (QueryExtension name) = length name < 2 ^ 16
IsRequest request = Unit {0}

-- A request has as many units of four bytes as it states at 2.
abbrev pub StateTheirLength : Type 0
StateTheirLength = (request : Request) → IsRequest request → length (bytes_of_request request) ≡ 4 * short_at 2 (bytes_of_request request)

-- a message of numbers of four bytes
abbrev pub IsMessage : ClientMessage → Type 0
IsMessage m = (m.window < 2 ^ 32) × (m.kind < 2 ^ 32) × (m.first < 2 ^ 32) × (m.second < 2 ^ 32) × (m.third < 2 ^ 32)

-- How a message comes to whom it was sent: its code has the high bit, and a request's number stands at 2.
abbrev pub relayed : ℕ → ClientMessage → List ℕ
relayed sequence m = (161 ∷ 32 ∷ []) ++ short sequence ++ drop 4 (client_message m)

-- What one program sends is what the other reads.
abbrev pub MessagesArrive : Type 0
MessagesArrive = (sequence : ℕ) (m : ClientMessage) → IsMessage m → part_of (relayed sequence m) ≡ Event true (Message m)
