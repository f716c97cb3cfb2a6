-- What a display is asked, by which request, and which reply that has.
use Rattle.std.specs.Prelude.{ℕ, Bool, true, false, List, codes, Option, Some, None}
use Rattle.display_messages.specs.declared.request.ClientMessage.{ClientMessage}
use Rattle.display_messages.specs.declared.request.Request.{Request}
use Rattle.display_messages.specs.declared.request.Request.TheVariants.{InternAtom, GetProperty, ChangeWindowAttributes, GetWindowAttributes, QueryTree, SendEvent, GetInputFocus, QueryExtension, QueryResourceVersion, QueryClientIds}
use Rattle.display_messages.specs.declared.reply.ReplyKind.{ReplyKind}
use Rattle.display_messages.specs.declared.reply.ReplyKind.TheVariants.{Atom as ForAtom, Property as ForProperty, Attributes as ForAttributes, Tree as ForTree, Mark as ForMark, Extension as ForExtension, ResourceVersion as ForResourceVersion, Process as ForProcess}
use Rattle.window_follower.specs.Names.{name_text}
use Rattle.window_follower.specs.Atoms.{atom_of}
use Rattle.window_follower.specs.declared.names.Name.TheVariants.{Property as OfWindow, Root as OfRoot, Word}
use Rattle.window_follower.specs.declared.names.WindowProperty.TheVariants.{Numbers}
use Rattle.window_follower.specs.declared.names.NumberProperty.TheVariants.{State, Protocols}
use Rattle.window_follower.specs.declared.names.Word.TheVariants.{DeleteWindow, Ping as IsPing, ActiveWindow}
use Rattle.window_follower.specs.declared.question.Question.{Question}
use Rattle.window_follower.specs.declared.question.Question.TheVariants.{Atom, Extension, Version, Watch, Property, Root, Events, Process, Children, Managed, Shown, Close, Show, Ping, Mark}

-- whether a question has an answer other than an Error
abbrev pub has_answer : Question → Bool
has_answer (Watch window events) = false
has_answer (Close window) = false
has_answer (Show root window) = false
has_answer (Ping window stamp) = false
has_answer question = true

-- which reply it has
abbrev pub answer_kind : Question → Option ReplyKind
answer_kind (Atom name) = Some ForAtom
answer_kind Extension = Some ForExtension
answer_kind (Version opcode) = Some ForResourceVersion
answer_kind (Watch window events) = None
answer_kind (Property window property) = Some ForProperty
answer_kind (Root window property) = Some ForProperty
answer_kind (Events window) = Some ForAttributes
answer_kind (Process opcode window) = Some ForProcess
answer_kind (Children window depth) = Some ForTree
answer_kind (Managed window depth) = Some ForProperty
answer_kind (Shown window) = Some ForAttributes
answer_kind (Close window) = None
answer_kind (Show root window) = None
answer_kind (Ping window stamp) = None
answer_kind (Mark number) = Some ForMark

-- a property up to 64 KiB; what is longer counts as one that isn't understood
abbrev pub property_request : ℕ → ℕ → Request
property_request window property = GetProperty window property 16384

abbrev pub protocols : List ℕ → ℕ
protocols atoms = atom_of atoms (OfWindow (Numbers Protocols))

-- asks a window to close, and asks its program whether it listens
abbrev pub close_message : List ℕ → ℕ → ClientMessage
close_message atoms window = record { window = window; kind = protocols atoms; first = atom_of atoms (Word DeleteWindow); second = 0; third = 0 }

abbrev pub ping_message : List ℕ → ℕ → ℕ → ClientMessage
ping_message atoms window stamp = record { window = window; kind = protocols atoms; first = atom_of atoms (Word IsPing); second = stamp; third = window }

-- asks the window manager to show a window, as a pager does
abbrev pub show_message : List ℕ → ℕ → ClientMessage
show_message atoms window = record { window = window; kind = atom_of atoms (Word ActiveWindow); first = 2; second = 0; third = 0 }

-- the request that asks a question
abbrev pub request_of : List ℕ → Question → Request
request_of atoms (Atom name) = InternAtom (name_text name)
request_of atoms Extension = QueryExtension (codes "X-Resource")
request_of atoms (Version opcode) = QueryResourceVersion opcode
request_of atoms (Watch window events) = ChangeWindowAttributes window events
request_of atoms (Property window property) = property_request window (atom_of atoms (OfWindow property))
request_of atoms (Root window property) = property_request window (atom_of atoms (OfRoot property))
request_of atoms (Events window) = GetWindowAttributes window
request_of atoms (Process opcode window) = QueryClientIds opcode window
request_of atoms (Children window depth) = QueryTree window
request_of atoms (Managed window depth) = property_request window (atom_of atoms (OfWindow (Numbers State)))
request_of atoms (Shown window) = GetWindowAttributes window
request_of atoms (Close window) = SendEvent window 0 (close_message atoms window)
request_of atoms (Show root window) = SendEvent root 1572864 (show_message atoms window)
request_of atoms (Ping window stamp) = SendEvent window 0 (ping_message atoms window stamp)
request_of atoms (Mark number) = GetInputFocus
