-- What replies say (X protocol, appendix B; X-Resource 1.2), of 32 bytes or more.
use Rattle.std.specs.Prelude.{ℕ, ◌+◌, ◌*◌, ◌/◌, ◌==◌, ◌&&◌, nat_lt, if◌then◌else◌, List, length, take, drop, slice_index, Option, Some, None}
use Rattle.display_messages.specs.Places.{short_at, long_at, longs_in}
use Rattle.display_messages.specs.declared.request.Request.{Request}
use Rattle.display_messages.specs.declared.request.Request.TheVariants.{InternAtom, GetProperty, ChangeWindowAttributes, GetWindowAttributes, QueryTree, SendEvent, GetInputFocus, QueryExtension, QueryResourceVersion, QueryClientIds}
use Rattle.display_messages.specs.declared.reply.ReplyKind.{ReplyKind}
use Rattle.display_messages.specs.declared.reply.ReplyKind.TheVariants.{Atom as ForAtom, Property as ForProperty, Attributes as ForAttributes, Tree as ForTree, Mark as ForMark, Extension as ForExtension, ResourceVersion as ForResourceVersion, Process as ForProcess}
use Rattle.display_messages.specs.declared.reply.Reply.{Reply}
use Rattle.display_messages.specs.declared.reply.Reply.TheVariants.{Atom, NoProperty, Property, Attributes, Tree, Mark, Extension, ResourceVersion, Process, NotUnderstood}

-- which reply a request has
abbrev pub kind_of : Request → Option ReplyKind
kind_of (InternAtom name) = Some ForAtom
kind_of (GetProperty window property limit) = Some ForProperty
kind_of (ChangeWindowAttributes window events) = None
kind_of (GetWindowAttributes window) = Some ForAttributes
kind_of (QueryTree window) = Some ForTree
kind_of (SendEvent window events message) = None
kind_of GetInputFocus = Some ForMark
kind_of (QueryExtension name) = Some ForExtension
kind_of (QueryResourceVersion opcode) = Some ForResourceVersion
kind_of (QueryClientIds opcode window) = Some ForProcess

-- how many bytes a property's items have
abbrev pub size_in : List ℕ → ℕ
size_in bytes = long_at 16 bytes * (slice_index bytes 1 / 8)

abbrev pub property_in : List ℕ → Reply
property_in bytes =
    if long_at 8 bytes == 0 then NoProperty
    else if nat_lt (length bytes) (32 + size_in bytes) then NotUnderstood
    else Property (record { format = slice_index bytes 1; kind = long_at 8 bytes; after = long_at 12 bytes; value = take (size_in bytes) (drop 32 bytes) })

abbrev pub attributes_in : List ℕ → Reply
attributes_in bytes =
    if nat_lt (length bytes) 36 then NotUnderstood
    else Attributes (record { input_output = short_at 12 bytes == 1; mapped = nat_lt 0 (slice_index bytes 26); override_redirect = nat_lt 0 (slice_index bytes 27); all_events = long_at 32 bytes })

abbrev pub tree_in : List ℕ → Reply
tree_in bytes =
    if nat_lt (length (drop 32 bytes)) (4 * short_at 16 bytes) then NotUnderstood
    else Tree (long_at 12 bytes) (longs_in (short_at 16 bytes) (drop 32 bytes))

abbrev pub extension_in : List ℕ → Option ℕ
extension_in bytes = if slice_index bytes 8 == 0 then None else Some (slice_index bytes 9)

-- The first of the IDs that are counted at 8 is a process by its own mask, 2, and has four bytes.
abbrev pub process_in : List ℕ → Reply
process_in bytes =
    if long_at 8 bytes == 0 then Process None
    else if nat_lt (length bytes) 48 then NotUnderstood
    else if long_at 36 bytes == 2 && long_at 40 bytes == 4 then Process (Some (long_at 44 bytes))
    else NotUnderstood

abbrev pub said : ReplyKind → List ℕ → Reply
said ForAtom bytes = Atom (long_at 8 bytes)
said ForProperty bytes = property_in bytes
said ForAttributes bytes = attributes_in bytes
said ForTree bytes = tree_in bytes
said ForMark bytes = Mark
said ForExtension bytes = Extension (extension_in bytes)
said ForResourceVersion bytes = ResourceVersion (short_at 8 bytes) (short_at 10 bytes)
said ForProcess bytes = process_in bytes

abbrev pub reply_of : ReplyKind → List ℕ → Reply
reply_of kind bytes = if nat_lt (length bytes) 32 then NotUnderstood else said kind bytes
