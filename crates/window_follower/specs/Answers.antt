-- What the display answers.
use Rattle.std.specs.Prelude.{ℕ, ◌+◌, ◌/◌, ◌%◌, ◌==◌, nat_lt, nat_le, Bool, true, false, not, ◌&&◌, ◌||◌, if◌then◌else◌, List, [], ◌∷◌, ◌++◌, map, Option, Some, None}
use Rattle.display_messages.specs.declared.part.ErrorKind.{ErrorKind}
use Rattle.display_messages.specs.declared.part.ErrorKind.TheVariants.{BadWindow}
use Rattle.display_messages.specs.declared.reply.Attributes.{Attributes}
use Rattle.display_messages.specs.declared.reply.Reply.{Reply}
use Rattle.display_messages.specs.declared.reply.Reply.TheVariants.{Atom as IsAtom, Attributes as HasAttributes, Tree as HasTree, Extension as HasExtension, ResourceVersion as HasVersion, Process as HasProcess}
use Rattle.window_follower.specs.Facts.{fact_of, first_named, numbers_of}
use Rattle.window_follower.specs.Following.{asking, asking_all, begun_looking, come, come_all, gone, heard_of}
use Rattle.window_follower.specs.declared.names.RootProperty.{RootProperty}
use Rattle.window_follower.specs.declared.names.RootProperty.TheVariants.{Check, Windows}
use Rattle.window_follower.specs.declared.question.Question.{Question}
use Rattle.window_follower.specs.declared.question.Question.TheVariants.{Atom, Extension, Version, Watch, Property, Root, Events, Process, Children, Managed, Shown, Close, Show, Ping, Mark}
use Rattle.window_follower.specs.declared.facts.Fact.TheVariants.{Owner}
use Rattle.window_follower.specs.declared.mode.Mode.{Mode}
use Rattle.window_follower.specs.declared.mode.Mode.TheVariants.{Unknown, Listed, Stated, Bare}
use Rattle.window_follower.specs.declared.following.Following.{Following}

-- a reply that isn't understood names no atom
abbrev pub atom_in : Reply → ℕ
atom_in (IsAtom atom) = atom
atom_in reply = 0

abbrev pub opcode_in : Reply → Option ℕ
opcode_in (HasExtension opcode) = opcode
opcode_in reply = None

-- X-Resource names processes from its version 1.2 on
abbrev pub names_processes : Reply → Bool
names_processes (HasVersion major minor) = nat_lt 1 major || (major == 1 && nat_le 2 minor)
names_processes reply = false

abbrev pub process_in : Reply → Option ℕ
process_in (HasProcess process) = process
process_in reply = None

-- a window without override-redirect that is mapped and shows something
abbrev pub is_shown : Reply → Bool
is_shown (HasAttributes a) = a.input_output && (a.mapped && not a.override_redirect)
is_shown reply = false

abbrev pub children_in : Reply → List ℕ
children_in (HasTree parent children) = children
children_in reply = []

-- the atom of the next name
abbrev pub named_by : ℕ → Following → Following
named_by atom s = record s { atoms = s.atoms ++ atom ∷ [] }

-- With the last of what is asked for at the beginning the windows are looked for.
abbrev pub extended : Option ℕ → Following → Following
extended None s = begun_looking s
extended (Some opcode) s = asking (Version opcode) s

abbrev pub versioned : ℕ → Bool → Following → Following
versioned opcode true s = begun_looking (record s { resource = Some opcode })
versioned opcode false s = begun_looking s

-- It isn't a window manager that keeps a list: the events of the root say whether there is another one.
abbrev pub unlisted : Following → Following
unlisted s = asking (Events s.root) s

-- The root names a window, which has to name itself.
abbrev pub checked_root : Option ℕ → Following → Following
checked_root None s = unlisted s
checked_root (Some check) s = if check == s.root then unlisted s else asking_all (Watch check 4325376 ∷ Root check Check ∷ []) s

-- A window that names itself is the one of a window manager that is there, and its list says which windows there are.
abbrev pub checked_window : ℕ → Option ℕ → Following → Following
checked_window window None s = unlisted s
checked_window window (Some check) s = if check == window then asking (Root s.root Windows) (record s { mode = Listed window }) else unlisted s

abbrev pub checked : ℕ → Option ℕ → Following → Following
checked window check s = if window == s.root then checked_root check s else checked_window window check s

-- where a list is kept
abbrev pub is_listing : Mode → Bool
is_listing Unknown = false
is_listing (Listed check) = true
is_listing Stated = false
is_listing Bare = false

abbrev pub list_heard : List ℕ → Following → Following
list_heard windows s = if is_listing s.mode then come_all windows s else s

abbrev pub root_heard : ℕ → RootProperty → List ℕ → Following → Following
root_heard window Check numbers s = checked window (first_named numbers) s
root_heard window Windows numbers s = list_heard numbers s

-- There is a window manager where somebody has asked that children of the root are shown by it.
abbrev pub mode_by : Attributes → Mode
mode_by a = if a.all_events / 1048576 % 2 == 1 then Stated else Bare

abbrev pub events_heard : Reply → Following → Following
events_heard (HasAttributes a) s = asking (Children s.root 0) (record s { mode = mode_by a })
events_heard reply s = s

-- Where there is no window manager a child of the root is a window if it is shown; else if it has a WM_STATE, or somebody below it has, at most three levels below the root.
abbrev pub questions_below : Mode → ℕ → List ℕ → List Question
questions_below Unknown depth windows = []
questions_below (Listed check) depth windows = []
questions_below Stated depth windows = map (λ window. Managed window (depth + 1)) windows
questions_below Bare depth windows = map (λ window. Shown window) windows

abbrev pub children_heard : ℕ → List ℕ → Following → Following
children_heard depth windows s = if nat_lt depth 3 then asking_all (questions_below s.mode depth windows) s else s

-- below a window without a WM_STATE others are looked for
abbrev pub state_heard : ℕ → ℕ → List ℕ → Following → Following
state_heard window depth [] s = if nat_lt depth 3 then asking (Children window depth) s else s
state_heard window depth (number ∷ numbers) s = if number == 1 || number == 3 then come window s else s

-- a question for anything but a property of a followed window
abbrev pub is_other : Question → Bool
is_other (Property window property) = false
is_other question = true

-- what a reply brings
abbrev pub answered : Question → Reply → Following → Following
answered (Atom name) reply s = named_by (atom_in reply) s
answered Extension reply s = extended (opcode_in reply) s
answered (Version opcode) reply s = versioned opcode (names_processes reply) s
answered (Watch window events) reply s = s
answered (Property window property) reply s = heard_of window (fact_of s.atoms property reply) s
answered (Root window property) reply s = root_heard window property (numbers_of reply) s
answered (Events window) reply s = events_heard reply s
answered (Process opcode window) reply s = heard_of window (Owner (process_in reply)) s
answered (Children window depth) reply s = children_heard depth (children_in reply) s
answered (Managed window depth) reply s = state_heard window depth (numbers_of reply) s
answered (Shown window) reply s = if is_shown reply then come window s else s
answered (Close window) reply s = s
answered (Show root window) reply s = s
answered (Ping window stamp) reply s = s
answered (Mark number) reply s = s

-- A window of which the display says that there is none is gone.
abbrev pub lost : ErrorKind → ℕ → Following → Following
lost BadWindow window s = gone window s
lost kind window s = s

-- what an Error brings
abbrev pub failed : Question → ErrorKind → Following → Following
failed (Atom name) kind s = named_by 0 s
failed Extension kind s = begun_looking s
failed (Version opcode) kind s = begun_looking s
failed (Watch window events) kind s = lost kind window s
failed (Property window property) kind s = lost kind window s
failed (Root window Check) kind s = checked window None s
failed (Root window Windows) kind s = s
failed (Events window) kind s = s
failed (Process opcode window) kind s = lost kind window s
failed (Children window depth) kind s = lost kind window s
failed (Managed window depth) kind s = lost kind window s
failed (Shown window) kind s = lost kind window s
failed (Close window) kind s = lost kind window s
failed (Show root window) kind s = s
failed (Ping window stamp) kind s = lost kind window s
failed (Mark number) kind s = s
