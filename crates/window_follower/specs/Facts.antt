-- What is known of a window.
use Rattle.std.specs.Prelude.{ℕ, ◌/◌, ◌==◌, Bool, true, false, ◌&&◌, ◌||◌, if◌then◌else◌, List, [], ◌∷◌, length, codes, Option, Some, None}
use Rattle.std.specs.Option.{option_or}
use Rattle.std.specs.Str.{bytes_eq}
use Rattle.std.specs.List.{list_any}
use Rattle.display_messages.specs.Places.{longs_in}
use Rattle.display_messages.specs.declared.reply.Property.{Property}
use Rattle.display_messages.specs.declared.reply.Reply.{Reply}
use Rattle.display_messages.specs.declared.reply.Reply.TheVariants.{Property as HasProperty}
use Rattle.window_follower.specs.Atoms.{atom_of, type_named}
use Rattle.window_follower.specs.declared.names.WindowType.{WindowType}
use Rattle.window_follower.specs.declared.names.WindowProperty.{WindowProperty}
use Rattle.window_follower.specs.declared.names.WindowProperty.TheVariants.{Text, Numbers}
use Rattle.window_follower.specs.declared.names.TextProperty.{TextProperty}
use Rattle.window_follower.specs.declared.names.TextProperty.TheVariants.{OldTitle as OfOldTitle, Title as OfTitle, Machine as OfMachine, ClientId as OfClientId}
use Rattle.window_follower.specs.declared.names.NumberProperty.{NumberProperty}
use Rattle.window_follower.specs.declared.names.NumberProperty.TheVariants.{State as OfState, Protocols as OfProtocols, Leader as OfLeader, TransientFor as OfTransientFor, Types, States, UserTime as OfUserTime, UserTimeWindow as OfUserTimeWindow, Process}
use Rattle.window_follower.specs.declared.names.Word.TheVariants.{DeleteWindow, Ping, Modal as IsModal}
use Rattle.window_follower.specs.declared.names.Name.TheVariants.{Word}
use Rattle.window_follower.specs.declared.facts.WindowState.{WindowState}
use Rattle.window_follower.specs.declared.facts.WindowState.TheVariants.{Untold, Withdrawn, Normal, Iconic, Other}
use Rattle.window_follower.specs.declared.facts.Fact.{Fact}
use Rattle.window_follower.specs.declared.facts.Fact.TheVariants.{State, Protocols, Leader, TransientFor, OldTitle, Title, Machine, ClientId, Purpose, Modal, UserTime, UserTimeWindow, Stated, Owner, Mapped}
use Rattle.window_follower.specs.declared.facts.WindowFacts.{WindowFacts}

-- A window is taken for mapped until it is heard that it isn't.
abbrev pub nothing_known : WindowFacts
nothing_known = record {
  state = Untold;
  deletes = false;
  pings = false;
  leader = None;
  transient_for = None;
  old_title = None;
  title = None;
  machine = None;
  client_id = None;
  purpose = None;
  modal = false;
  user_time = None;
  user_time_window = None;
  stated = None;
  owner = None;
  mapped = true;
}

-- an iconified window isn't mapped
abbrev pub mapped_at : WindowState → Bool → Bool
mapped_at Iconic mapped = false
mapped_at state mapped = mapped

-- what is heard takes the place of what was known
abbrev pub learned : Fact → WindowFacts → WindowFacts
learned (State state) facts = record facts { state = state; mapped = mapped_at state facts.mapped }
learned (Protocols deletes pings) facts = record facts { deletes = deletes; pings = pings }
learned (Leader leader) facts = record facts { leader = leader }
learned (TransientFor window) facts = record facts { transient_for = window }
learned (OldTitle title) facts = record facts { old_title = title }
learned (Title title) facts = record facts { title = title }
learned (Machine machine) facts = record facts { machine = machine }
learned (ClientId id) facts = record facts { client_id = id }
learned (Purpose purpose) facts = record facts { purpose = purpose }
learned (Modal modal) facts = record facts { modal = modal }
learned (UserTime time) facts = record facts { user_time = time }
learned (UserTimeWindow window) facts = record facts { user_time_window = window }
learned (Stated process) facts = record facts { stated = process }
learned (Owner process) facts = record facts { owner = process }
learned (Mapped mapped) facts = record facts { mapped = mapped }

-- unmapped, and without a WM_STATE or with one that says so
abbrev pub is_withdrawn : Bool → WindowState → Bool
is_withdrawn false Withdrawn = true
is_withdrawn mapped state = false

-- The display's word goes before the program's own.
abbrev pub process_of : WindowFacts → Option ℕ
process_of facts = option_or facts.owner facts.stated

abbrev pub title_of : WindowFacts → Option (List ℕ)
title_of facts = option_or facts.title facts.old_title

-- a program that names no machine, `localhost` or this one
abbrev pub is_local : List ℕ → Option (List ℕ) → Bool
is_local host None = true
is_local host (Some machine) = bytes_eq machine (codes "localhost") || bytes_eq machine host

-- ---- what a reply says

-- The numbers of a property whose items have 32 bits and which came whole; else none.
abbrev pub items_of : Property → List ℕ
items_of property = if property.format == 32 && property.after == 0 then longs_in (length property.value / 4) property.value else []

abbrev pub numbers_of : Reply → List ℕ
numbers_of (HasProperty property) = items_of property
numbers_of reply = []

-- the bytes of a property whose items have 8 bits and which came whole
abbrev pub text_of : Reply → Option (List ℕ)
text_of (HasProperty property) = if property.format == 8 && property.after == 0 then Some property.value else None
text_of reply = None

abbrev pub first_number : List ℕ → Option ℕ
first_number [] = None
first_number (number ∷ numbers) = Some number

-- the first number, where it isn't 0, which names nothing
abbrev pub first_named : List ℕ → Option ℕ
first_named [] = None
first_named (number ∷ numbers) = if number == 0 then None else Some number

abbrev pub state_of : List ℕ → WindowState
state_of [] = Withdrawn
state_of (number ∷ numbers) =
    if number == 0 then Withdrawn
    else if number == 1 then Normal
    else if number == 3 then Iconic
    else Other

abbrev pub is_among : ℕ → List ℕ → Bool
is_among atom numbers = list_any (λ number. number == atom) numbers

-- the first type that is known
abbrev pub purpose_in : List ℕ → List ℕ → Option WindowType
purpose_in atoms [] = None
purpose_in atoms (number ∷ numbers) = option_or (type_named atoms number) (purpose_in atoms numbers)

-- what a property of a text says, and one of numbers
abbrev pub text_fact : TextProperty → Option (List ℕ) → Fact
text_fact OfOldTitle text = OldTitle text
text_fact OfTitle text = Title text
text_fact OfMachine text = Machine text
text_fact OfClientId text = ClientId text

abbrev pub number_fact : List ℕ → NumberProperty → List ℕ → Fact
number_fact atoms OfState numbers = State (state_of numbers)
number_fact atoms OfProtocols numbers = Protocols (is_among (atom_of atoms (Word DeleteWindow)) numbers) (is_among (atom_of atoms (Word Ping)) numbers)
number_fact atoms OfLeader numbers = Leader (first_named numbers)
number_fact atoms OfTransientFor numbers = TransientFor (first_named numbers)
number_fact atoms Types numbers = Purpose (purpose_in atoms numbers)
number_fact atoms States numbers = Modal (is_among (atom_of atoms (Word IsModal)) numbers)
number_fact atoms OfUserTime numbers = UserTime (first_number numbers)
number_fact atoms OfUserTimeWindow numbers = UserTimeWindow (first_named numbers)
number_fact atoms Process numbers = Stated (first_named numbers)

-- what a window's property says
abbrev pub fact_of : List ℕ → WindowProperty → Reply → Fact
fact_of atoms (Text property) reply = text_fact property (text_of reply)
fact_of atoms (Numbers property) reply = number_fact atoms property (numbers_of reply)
