-- The talk with a program's user: its windows are asked to close one by one, and what becomes of them tells what the user wants.
use Rattle.std.specs.Prelude.{◌≡◌, ℕ, ◌<◌, ◌≤◌, ◌⊎◌, IsTrue, IfSome, IsSomeAnd, ◌+◌, ◌-◌, ◌/◌, ◌^◌, min, Bool, true, false, not, ◌&&◌, ◌||◌, ◌==◌, nat_lt, cond, is_some, is_none, List, [], map, find, Option, None, Some, if◌then◌else◌}
use Rattle.std.specs.List.{list_any}
use Rattle.program_keeper.specs.Windows.{is_aux, is_main, is_target, next_main, number_of}
use Rattle.program_keeper.specs.declared.talk.Move.{Move}
use Rattle.program_keeper.specs.declared.talk.Move.TheVariants.{Agree, Refuse, Close, Show, Wait}
use Rattle.program_keeper.specs.declared.talk.UserTalk.{UserTalk}
use Rattle.program_keeper.specs.declared.windows.Window.{Window}

-- the program has the token, and nothing was asked yet
abbrev pub start : UserTalk
start = record { asked = None; known = []; seen = false; front = None; calm = 0; waited = 0; again = 0 }

-- ---- what the windows tell

abbrev pub is_known : List ℕ → ℕ → Bool
is_known known number = list_any (λ other. other == number) known

-- A window stands for a dialog where it is modal and no main window; and behind an ask where it came since then. Before anything was asked
-- only modal ones do, with which the user is busy already.
abbrev pub stands : UserTalk → Window → Bool
stands talk window = (is_aux window.kind && window.modal) || (is_some talk.asked && (is_main window.kind || is_aux window.kind) && not (is_known talk.known window.number))

abbrev pub target_of : Option Window → List Window → Option Window
target_of None windows = None
target_of (Some asked) windows = find (is_target asked.number) windows

-- the window that was asked, where it stands
abbrev pub target : UserTalk → List Window → Option Window
target talk windows = target_of talk.asked windows

abbrev pub has_new_title : Option Window → Window → Bool
has_new_title None window = false
has_new_title (Some asked) window = not (asked.title == window.title)

abbrev pub was_touched : Option Window → Window → Bool
was_touched None window = false
was_touched (Some asked) window = not (asked.touched == window.touched)

-- the first window that stands for a dialog
abbrev pub dialog : UserTalk → List Window → Option Window
dialog talk windows = find (stands talk) windows

-- the window that was asked stands, and no dialog does
abbrev pub is_awaiting : UserTalk → List Window → Bool
is_awaiting talk windows = is_none (dialog talk windows) && is_some (target talk windows)

-- ---- what comes to a talk

-- something of the program's windows has changed
abbrev pub disturbed : UserTalk → UserTalk
disturbed talk = record talk { calm = 0 }

abbrev pub more_time : ℕ → ℕ → ℕ
more_time before elapsed = min (before + elapsed) (2 ^ 64 - 1)

-- So many milliseconds went by. They are calm where the window that was asked is waited for, and the program answered its pings.
abbrev pub passed : List Window → ℕ → Bool → UserTalk → UserTalk
passed windows elapsed answered talk = record talk { calm = cond (answered && is_awaiting talk windows) (more_time talk.calm elapsed) talk.calm; waited = more_time talk.waited elapsed }

-- the window is pinged where it knows that
abbrev pub pinged : Option Window → Option ℕ
pinged None = None
pinged (Some window) = cond window.pings (Some window.number) None

-- a second is full with this time
abbrev pub is_second : ℕ → ℕ → Bool
is_second before elapsed = nat_lt (before / 1000) (more_time before elapsed / 1000)

-- The window that is to be pinged as so many milliseconds go by.
abbrev pub ping_due : UserTalk → List Window → ℕ → Option ℕ
ping_due talk windows elapsed = cond (is_awaiting talk windows && is_second talk.waited elapsed) (pinged (target talk windows)) None

-- ---- how the talk goes on

-- a move, and the talk behind it
pub record Turn : Type 0 where
  pub move : Move
  pub next : UserTalk

abbrev pub turn : Move → UserTalk → Turn
turn move talk = record { move = move; next = talk }

abbrev pub is_front : ℕ → Option ℕ → Bool
is_front number None = false
is_front number (Some front) = front == number

-- a window is brought before the user, where it isn't there already
abbrev pub showing : ℕ → UserTalk → Turn
showing number talk = turn (cond (is_front number talk.front) Wait (Show number)) (record talk { front = Some number })

-- a window is asked for the first time
abbrev pub asked_first : Window → List Window → UserTalk
asked_first window windows = record { asked = Some window; known = map number_of windows; seen = false; front = None; calm = 0; waited = 0; again = 0 }

-- no window is left to be asked, or one is asked
abbrev pub asking : Option Window → List Window → UserTalk → Turn
asking None windows talk = turn Agree talk
asking (Some window) windows talk = turn (Close window.number) (asked_first window windows)

abbrev pub asked_again : UserTalk → UserTalk
asked_again talk = record talk { calm = 0; waited = 0; again = talk.again + 1 }

-- The window stands behind an answer of the user. Once it is calm, one with another title is asked again, three times at most; else it stays.
abbrev pub behind_answer : Window → UserTalk → Turn
behind_answer window talk =
    if nat_lt talk.calm 4000 then turn Wait talk
    else if has_new_title talk.asked window && nat_lt talk.again 3 then turn (Close window.number) (asked_again talk)
    else turn Refuse talk

-- the user did something in the window itself; after a longer calm it stays
abbrev pub behind_touch : UserTalk → Turn
behind_touch talk = if nat_lt talk.calm 10000 then turn Wait talk else turn Refuse talk

-- nothing at all is seen of the user, which is no answer; the window is brought before the user
abbrev pub behind_nothing : Window → UserTalk → Turn
behind_nothing window talk = if nat_lt talk.waited 5000 then turn Wait talk else showing window.number talk

-- the window that was asked stands, and no dialog does
abbrev pub awaiting : Window → UserTalk → Turn
awaiting window talk =
    if talk.seen || has_new_title talk.asked window then behind_answer window talk
    else if was_touched talk.asked window then behind_touch talk
    else behind_nothing window talk

abbrev pub by_target : Option Window → List Window → UserTalk → Turn
by_target (Some window) windows talk = awaiting window talk
by_target None windows talk = asking (next_main windows None windows) windows talk

-- a dialog is left to the user, however long it stands
abbrev pub by_dialog : Option Window → List Window → UserTalk → Turn
by_dialog (Some window) windows talk = showing window.number (record talk { seen = true })
by_dialog None windows talk = by_target (target talk windows) windows talk

-- How the talk goes on over these windows.
abbrev pub turn_taken : List Window → UserTalk → Turn
turn_taken windows talk = by_dialog (dialog talk windows) windows talk

-- ---- what may be relied on

-- A window may be asked to close where it is a main window that stands; and while one that was asked still stands, only that one, and three
-- times more at most.
pub record MayClose (talk : UserTalk) (windows : List Window) (number : ℕ) : Type 0 where
  pub main : IsTrue (list_any (is_target number) windows)
  pub once : IfSome (target talk windows) (λ window. (window.number ≡ number) × (talk.again < 3))

-- The program may agree where it has no main window, and no dialog stands.
pub record MayAgree (talk : UserTalk) (windows : List Window) : Type 0 where
  pub mains : list_any (λ window. is_main window.kind) windows ≡ false
  pub dialogs : dialog talk windows ≡ None

-- a dialog was seen or the title has changed, and it was calm for 4 seconds
abbrev pub HasAnswered : UserTalk → Window → Type 0
HasAnswered talk window = IsTrue (talk.seen || has_new_title talk.asked window) × (4000 ≤ talk.calm)

-- somebody did something in the window, and it was calm for 10 seconds
abbrev pub HasTouched : UserTalk → Window → Type 0
HasTouched talk window = IsTrue (was_touched talk.asked window) × (10000 ≤ talk.calm)

-- The program may refuse where the window that was asked stands behind an answer of its user.
abbrev pub MayRefuse : UserTalk → List Window → Type 0
MayRefuse talk windows = IsSomeAnd (target talk windows) (λ window. HasAnswered talk window ⊎ HasTouched talk window)

-- what each move asks of the talk and the windows
abbrev pub MayMove : UserTalk → List Window → Move → Type 0
MayMove talk windows Agree = MayAgree talk windows
MayMove talk windows Refuse = MayRefuse talk windows
MayMove talk windows (Close number) = MayClose talk windows number
MayMove talk windows move = Unit {0}
