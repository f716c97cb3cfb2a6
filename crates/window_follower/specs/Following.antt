-- What becomes known of windows, and what is asked of the display for it.
use Rattle.std.specs.Prelude.{ℕ, ◌==◌, Bool, false, ◌||◌, if◌then◌else◌, List, [], ◌∷◌, ◌++◌, map, Option, Some, None}
use Rattle.window_follower.specs.Asked.{ask, ask_all}
use Rattle.window_follower.specs.Names.{window_properties}
use Rattle.window_follower.specs.Windows.{fresh, forgotten, is_followed, is_listed, marked, settled, told}
use Rattle.window_follower.specs.declared.names.WindowProperty.{WindowProperty}
use Rattle.window_follower.specs.declared.names.WindowProperty.TheVariants.{Text, Numbers}
use Rattle.window_follower.specs.declared.names.TextProperty.TheVariants.{ClientId}
use Rattle.window_follower.specs.declared.names.NumberProperty.TheVariants.{Process as ProcessNumber, UserTime as UserTimeNumber}
use Rattle.window_follower.specs.declared.names.RootProperty.TheVariants.{Check}
use Rattle.window_follower.specs.declared.question.Question.{Question}
use Rattle.window_follower.specs.declared.question.Question.TheVariants.{Watch, Property, Root, Events, Process}
use Rattle.window_follower.specs.declared.facts.Fact.{Fact}
use Rattle.window_follower.specs.declared.facts.Fact.TheVariants.{Leader, UserTimeWindow}
use Rattle.window_follower.specs.declared.mode.Mode.{Mode}
use Rattle.window_follower.specs.declared.mode.Mode.TheVariants.{Unknown, Listed, Stated, Bare}
use Rattle.window_follower.specs.declared.following.Following.{Following}
use Rattle.window_follower.specs.declared.following.Companion.{Companion}
use Rattle.window_follower.specs.declared.following.Companion.TheVariants.{None as NoOther, Leader as LedBy, UserTime as TimedBy}

abbrev pub asking : Question → Following → Following
asking question s = record s { asked = ask question s.asked }

abbrev pub asking_all : List Question → Following → Following
asking_all questions s = record s { asked = ask_all questions s.asked }

-- it is looked who the window manager is
abbrev pub looked : Following → Following
looked s = asking (Root s.root Check) s

-- The changes of the root's properties and of its children are heard, before anything of it is asked for.
abbrev pub begun_looking : Following → Following
begun_looking s = looked (asking (Watch s.root 4718592) s)

abbrev pub again_in : Mode → Following → Following
again_in Unknown s = s
again_in (Listed check) s = s
again_in Stated s = asking (Events s.root) s
again_in Bare s = asking (Events s.root) s

-- Where no list says which windows there are, it is looked again after what is heard at the root.
abbrev pub look_again : ℕ → Following → Following
look_again heard s = if heard == s.root then again_in s.mode s else s

abbrev pub process_questions : Option ℕ → ℕ → List Question
process_questions None window = []
process_questions (Some opcode) window = Process opcode window ∷ []

-- First a window's changes are to be heard, and then its properties are asked for, so that no change is missed.
abbrev pub questions_about : Option ℕ → ℕ → List WindowProperty → List Question
questions_about resource window properties = (Watch window 4325376 ∷ []) ++ map (λ property. Property window property) properties ++ process_questions resource window

-- the window's changes are heard from here on
abbrev pub following : ℕ → Following → Following
following window s = if is_followed window s.windows then s else record s { windows = s.windows ++ fresh window false ∷ [] }

abbrev pub marking : ℕ → Following → Following
marking window s = record s { windows = marked window s.windows }

abbrev pub asking_about : ℕ → List WindowProperty → Following → Following
asking_about window properties s = asking_all (questions_about s.resource window properties) s

-- A window was in a list. 0 is no window, and the root is none that a program has.
abbrev pub come : ℕ → Following → Following
come window s =
    if window == 0 || (window == s.root || is_listed window s.windows) then s
    else asking_about window window_properties (marking window (following window s))

abbrev pub come_all : List ℕ → Following → Following
come_all [] s = s
come_all (window ∷ windows) s = come_all windows (come window s)

-- Of the window that leads a program's windows its ID of a session and its process are asked for.
abbrev pub led : ℕ → Following → Following
led window s = if window == s.root then s else asking_about window (Text ClientId ∷ Numbers ProcessNumber ∷ []) (following window s)

-- Of the window that has the user time of another one this is asked for.
abbrev pub timed : ℕ → Following → Following
timed window s = if window == s.root then s else asking_about window (Numbers UserTimeNumber ∷ []) (following window s)

-- another window that says something of this one
abbrev pub companion_in : Fact → Companion
companion_in (Leader (Some window)) = LedBy window
companion_in (UserTimeWindow (Some window)) = TimedBy window
companion_in fact = NoOther

abbrev pub accompanied : Companion → Following → Following
accompanied NoOther s = s
accompanied (LedBy window) s = led window s
accompanied (TimedBy window) s = timed window s

-- Something was heard of a window that is followed. It leaves where it is unmapped and withdrawn.
abbrev pub said : ℕ → Fact → Following → Following
said window fact s = accompanied (companion_in fact) (record s { windows = settled (told window fact s.windows) })

abbrev pub heard_of : ℕ → Fact → Following → Following
heard_of window fact s = if is_followed window s.windows then said window fact s else s

abbrev pub is_check : ℕ → Mode → Bool
is_check window Unknown = false
is_check window (Listed check) = check == window
is_check window Stated = false
is_check window Bare = false

abbrev pub forgetting : ℕ → Following → Following
forgetting window s = record s { windows = forgotten window s.windows }

-- A window is destroyed. With the window manager's own one it is looked who the next is.
abbrev pub gone : ℕ → Following → Following
gone window s = if is_check window s.mode then looked (record (forgetting window s) { mode = Unknown }) else forgetting window s
