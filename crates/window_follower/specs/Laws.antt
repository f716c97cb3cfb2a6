-- What holds of all that a follower is told.
use Rattle.std.specs.Prelude.{take, ◌≡◌, ◌⊎◌, ℕ, ◌≤◌, ◌==◌, Bool, true, false, ◌&&◌, ◌||◌, List, [], ◌∷◌, ◌++◌, length, map, slice_index_or, is_some, Option, Some, None}
use Rattle.std.specs.List.{list_any}
use Rattle.display_messages.specs.Parts.{part_of}
use Rattle.display_messages.specs.declared.part.WindowNotice.{WindowNotice}
use Rattle.display_messages.specs.declared.part.DisplayError.{DisplayError}
use Rattle.display_messages.specs.declared.part.ErrorKind.TheVariants.{BadWindow}
use Rattle.display_messages.specs.declared.part.Event.{Event}
use Rattle.display_messages.specs.declared.part.Event.TheVariants.{DestroyNotify, UnmapNotify, MapNotify, PropertyNotify}
use Rattle.display_messages.specs.declared.part.Part.{Part}
use Rattle.display_messages.specs.declared.part.Part.TheVariants.{Error, Reply as IsReply, Event as IsEvent}
use Rattle.window_follower.specs.Asked.{room, Asked, Settled, settled, after_sending}
use Rattle.window_follower.specs.Atoms.{property_named}
use Rattle.window_follower.specs.Facts.{fact_of, numbers_of}
use Rattle.window_follower.specs.Questions.{answer_kind, has_answer, request_of}
use Rattle.window_follower.specs.Answers.{is_shown, process_in}
use Rattle.display_messages.specs.Replies.{kind_of, reply_of}
use Rattle.display_messages.specs.declared.reply.ReplyKind.{ReplyKind}
use Rattle.display_messages.specs.declared.reply.Reply.{Reply}
use Rattle.window_follower.specs.Windows.{is_followed, is_listed, has_left, told}
use Rattle.window_follower.specs.Following.{asking, come, process_questions}
use Rattle.window_follower.specs.Names.{every_name, place, window_properties}
use Rattle.window_follower.specs.declared.names.Name.{Name}
use Rattle.window_follower.specs.Taking.{Brought, brings, pong_in}
use Rattle.window_follower.specs.declared.names.WindowProperty.{WindowProperty}
use Rattle.window_follower.specs.declared.question.Question.{Question}
use Rattle.window_follower.specs.declared.question.Question.TheVariants.{Watch, Property, Root, Process, Children, Managed, Shown, Close, Ping, Mark}
use Rattle.window_follower.specs.declared.names.RootProperty.TheVariants.{Windows}
use Rattle.window_follower.specs.declared.facts.Fact.{Fact}
use Rattle.window_follower.specs.declared.facts.Fact.TheVariants.{Owner, Mapped}
use Rattle.window_follower.specs.declared.windows.Followed.{Followed}
use Rattle.window_follower.specs.declared.following.Following.{Following}

-- An event that a program sent changes nothing.
abbrev pub SentEventsChangeNothing : Type 0
SentEventsChangeNothing = (bytes : List ℕ) (s : Following) (event : Event) → part_of bytes ≡ IsEvent true event → brings bytes s ≡ Some (record { news = pong_in s event; next = s })

-- the window that a question is about, if it is none of the root's
abbrev pub subject : Question → Option ℕ
subject (Watch window events) = Some window
subject (Property window property) = Some window
subject (Process opcode window) = Some window
subject (Children window depth) = Some window
subject (Managed window depth) = Some window
subject (Shown window) = Some window
subject (Close window) = Some window
subject (Ping window stamp) = Some window
subject question = None

-- a window of that number was in a list, and is unmapped and withdrawn
abbrev pub has_withdrawn : ℕ → List Followed → Bool
has_withdrawn window rows = list_any (λ row. row.window == window && has_left row) rows

-- the display says that the window is destroyed
pub record IsDestroyed (part : Part) (window : ℕ) : Type 0 where
  pub notice : WindowNotice
  pub part_is : part ≡ IsEvent false (DestroyNotify notice)
  pub window_is : notice.window ≡ window

-- the display says that there is no such window
pub record IsMissing (part : Part) (s : Following) (window : ℕ) : Type 0 where
  pub sequence : ℕ
  pub error : DisplayError
  pub asked : Settled
  pub part_is : part ≡ Error sequence error
  pub question : settled sequence s.asked ≡ Some asked
  pub window_is : subject asked.question ≡ Some window
  pub kind : error.kind ≡ BadWindow

-- something that a part says of a window
pub record Told : Type 0 where
  pub window : ℕ
  pub fact : Fact

abbrev pub told_by_event : Event → Option Told
told_by_event (UnmapNotify n) = Some (record { window = n.window; fact = Mapped false })
told_by_event (MapNotify n) = Some (record { window = n.window; fact = Mapped true })
told_by_event event = None

abbrev pub told_by_answer : List ℕ → Question → Reply → Option Told
told_by_answer atoms (Property window property) reply = Some (record { window = window; fact = fact_of atoms property reply })
told_by_answer atoms (Process opcode window) reply = Some (record { window = window; fact = Owner (process_in reply) })
told_by_answer atoms question reply = None

-- the display says it by an event
pub record IsNoticed (part : Part) (told : Told) : Type 0 where
  pub event : Event
  pub part_is : part ≡ IsEvent false event
  pub says : told_by_event event ≡ Some told

-- the display says it by the answer to a question
pub record IsAnswered (part : Part) (bytes : List ℕ) (s : Following) (told : Told) : Type 0 where
  pub sequence : ℕ
  pub asked : Settled
  pub kind : ReplyKind
  pub part_is : part ≡ IsReply sequence
  pub question : settled sequence s.asked ≡ Some asked
  pub answer : answer_kind asked.question ≡ Some kind
  pub says : told_by_answer s.atoms asked.question (reply_of kind bytes) ≡ Some told

-- what the part says of a window shows that this one is unmapped and withdrawn
pub record IsWithdrawn (part : Part) (bytes : List ℕ) (s : Following) (window : ℕ) : Type 0 where
  pub heard : Told
  pub says : IsNoticed part heard ⊎ IsAnswered part bytes s heard
  pub withdrawn : has_withdrawn window (told heard.window heard.fact s.windows) ≡ true

abbrev pub MayLeave : Part → List ℕ → Following → ℕ → Type 0
MayLeave part bytes s window = IsDestroyed part window ⊎ (IsMissing part s window ⊎ IsWithdrawn part bytes s window)

-- A window that was in a list leaves only by itself: it is destroyed, or the display knows it no more, or it is unmapped and withdrawn. So a list without it takes nothing out, nor does an empty one.
abbrev pub LeavesByItself : Type 0
LeavesByItself = (bytes : List ℕ) (s : Following) (brought : Brought) (window : ℕ) → brings bytes s ≡ Some brought → is_listed window s.windows ≡ true → (is_listed window brought.next.windows ≡ true) ⊎ MayLeave (part_of bytes) bytes s window

-- shown or iconified
abbrev pub is_shown_state : List ℕ → Bool
is_shown_state [] = false
is_shown_state (number ∷ numbers) = number == 1 || number == 3

-- The answer to a question has the window: it is in the list of the window manager's, or has a WM_STATE of a window that is shown or iconified, or is shown below the root.
abbrev pub Lists : Question → Reply → ℕ → Type 0
Lists (Root other Windows) reply window = list_any (λ number. number == window) (numbers_of reply) ≡ true
Lists (Managed other depth) reply window = (other ≡ window) × (is_shown_state (numbers_of reply) ≡ true)
Lists (Shown other) reply window = (other ≡ window) × (is_shown reply ≡ true)
Lists question reply window = ⊥

-- the part is such an answer
pub record IsFound (part : Part) (bytes : List ℕ) (s : Following) (window : ℕ) : Type 0 where
  pub sequence : ℕ
  pub asked : Settled
  pub kind : ReplyKind
  pub part_is : part ≡ IsReply sequence
  pub question : settled sequence s.asked ≡ Some asked
  pub answer : answer_kind asked.question ≡ Some kind
  pub lists : Lists asked.question (reply_of kind bytes) window

-- A window is in the view only since it was in a list, or was found below the root.
abbrev pub ComesByLists : Type 0
ComesByLists = (bytes : List ℕ) (s : Following) (brought : Brought) (window : ℕ) → brings bytes s ≡ Some brought → is_listed window brought.next.windows ≡ true → (is_listed window s.windows ≡ true) ⊎ IsFound (part_of bytes) bytes s window

-- After a change of a property of a window that is followed it is asked for once more.
abbrev pub ChangesAreAskedFor : Type 0
ChangesAreAskedFor = (bytes : List ℕ) (s : Following) (window atom : ℕ) (property : WindowProperty) → part_of bytes ≡ IsEvent false (PropertyNotify window atom) → (window == s.root) ≡ false → is_followed window s.windows ≡ true → property_named s.atoms atom ≡ Some property → (brought : Brought) → brings bytes s ≡ Some brought → brought.next ≡ asking (Property window property) s

-- Of a window that is new in a list it is asked for the changes first, and then for the properties and the process.
abbrev pub ChangesAreHeardFirst : Type 0
ChangesAreHeardFirst = (s : Following) (window : ℕ) → (window == 0 || (window == s.root || is_listed window s.windows)) ≡ false → (come window s).asked.waiting ≡ s.asked.waiting ++ (Watch window 4325376 ∷ (map (λ property. Property window property) window_properties ++ process_questions s.resource window))

-- A question has the reply of its request, or none where that has none.
abbrev pub AnswersFitRequests : Type 0
AnswersFitRequests = (atoms : List ℕ) (question : Question) → (answer_kind question ≡ kind_of (request_of atoms question)) × (has_answer question ≡ is_some (answer_kind question))

-- The atoms come in the order in which they are asked for, so each name's atom stands at its place.
abbrev pub NamesHaveTheirPlaces : Type 0
NamesHaveTheirPlaces = (name other : Name) → slice_index_or every_name (place name) other ≡ name

-- Never more than 65,535 questions are open.
abbrev pub FewAreOpen : Type 0
FewAreOpen = (asked : Asked) → length asked.unanswered ≤ 65535 → length (after_sending asked).unanswered ≤ 65535

-- Behind a sending nothing waits, or a mark is the last that is open, but where 65,535 were open already.
abbrev pub AMarkIsAskedFor : Type 0
AMarkIsAskedFor = (asked : Asked) → length asked.unanswered ≤ 65534 → ((after_sending asked).waiting ≡ []) ⊎ ((after_sending asked).unanswered ≡ (asked.unanswered ++ take (room asked) asked.waiting) ++ Mark 0 ∷ [])

pub record Follows : Type 0 where
  pub sent : SentEventsChangeNothing
  pub comes : ComesByLists
  pub leaves : LeavesByItself
  pub changes : ChangesAreAskedFor
  pub first : ChangesAreHeardFirst
  pub answers : AnswersFitRequests
  pub places : NamesHaveTheirPlaces
  pub few : FewAreOpen
  pub mark : AMarkIsAskedFor
