-- What a part of the display's stream brings.
use Rattle.std.specs.Prelude.{◌≡◌, ℕ, ◌==◌, Bool, true, false, ◌&&◌, if◌then◌else◌, List, Option, Some, None}
use Rattle.display_messages.specs.Parts.{part_of}
use Rattle.display_messages.specs.Replies.{reply_of}
use Rattle.display_messages.specs.declared.request.ClientMessage.{ClientMessage}
use Rattle.display_messages.specs.declared.part.DisplayError.{DisplayError}
use Rattle.display_messages.specs.declared.part.Event.{Event}
use Rattle.display_messages.specs.declared.part.Event.TheVariants.{CreateNotify, DestroyNotify, UnmapNotify, MapNotify, ReparentNotify, PropertyNotify, Message, Other}
use Rattle.display_messages.specs.declared.part.Part.{Part}
use Rattle.display_messages.specs.declared.part.Part.TheVariants.{Error, Reply, Event as IsEvent, Short}
use Rattle.display_messages.specs.declared.reply.ReplyKind.{ReplyKind}
use Rattle.window_follower.specs.Asked.{Settled, settled}
use Rattle.window_follower.specs.Atoms.{atom_of, property_named, root_property_named}
use Rattle.window_follower.specs.Questions.{answer_kind, protocols}
use Rattle.window_follower.specs.Windows.{is_followed}
use Rattle.window_follower.specs.Following.{asking, looked, look_again, gone, heard_of}
use Rattle.window_follower.specs.Answers.{answered, failed, is_listing}
use Rattle.window_follower.specs.declared.names.Name.TheVariants.{Word}
use Rattle.window_follower.specs.declared.names.Word.TheVariants.{Ping as IsPing}
use Rattle.window_follower.specs.declared.names.WindowProperty.{WindowProperty}
use Rattle.window_follower.specs.declared.names.RootProperty.{RootProperty}
use Rattle.window_follower.specs.declared.names.RootProperty.TheVariants.{Check, Windows}
use Rattle.window_follower.specs.declared.question.Question.{Question}
use Rattle.window_follower.specs.declared.question.Question.TheVariants.{Property, Root, Mark}
use Rattle.window_follower.specs.declared.facts.Fact.TheVariants.{Mapped}
use Rattle.window_follower.specs.declared.following.Following.{Following}
use Rattle.window_follower.specs.declared.news.News.{News}
use Rattle.window_follower.specs.declared.news.News.TheVariants.{Nothing, Pong, Marked}

-- the root's list is of account where one is kept
abbrev pub list_changed : Bool → Following → Following
list_changed true s = asking (Root s.root Windows) s
list_changed false s = s

abbrev pub root_changed : Option RootProperty → Following → Following
root_changed None s = s
root_changed (Some Check) s = looked s
root_changed (Some Windows) s = list_changed (is_listing s.mode) s

-- a property that is known is asked for once more
abbrev pub window_changed : ℕ → Option WindowProperty → Following → Following
window_changed window None s = s
window_changed window (Some property) s = asking (Property window property) s

abbrev pub property_changed : ℕ → ℕ → Following → Following
property_changed window atom s =
    if window == s.root then root_changed (root_property_named s.atoms atom) s
    else if is_followed window s.windows then window_changed window (property_named s.atoms atom) s
    else s

-- what an event of the display's own brings
abbrev pub heard : Event → Following → Following
heard (CreateNotify n) s = look_again n.heard s
heard (DestroyNotify n) s = gone n.window s
heard (UnmapNotify n) s = look_again n.heard (heard_of n.window (Mapped false) s)
heard (MapNotify n) s = look_again n.heard (heard_of n.window (Mapped true) s)
heard (ReparentNotify n) s = look_again n.heard s
heard (PropertyNotify window atom) s = property_changed window atom s
heard (Message m) s = s
heard Other s = s

-- the answer to a ping is the same message, sent to the root
abbrev pub is_pong : Following → ClientMessage → Bool
is_pong s m = m.window == s.root && (m.kind == protocols s.atoms && m.first == atom_of s.atoms (Word IsPing))

-- what an event that a program sent says
abbrev pub pong_in : Following → Event → News
pong_in s (Message m) = if is_pong s m then Pong m.third m.second else Nothing
pong_in s event = Nothing

abbrev pub news_of : Question → News
news_of (Mark number) = Marked number
news_of question = Nothing

-- what a part brings: what it says to whoever follows, and what is known behind it
pub record Brought : Type 0 where
  pub news : News
  pub next : Following

-- behind an Error or a reply: the question is open no more, nor are those before it
abbrev pub behind : Settled → Following → Following
behind settled s = record s { asked = settled.next }

abbrev pub error_brings : DisplayError → Option Settled → Following → Option Brought
error_brings error None s = None
error_brings error (Some settled) s = Some (record { news = Nothing; next = failed settled.question error.kind (behind settled s) })

-- A reply to a question that has none breaks the order.
abbrev pub kind_brings : List ℕ → Option ReplyKind → Settled → Following → Option Brought
kind_brings bytes None settled s = None
kind_brings bytes (Some kind) settled s = Some (record { news = news_of settled.question; next = answered settled.question (reply_of kind bytes) (behind settled s) })

abbrev pub reply_brings : List ℕ → Option Settled → Following → Option Brought
reply_brings bytes None s = None
reply_brings bytes (Some settled) s = kind_brings bytes (answer_kind settled.question) settled s

-- An event that a program sent changes nothing.
abbrev pub event_brings : Bool → Event → Following → Brought
event_brings true event s = record { news = pong_in s event; next = s }
event_brings false event s = record { news = Nothing; next = heard event s }

-- What a part brings; none where it answers what nobody asked.
abbrev pub part_brings : Part → List ℕ → Following → Option Brought
part_brings (Error sequence error) bytes s = error_brings error (settled sequence s.asked) s
part_brings (Reply sequence) bytes s = reply_brings bytes (settled sequence s.asked) s
part_brings (IsEvent sent event) bytes s = Some (event_brings sent event s)
part_brings Short bytes s = None

abbrev pub brings : List ℕ → Following → Option Brought
brings bytes s = part_brings (part_of bytes) bytes s

-- The news and what is known behind a part are what it brings, and there are none where it brings nothing.
abbrev pub Brings : Option News → Following → Option Brought → Type 0
Brings None next brought = brought ≡ None
Brings (Some news) next brought = brought ≡ Some (record { news = news; next = next })
