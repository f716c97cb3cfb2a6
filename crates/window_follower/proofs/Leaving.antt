-- A window that was in a list leaves only by itself.
use Rattle.std.proofs.Common.{◌≡◌, ◌⊎◌, inl, inr, ℕ, ◌==◌, nat_lt, Bool, true, false, cond, ◌||◌, List, [], ◌∷◌, ◌++◌, Option, Some, None, refl, sym, ap, subst, ◌∙◌}
use Rattle.std.proofs.lemmas.Bool.{eqb-true, false≢true}
use Rattle.display_messages.specs.Parts.{part_of}
use Rattle.display_messages.specs.Replies.{reply_of}
use Rattle.display_messages.specs.declared.reply.ReplyKind.{ReplyKind}
use Rattle.display_messages.specs.declared.reply.Reply.{Reply}
use Rattle.display_messages.specs.declared.reply.Reply.TheVariants.{Attributes as HasAttributes}
use Rattle.display_messages.specs.declared.part.DisplayError.{DisplayError}
use Rattle.display_messages.specs.declared.part.ErrorKind.{ErrorKind}
use Rattle.display_messages.specs.declared.part.ErrorKind.TheVariants.{BadWindow, Other as OtherKind}
use Rattle.display_messages.specs.declared.part.Event.{Event}
use Rattle.display_messages.specs.declared.part.Event.TheVariants.{CreateNotify, DestroyNotify, UnmapNotify, MapNotify, ReparentNotify, PropertyNotify, Message, Other}
use Rattle.display_messages.specs.declared.part.Part.{Part}
use Rattle.display_messages.specs.declared.part.Part.TheVariants.{Error, Reply as IsReply, Event as IsEvent, Short}
use Rattle.window_follower.specs.Asked.{Asked, Settled, settled as settles}
use Rattle.window_follower.specs.Facts.{fact_of, first_named, numbers_of}
use Rattle.window_follower.specs.Atoms.{property_named, root_property_named}
use Rattle.window_follower.specs.Questions.{answer_kind}
use Rattle.window_follower.specs.Windows.{fresh, is_followed, is_listed, told, settled, forgotten}
use Rattle.window_follower.specs.Following.{questions_about, asking, asking_about, asking_all, looked, forgetting, marking, again_in, look_again, following, come, come_all, companion_in, accompanied, said, heard_of, is_check, gone}
use Rattle.window_follower.specs.Answers.{answered, checked, checked_root, checked_window, children_heard, children_in, events_heard, extended, failed, is_listing, is_shown, lost, names_processes, opcode_in, process_in, questions_below, root_heard, state_heard, unlisted, versioned}
use Rattle.window_follower.specs.Taking.{Brought, behind, error_brings, event_brings, heard, kind_brings, list_changed, news_of, part_brings, property_changed, reply_brings, root_changed, window_changed}
use Rattle.window_follower.specs.Laws.{ChangesAreAskedFor, ChangesAreHeardFirst, SentEventsChangeNothing, LeavesByItself, MayLeave, Told, has_withdrawn, subject, told_by_answer, told_by_event}
use Rattle.display_messages.specs.declared.part.WindowNotice.{WindowNotice}
use Rattle.window_follower.specs.Names.{window_properties}
use Rattle.window_follower.specs.declared.names.WindowProperty.TheVariants.{Text, Numbers}
use Rattle.window_follower.specs.declared.names.TextProperty.TheVariants.{ClientId}
use Rattle.window_follower.specs.declared.names.NumberProperty.TheVariants.{Process as ProcessNumber, UserTime as UserTimeNumber}
use Rattle.window_follower.specs.declared.names.RootProperty.{RootProperty}
use Rattle.window_follower.specs.declared.names.RootProperty.TheVariants.{Check, Windows}
use Rattle.window_follower.specs.declared.names.WindowProperty.{WindowProperty}
use Rattle.window_follower.specs.declared.question.Question.{Question}
use Rattle.window_follower.specs.declared.question.Question.TheVariants.{Atom, Extension, Version, Watch, Property, Root, Events, Process, Children, Managed, Shown, Close, Show, Ping, Mark}
use Rattle.window_follower.specs.declared.facts.Fact.{Fact}
use Rattle.window_follower.specs.declared.facts.Fact.TheVariants.{Owner, Mapped}
use Rattle.window_follower.specs.declared.news.News.TheVariants.{Nothing}
use Rattle.window_follower.specs.declared.mode.Mode.{Mode}
use Rattle.window_follower.specs.declared.mode.Mode.TheVariants.{Unknown, Listed, Stated, Bare}
use Rattle.window_follower.specs.declared.following.Following.{Following}
use Rattle.window_follower.specs.declared.following.Companion.{Companion}
use Rattle.window_follower.specs.declared.following.Companion.TheVariants.{None as NoOther, Leader as LedBy, UserTime as TimedBy}
use Rattle.window_follower.proofs.Listing.{listed_more, listed_marked, listed_told, listed_forgotten, listed_settled}

-- the window was in a list, as is known here
abbrev pub In : ℕ → Following → Type 0
In w s = is_listed w s.windows ≡ true

-- ---- what keeps all

in_cond : (w : ℕ) (b : Bool) (s t : Following) → In w s → In w t → In w (cond b s t)
in_cond w true s t i j = i
in_cond w false s t i j = j

in_again_in : (w : ℕ) (m : Mode) (s : Following) → In w s → In w (again_in m s)
in_again_in w Unknown s i = i
in_again_in w (Listed check) s i = i
in_again_in w Stated s i = i
in_again_in w Bare s i = i

in_again : (w h : ℕ) (s : Following) → In w s → In w (look_again h s)
in_again w h s i = in_cond w (h == s.root) (again_in s.mode s) s (in_again_in w s.mode s i) i

in_following : (w v : ℕ) (s : Following) → In w s → In w (following v s)
in_following w v s i = in_cond w (is_followed v s.windows) s (record s { windows = s.windows ++ fresh v false ∷ [] }) i (listed_more w s.windows (fresh v false ∷ []) i)

in_come : (w v : ℕ) (s : Following) → In w s → In w (come v s)
in_come w v s i = in_cond w (v == 0 || (v == s.root || is_listed v s.windows)) s (asking_about v window_properties (marking v (following v s))) i (listed_marked v w (following v s).windows (in_following w v s i))

in_come_all : (w : ℕ) (vs : List ℕ) (s : Following) → In w s → In w (come_all vs s)
in_come_all w [] s i = i
in_come_all w (v ∷ vs) s i = in_come_all w vs (come v s) (in_come w v s i)

in_accompanied : (w : ℕ) (c : Companion) (s : Following) → In w s → In w (accompanied c s)
in_accompanied w NoOther s i = i
in_accompanied w (LedBy v) s i = in_cond w (v == s.root) s (asking_about v (Text ClientId ∷ Numbers ProcessNumber ∷ []) (following v s)) i (in_following w v s i)
in_accompanied w (TimedBy v) s i = in_cond w (v == s.root) s (asking_about v (Numbers UserTimeNumber ∷ []) (following v s)) i (in_following w v s i)

in_checked_root : (w : ℕ) (check : Option ℕ) (s : Following) → In w s → In w (checked_root check s)
in_checked_root w None s i = i
in_checked_root w (Some check) s i = in_cond w (check == s.root) (unlisted s) (asking_all (Watch check 4325376 ∷ Root check Check ∷ []) s) i i

in_checked_window : (w v : ℕ) (check : Option ℕ) (s : Following) → In w s → In w (checked_window v check s)
in_checked_window w v None s i = i
in_checked_window w v (Some check) s i = in_cond w (check == v) (asking (Root s.root Windows) (record s { mode = Listed v })) (unlisted s) i i

in_checked : (w v : ℕ) (check : Option ℕ) (s : Following) → In w s → In w (checked v check s)
in_checked w v check s i = in_cond w (v == s.root) (checked_root check s) (checked_window v check s) (in_checked_root w check s i) (in_checked_window w v check s i)

in_root : (w v : ℕ) (property : RootProperty) (numbers : List ℕ) (s : Following) → In w s → In w (root_heard v property numbers s)
in_root w v Check numbers s i = in_checked w v (first_named numbers) s i
in_root w v Windows numbers s i = in_cond w (is_listing s.mode) (come_all numbers s) s (in_come_all w numbers s i) i

in_extended : (w : ℕ) (opcode : Option ℕ) (s : Following) → In w s → In w (extended opcode s)
in_extended w None s i = i
in_extended w (Some opcode) s i = i

in_versioned : (w opcode : ℕ) (b : Bool) (s : Following) → In w s → In w (versioned opcode b s)
in_versioned w opcode true s i = i
in_versioned w opcode false s i = i

in_events : (w : ℕ) (reply : Reply) (s : Following) → In w s → In w (events_heard reply s)
in_events w (HasAttributes a) s i = i
in_events w reply s i = i

in_children : (w depth : ℕ) (vs : List ℕ) (s : Following) → In w s → In w (children_heard depth vs s)
in_children w depth vs s i = in_cond w (nat_lt depth 3) (asking_all (questions_below s.mode depth vs) s) s i i

in_state : (w v depth : ℕ) (numbers : List ℕ) (s : Following) → In w s → In w (state_heard v depth numbers s)
in_state w v depth [] s i = in_cond w (nat_lt depth 3) (asking (Children v depth) s) s i i
in_state w v depth (number ∷ numbers) s i = in_cond w (number == 1 || number == 3) (come v s) s (in_come w v s i) i

in_list_changed : (w : ℕ) (b : Bool) (s : Following) → In w s → In w (list_changed b s)
in_list_changed w true s i = i
in_list_changed w false s i = i

in_root_changed : (w : ℕ) (property : Option RootProperty) (s : Following) → In w s → In w (root_changed property s)
in_root_changed w None s i = i
in_root_changed w (Some Check) s i = i
in_root_changed w (Some Windows) s i = in_list_changed w (is_listing s.mode) s i

in_window_changed : (w v : ℕ) (property : Option WindowProperty) (s : Following) → In w s → In w (window_changed v property s)
in_window_changed w v None s i = i
in_window_changed w v (Some property) s i = i

in_property_changed : (w v atom : ℕ) (s : Following) → In w s → In w (property_changed v atom s)
in_property_changed w v atom s i =
    in_cond w (v == s.root) (root_changed (root_property_named s.atoms atom) s) (cond (is_followed v s.windows) (window_changed v (property_named s.atoms atom) s) s) (in_root_changed w (root_property_named s.atoms atom) s i)
    (in_cond w (is_followed v s.windows) (window_changed v (property_named s.atoms atom) s) s (in_window_changed w v (property_named s.atoms atom) s i) i)

-- ---- what may take one out

abbrev Out : ℕ → Told → Following → Type 0
Out w heard s = has_withdrawn w (told heard.window heard.fact s.windows) ≡ true

in_heard_of : (w v : ℕ) (fact : Fact) (s : Following) → In w s → In w (heard_of v fact s) ⊎ (has_withdrawn w (told v fact s.windows) ≡ true)
in_heard_of w v fact s i = by (is_followed v s.windows) (listed_settled w (told v fact s.windows) (listed_told v w fact s.windows i))
  where
    by : (b : Bool) → (is_listed w (settled (told v fact s.windows)) ≡ true) ⊎ (has_withdrawn w (told v fact s.windows) ≡ true) → In w (cond b (said v fact s) s) ⊎ (has_withdrawn w (told v fact s.windows) ≡ true)
    by true (inl j) = inl (in_accompanied w (companion_in fact) (record s { windows = settled (told v fact s.windows) }) j)
    by true (inr out) = inr out
    by false h = inl i

in_gone : (w v : ℕ) (s : Following) → In w s → In w (gone v s) ⊎ (v ≡ w)
in_gone w v s i = by (v == w) refl
  where
    by : (b : Bool) → (v == w) ≡ b → In w (gone v s) ⊎ (v ≡ w)
    by true same = inr (eqb-true v w same)
    by false apart =
        let j : is_listed w (forgotten v s.windows) ≡ true = listed_forgotten v w s.windows apart i in
        inl (in_cond w (is_check v s.mode) (looked (record (forgetting v s) { mode = Unknown })) (forgetting v s) j j)

-- ---- a part of each kind

abbrev Stays : Part → List ℕ → ℕ → Following → Following → Type 0
Stays part bytes w s next = In w next ⊎ MayLeave part bytes s w

by_lost : (kind : ErrorKind) (v w : ℕ) (s : Following) → In w s → In w (lost kind v s) ⊎ ((kind ≡ BadWindow) × (v ≡ w))
by_lost BadWindow v w s i = on (in_gone w v s i)
  where
    on : In w (gone v s) ⊎ (v ≡ w) → In w (gone v s) ⊎ ((◌≡◌ {A = ErrorKind} BadWindow BadWindow) × (v ≡ w))
    on (inl j) = inl j
    on (inr same) = inr (refl, same)
by_lost (OtherKind code) v w s i = inl i

lost_of : (question : Question) (kind : ErrorKind) (v w : ℕ) (s : Following) → subject question ≡ Some v → In w s → In w (lost kind v s) ⊎ ((kind ≡ BadWindow) × (subject question ≡ Some w))
lost_of question kind v w s is i = on (by_lost kind v w s i)
  where
    on : In w (lost kind v s) ⊎ ((kind ≡ BadWindow) × (v ≡ w)) → In w (lost kind v s) ⊎ ((kind ≡ BadWindow) × (subject question ≡ Some w))
    on (inl j) = inl j
    on (inr (bad, same)) = inr (bad, is ∙ ap (λ (x : ℕ). Some x) same)

by_failed : (question : Question) (kind : ErrorKind) (w : ℕ) (s : Following) → In w s → In w (failed question kind s) ⊎ ((kind ≡ BadWindow) × (subject question ≡ Some w))
by_failed (Atom name) kind w s i = inl i
by_failed Extension kind w s i = inl i
by_failed (Version opcode) kind w s i = inl i
by_failed (Watch v events) kind w s i = lost_of (Watch v events) kind v w s refl i
by_failed (Property v property) kind w s i = lost_of (Property v property) kind v w s refl i
by_failed (Root v Check) kind w s i = inl (in_checked w v None s i)
by_failed (Root v Windows) kind w s i = inl i
by_failed (Events v) kind w s i = inl i
by_failed (Process opcode v) kind w s i = lost_of (Process opcode v) kind v w s refl i
by_failed (Children v depth) kind w s i = lost_of (Children v depth) kind v w s refl i
by_failed (Managed v depth) kind w s i = lost_of (Managed v depth) kind v w s refl i
by_failed (Shown v) kind w s i = lost_of (Shown v) kind v w s refl i
by_failed (Close v) kind w s i = lost_of (Close v) kind v w s refl i
by_failed (Show root v) kind w s i = inl i
by_failed (Ping v stamp) kind w s i = lost_of (Ping v stamp) kind v w s refl i
by_failed (Mark number) kind w s i = inl i

-- what was heard of some window
told_of : (v w : ℕ) (fact : Fact) (s : Following) (said_so : Option Told) → said_so ≡ Some (record { window = v; fact = fact }) → In w s → In w (heard_of v fact s) ⊎ ((heard : Told) × (said_so ≡ Some heard) × Out w heard s)
told_of v w fact s said_so is i = on (in_heard_of w v fact s i)
  where
    on : In w (heard_of v fact s) ⊎ (has_withdrawn w (told v fact s.windows) ≡ true) → In w (heard_of v fact s) ⊎ ((heard : Told) × (said_so ≡ Some heard) × Out w heard s)
    on (inl j) = inl j
    on (inr out) = inr (record { window = v; fact = fact }, is, out)

by_answered : (question : Question) (reply : Reply) (w : ℕ) (s : Following) → In w s → In w (answered question reply s) ⊎ ((heard : Told) × (told_by_answer s.atoms question reply ≡ Some heard) × Out w heard s)
by_answered (Atom name) reply w s i = inl i
by_answered Extension reply w s i = inl (in_extended w (opcode_in reply) s i)
by_answered (Version opcode) reply w s i = inl (in_versioned w opcode (names_processes reply) s i)
by_answered (Watch v events) reply w s i = inl i
by_answered (Property v property) reply w s i = told_of v w (fact_of s.atoms property reply) s (told_by_answer s.atoms (Property v property) reply) refl i
by_answered (Root v property) reply w s i = inl (in_root w v property (numbers_of reply) s i)
by_answered (Events v) reply w s i = inl (in_events w reply s i)
by_answered (Process opcode v) reply w s i = told_of v w (Owner (process_in reply)) s (told_by_answer s.atoms (Process opcode v) reply) refl i
by_answered (Children v depth) reply w s i = inl (in_children w depth (children_in reply) s i)
by_answered (Managed v depth) reply w s i = inl (in_state w v depth (numbers_of reply) s i)
by_answered (Shown v) reply w s i = inl (in_cond w (is_shown reply) (come v s) s (in_come w v s i) i)
by_answered (Close v) reply w s i = inl i
by_answered (Show root v) reply w s i = inl i
by_answered (Ping v stamp) reply w s i = inl i
by_answered (Mark number) reply w s i = inl i

abbrev Destroys : Event → ℕ → Type 0
Destroys event w = (n : WindowNotice) × (event ≡ DestroyNotify n) × (n.window ≡ w)

abbrev Tells : Event → ℕ → Following → Type 0
Tells event w s = (heard : Told) × (told_by_event event ≡ Some heard) × Out w heard s

mapped_by : (event : Event) (n : WindowNotice) (mapped : Bool) (w : ℕ) (s : Following) → told_by_event event ≡ Some (record { window = n.window; fact = Mapped mapped }) → In w s → In w (look_again n.heard (heard_of n.window (Mapped mapped) s)) ⊎ (Destroys event w ⊎ Tells event w s)
mapped_by event n mapped w s is i = on (told_of n.window w (Mapped mapped) s (told_by_event event) is i)
  where
    on : In w (heard_of n.window (Mapped mapped) s) ⊎ Tells event w s → In w (look_again n.heard (heard_of n.window (Mapped mapped) s)) ⊎ (Destroys event w ⊎ Tells event w s)
    on (inl j) = inl (in_again w n.heard (heard_of n.window (Mapped mapped) s) j)
    on (inr tells) = inr (inr tells)

by_event : (event : Event) (w : ℕ) (s : Following) → In w s → In w (heard event s) ⊎ (Destroys event w ⊎ Tells event w s)
by_event (CreateNotify n) w s i = inl (in_again w n.heard s i)
by_event (DestroyNotify n) w s i = on (in_gone w n.window s i)
  where
    on : In w (gone n.window s) ⊎ (n.window ≡ w) → In w (gone n.window s) ⊎ (Destroys (DestroyNotify n) w ⊎ Tells (DestroyNotify n) w s)
    on (inl j) = inl j
    on (inr same) = inr (inl (n, refl, same))
by_event (UnmapNotify n) w s i = mapped_by (UnmapNotify n) n false w s refl i
by_event (MapNotify n) w s i = mapped_by (MapNotify n) n true w s refl i
by_event (ReparentNotify n) w s i = inl (in_again w n.heard s i)
by_event (PropertyNotify v atom) w s i = inl (in_property_changed w v atom s i)
by_event (Message m) w s i = inl i
by_event Other w s i = inl i

-- ---- any part

abbrev next_or : Following → Option Brought → Following
next_or s None = s
next_or s (Some brought) = brought.next

pub some_next : (a b : Brought) → Some a ≡ Some b → a.next ≡ b.next
some_next a b e = ap (λ (o : Option Brought). next_or a.next o) e

abbrev is_some_in : Option Brought → Bool
is_some_in None = false
is_some_in (Some brought) = true

pub none_some : (b : Brought) → ◌≡◌ {A = Option Brought} None (Some b) → ⊥
none_some b e = false≢true (ap is_some_in e)

error_leaves : (sequence : ℕ) (error : DisplayError) (bytes : List ℕ) (s : Following) (brought : Brought) (w : ℕ) (o : Option Settled) → settles sequence s.asked ≡ o → error_brings error o s ≡ Some brought → In w s → Stays (Error sequence error) bytes w s brought.next
error_leaves sequence error bytes s brought w None is e i = absurd (none_some brought e)
error_leaves sequence error bytes s brought w (Some st) is e i = on (by_failed st.question error.kind w (behind st s) i)
  where
    on : In w (failed st.question error.kind (behind st s)) ⊎ ((error.kind ≡ BadWindow) × (subject st.question ≡ Some w)) → Stays (Error sequence error) bytes w s brought.next
    on (inl j) = inl (subst (λ (t : Following). In w t) (some_next (record { news = Nothing; next = failed st.question error.kind (behind st s) }) brought e) j)
    on (inr (bad, same)) = inr (inr (inl (record { sequence = sequence; error = error; asked = st; part_is = refl; question = is; window_is = same; kind = bad })))

kind_leaves : (sequence : ℕ) (bytes : List ℕ) (s : Following) (brought : Brought) (w : ℕ) (st : Settled) (o : Option ReplyKind) → settles sequence s.asked ≡ Some st → answer_kind st.question ≡ o → kind_brings bytes o st s ≡ Some brought → In w s → Stays (IsReply sequence) bytes w s brought.next
kind_leaves sequence bytes s brought w st None is kind_is e i = absurd (none_some brought e)
kind_leaves sequence bytes s brought w st (Some kind) is kind_is e i = on (by_answered st.question (reply_of kind bytes) w (behind st s) i)
  where
    on : In w (answered st.question (reply_of kind bytes) (behind st s)) ⊎ ((heard : Told) × (told_by_answer s.atoms st.question (reply_of kind bytes) ≡ Some heard) × Out w heard s) → Stays (IsReply sequence) bytes w s brought.next
    on (inl j) = inl (subst (λ (t : Following). In w t) (some_next (record { news = news_of st.question; next = answered st.question (reply_of kind bytes) (behind st s) }) brought e) j)
    on (inr (heard, says, out)) = inr (inr (inr (record { heard = heard; says = inr (record { sequence = sequence; asked = st; kind = kind; part_is = refl; question = is; answer = kind_is; says = says }); withdrawn = out })))

reply_leaves : (sequence : ℕ) (bytes : List ℕ) (s : Following) (brought : Brought) (w : ℕ) (o : Option Settled) → settles sequence s.asked ≡ o → reply_brings bytes o s ≡ Some brought → In w s → Stays (IsReply sequence) bytes w s brought.next
reply_leaves sequence bytes s brought w None is e i = absurd (none_some brought e)
reply_leaves sequence bytes s brought w (Some st) is e i = kind_leaves sequence bytes s brought w st (answer_kind st.question) is refl e i

event_leaves : (sent : Bool) (event : Event) (bytes : List ℕ) (s : Following) (brought : Brought) (w : ℕ) → Some (event_brings sent event s) ≡ Some brought → In w s → Stays (IsEvent sent event) bytes w s brought.next
event_leaves true event bytes s brought w e i = inl (subst (λ (t : Following). In w t) (some_next (event_brings true event s) brought e) i)
event_leaves false event bytes s brought w e i = on (by_event event w s i)
  where
    on : In w (heard event s) ⊎ (Destroys event w ⊎ Tells event w s) → Stays (IsEvent false event) bytes w s brought.next
    on (inl j) = inl (subst (λ (t : Following). In w t) (some_next (event_brings false event s) brought e) j)
    on (inr (inl (n, is, same))) = inr (inl (record { notice = n; part_is = ap (λ (x : Event). IsEvent false x) is; window_is = same }))
    on (inr (inr (heard, says, out))) = inr (inr (inr (record { heard = heard; says = inl (record { event = event; part_is = refl; says = says }); withdrawn = out })))

leaves_at : (part : Part) (bytes : List ℕ) (s : Following) (brought : Brought) (w : ℕ) → part_brings part bytes s ≡ Some brought → In w s → Stays part bytes w s brought.next
leaves_at (Error sequence error) bytes s brought w e i = error_leaves sequence error bytes s brought w (settles sequence s.asked) refl e i
leaves_at (IsReply sequence) bytes s brought w e i = reply_leaves sequence bytes s brought w (settles sequence s.asked) refl e i
leaves_at (IsEvent sent event) bytes s brought w e i = event_leaves sent event bytes s brought w e i
leaves_at Short bytes s brought w e i = absurd (none_some brought e)

pub leaves : LeavesByItself
leaves bytes s brought w e i = leaves_at (part_of bytes) bytes s brought w e i

-- ---- the other laws

pub sent : SentEventsChangeNothing
sent bytes s event is = ap (λ (part : Part). part_brings part bytes s) is

asked_again : (s : Following) (v atom : ℕ) (property : WindowProperty) → (v == s.root) ≡ false → is_followed v s.windows ≡ true → property_named s.atoms atom ≡ Some property → property_changed v atom s ≡ asking (Property v property) s
asked_again s v atom property apart follows named =
    ap (λ (b : Bool). cond b (root_changed (root_property_named s.atoms atom) s) (cond (is_followed v s.windows) (window_changed v (property_named s.atoms atom) s) s)) apart
    ∙ (ap (λ (b : Bool). cond b (window_changed v (property_named s.atoms atom) s) s) follows ∙ ap (λ (p : Option WindowProperty). window_changed v p s) named)

pub changes : ChangesAreAskedFor
changes bytes s v atom property is apart follows named brought e =
    sym (some_next (event_brings false (PropertyNotify v atom) s) brought (sym (ap (λ (part : Part). part_brings part bytes s) is) ∙ e)) ∙ asked_again s v atom property apart follows named

same_asked : (v : ℕ) (b : Bool) (s : Following) → (cond b s (record s { windows = s.windows ++ fresh v false ∷ [] })).asked ≡ s.asked
same_asked v true s = refl
same_asked v false s = refl

same_resource : (v : ℕ) (b : Bool) (s : Following) → (cond b s (record s { windows = s.windows ++ fresh v false ∷ [] })).resource ≡ s.resource
same_resource v true s = refl
same_resource v false s = refl

pub first : ChangesAreHeardFirst
first s v new =
    ap (λ (b : Bool). (cond b s (asking_about v window_properties (marking v (following v s)))).asked.waiting) new
    ∙ (ap (λ (asked : Asked). asked.waiting ++ questions_about (following v s).resource v window_properties) (same_asked v (is_followed v s.windows) s)
    ∙ ap (λ (resource : Option ℕ). s.asked.waiting ++ questions_about resource v window_properties) (same_resource v (is_followed v s.windows) s))
