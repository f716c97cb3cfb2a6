-- A window is in the view only since it was in a list.
use Rattle.std.proofs.Common.{◌≡◌, ◌⊎◌, inl, inr, ℕ, ◌==◌, nat_lt, Bool, true, false, not, cond, ◌||◌, List, [], ◌∷◌, ◌++◌, Option, Some, None, refl, sym, subst, eq-eqb}
use Rattle.std.specs.List.{list_any}
use Rattle.display_messages.specs.Parts.{part_of}
use Rattle.display_messages.specs.Replies.{reply_of}
use Rattle.display_messages.specs.declared.reply.ReplyKind.{ReplyKind}
use Rattle.display_messages.specs.declared.reply.Reply.{Reply}
use Rattle.display_messages.specs.declared.reply.Reply.TheVariants.{Attributes as HasAttributes}
use Rattle.display_messages.specs.declared.part.DisplayError.{DisplayError}
use Rattle.display_messages.specs.declared.part.ErrorKind.{ErrorKind}
use Rattle.display_messages.specs.declared.part.ErrorKind.TheVariants.{BadWindow, Other as OtherKind}
use Rattle.display_messages.specs.declared.part.Event.{Event}
use Rattle.display_messages.specs.declared.part.Event.TheVariants.{CreateNotify, DestroyNotify, UnmapNotify, MapNotify, ReparentNotify, PropertyNotify, Message, Other}
use Rattle.display_messages.specs.declared.part.Part.{Part}
use Rattle.display_messages.specs.declared.part.Part.TheVariants.{Error, Reply as IsReply, Event as IsEvent, Short}
use Rattle.window_follower.specs.Asked.{Settled, settled as settles}
use Rattle.window_follower.specs.Facts.{fact_of, first_named, numbers_of}
use Rattle.window_follower.specs.Atoms.{property_named, root_property_named}
use Rattle.window_follower.specs.Questions.{answer_kind}
use Rattle.window_follower.specs.Windows.{has_left, fresh, is_followed, is_listed, told, settled}
use Rattle.window_follower.specs.Following.{asking, asking_about, asking_all, looked, forgetting, marking, again_in, look_again, following, come, come_all, companion_in, accompanied, said, heard_of, is_check, gone}
use Rattle.window_follower.specs.Answers.{answered, checked, checked_root, checked_window, children_heard, children_in, events_heard, extended, failed, is_listing, is_shown, lost, names_processes, opcode_in, process_in, questions_below, state_heard, unlisted, versioned}
use Rattle.window_follower.specs.Taking.{Brought, behind, error_brings, event_brings, heard, kind_brings, list_changed, news_of, part_brings, property_changed, reply_brings, root_changed, window_changed}
use Rattle.window_follower.specs.Laws.{ComesByLists, IsFound, Lists, is_shown_state}
use Rattle.window_follower.proofs.Leaving.{In, none_some, some_next}
use Rattle.window_follower.specs.Names.{window_properties}
use Rattle.window_follower.specs.declared.names.WindowProperty.TheVariants.{Text, Numbers}
use Rattle.window_follower.specs.declared.names.TextProperty.TheVariants.{ClientId}
use Rattle.window_follower.specs.declared.names.NumberProperty.TheVariants.{Process as ProcessNumber, UserTime as UserTimeNumber}
use Rattle.window_follower.specs.declared.names.RootProperty.{RootProperty}
use Rattle.window_follower.specs.declared.names.RootProperty.TheVariants.{Check, Windows}
use Rattle.window_follower.specs.declared.names.WindowProperty.{WindowProperty}
use Rattle.window_follower.specs.declared.question.Question.{Question}
use Rattle.window_follower.specs.declared.question.Question.TheVariants.{Atom, Extension, Version, Watch, Property, Root, Events, Process, Children, Managed, Shown, Close, Show, Ping, Mark}
use Rattle.window_follower.specs.declared.facts.Fact.{Fact}
use Rattle.window_follower.specs.declared.facts.Fact.TheVariants.{Owner, Mapped}
use Rattle.window_follower.specs.declared.news.News.TheVariants.{Nothing}
use Rattle.window_follower.specs.declared.mode.Mode.{Mode}
use Rattle.window_follower.specs.declared.mode.Mode.TheVariants.{Unknown, Listed, Stated, Bare}
use Rattle.window_follower.specs.declared.following.Following.{Following}
use Rattle.window_follower.specs.declared.following.Companion.{Companion}
use Rattle.window_follower.specs.declared.following.Companion.TheVariants.{None as NoOther, Leader as LedBy, UserTime as TimedBy}
use Rattle.window_follower.proofs.Listing.{or_first, or_more, was_kept, was_marked, was_more, was_told}

was_cond : {R : Type 0} → (w : ℕ) (b : Bool) (s t : Following) → (In w s → R) → (In w t → R) → In w (cond b s t) → R
was_cond w true s t f g i = f i
was_cond w false s t f g i = g i

was_again_in : (w : ℕ) (m : Mode) (s : Following) → In w (again_in m s) → In w s
was_again_in w Unknown s i = i
was_again_in w (Listed check) s i = i
was_again_in w Stated s i = i
was_again_in w Bare s i = i

was_again : (w h : ℕ) (s : Following) → In w (look_again h s) → In w s
was_again w h s i = was_cond w (h == s.root) (again_in s.mode s) s (was_again_in w s.mode s) (λ j. j) i

was_following : (w v : ℕ) (s : Following) → In w (following v s) → In w s
was_following w v s i = was_cond w (is_followed v s.windows) s (record s { windows = s.windows ++ fresh v false ∷ [] }) (λ j. j) (was_more v w s.windows) i

was_come : (w v : ℕ) (s : Following) → In w (come v s) → In w s ⊎ (v ≡ w)
was_come w v s i = was_cond w (v == 0 || (v == s.root || is_listed v s.windows)) s (asking_about v window_properties (marking v (following v s))) (λ j. inl j) (λ j. on (was_marked v w (following v s).windows j)) i
  where
    on : (is_listed w (following v s).windows ≡ true) ⊎ (v ≡ w) → In w s ⊎ (v ≡ w)
    on (inl j) = inl (was_following w v s j)
    on (inr e) = inr e

was_come_all : (w : ℕ) (vs : List ℕ) (s : Following) → In w (come_all vs s) → In w s ⊎ (list_any (λ n. n == w) vs ≡ true)
was_come_all w [] s i = inl i
was_come_all w (v ∷ vs) s i = on (was_come_all w vs (come v s) i)
  where
    first : In w s ⊎ (v ≡ w) → In w s ⊎ (((v == w) || list_any (λ n. n == w) vs) ≡ true)
    first (inl j) = inl j
    first (inr e) = inr (or_first (v == w) (list_any (λ n. n == w) vs) (eq-eqb v w e))

    on : In w (come v s) ⊎ (list_any (λ n. n == w) vs ≡ true) → In w s ⊎ (((v == w) || list_any (λ n. n == w) vs) ≡ true)
    on (inl j) = first (was_come w v s j)
    on (inr more) = inr (or_more (v == w) (list_any (λ n. n == w) vs) more)

was_accompanied : (w : ℕ) (c : Companion) (s : Following) → In w (accompanied c s) → In w s
was_accompanied w NoOther s i = i
was_accompanied w (LedBy v) s i = was_cond w (v == s.root) s (asking_about v (Text ClientId ∷ Numbers ProcessNumber ∷ []) (following v s)) (λ j. j) (was_following w v s) i
was_accompanied w (TimedBy v) s i = was_cond w (v == s.root) s (asking_about v (Numbers UserTimeNumber ∷ []) (following v s)) (λ j. j) (was_following w v s) i

was_heard_of : (w v : ℕ) (fact : Fact) (s : Following) → In w (heard_of v fact s) → In w s
was_heard_of w v fact s i = was_cond w (is_followed v s.windows) (said v fact s) s (λ j. was_told v w fact s.windows (was_kept (λ row. not (has_left row)) w (told v fact s.windows) (was_accompanied w (companion_in fact) (record s { windows = settled (told v fact s.windows) }) j))) (λ j. j) i

was_gone : (w v : ℕ) (s : Following) → In w (gone v s) → In w s
was_gone w v s i = was_cond w (is_check v s.mode) (looked (record (forgetting v s) { mode = Unknown })) (forgetting v s) (was_kept (λ row. not (row.window == v)) w s.windows) (was_kept (λ row. not (row.window == v)) w s.windows) i

was_checked_root : (w : ℕ) (check : Option ℕ) (s : Following) → In w (checked_root check s) → In w s
was_checked_root w None s i = i
was_checked_root w (Some check) s i = was_cond w (check == s.root) (unlisted s) (asking_all (Watch check 4325376 ∷ Root check Check ∷ []) s) (λ j. j) (λ j. j) i

was_checked_window : (w v : ℕ) (check : Option ℕ) (s : Following) → In w (checked_window v check s) → In w s
was_checked_window w v None s i = i
was_checked_window w v (Some check) s i = was_cond w (check == v) (asking (Root s.root Windows) (record s { mode = Listed v })) (unlisted s) (λ j. j) (λ j. j) i

was_checked : (w v : ℕ) (check : Option ℕ) (s : Following) → In w (checked v check s) → In w s
was_checked w v check s i = was_cond w (v == s.root) (checked_root check s) (checked_window v check s) (was_checked_root w check s) (was_checked_window w v check s) i

was_extended : (w : ℕ) (opcode : Option ℕ) (s : Following) → In w (extended opcode s) → In w s
was_extended w None s i = i
was_extended w (Some opcode) s i = i

was_versioned : (w opcode : ℕ) (b : Bool) (s : Following) → In w (versioned opcode b s) → In w s
was_versioned w opcode true s i = i
was_versioned w opcode false s i = i

was_events : (w : ℕ) (reply : Reply) (s : Following) → In w (events_heard reply s) → In w s
was_events w (HasAttributes a) s i = i
was_events w reply s i = i

was_children : (w depth : ℕ) (vs : List ℕ) (s : Following) → In w (children_heard depth vs s) → In w s
was_children w depth vs s i = was_cond w (nat_lt depth 3) (asking_all (questions_below s.mode depth vs) s) s (λ j. j) (λ j. j) i

was_shown : (w v : ℕ) (b : Bool) (s : Following) → In w (cond b (come v s) s) → In w s ⊎ ((v ≡ w) × (b ≡ true))
was_shown w v true s i = on (was_come w v s i)
  where
    on : In w s ⊎ (v ≡ w) → In w s ⊎ ((v ≡ w) × (◌≡◌ {A = Bool} true true))
    on (inl j) = inl j
    on (inr e) = inr (e, refl)
was_shown w v false s i = inl i

was_state : (w v depth : ℕ) (numbers : List ℕ) (s : Following) → In w (state_heard v depth numbers s) → In w s ⊎ ((v ≡ w) × (is_shown_state numbers ≡ true))
was_state w v depth [] s i = inl (was_cond w (nat_lt depth 3) (asking (Children v depth) s) s (λ j. j) (λ j. j) i)
was_state w v depth (number ∷ numbers) s i = was_shown w v (number == 1 || number == 3) s i

was_list_changed : (w : ℕ) (b : Bool) (s : Following) → In w (list_changed b s) → In w s
was_list_changed w true s i = i
was_list_changed w false s i = i

was_root_changed : (w : ℕ) (property : Option RootProperty) (s : Following) → In w (root_changed property s) → In w s
was_root_changed w None s i = i
was_root_changed w (Some Check) s i = i
was_root_changed w (Some Windows) s i = was_list_changed w (is_listing s.mode) s i

was_window_changed : (w v : ℕ) (property : Option WindowProperty) (s : Following) → In w (window_changed v property s) → In w s
was_window_changed w v None s i = i
was_window_changed w v (Some property) s i = i

was_property_changed : (w v atom : ℕ) (s : Following) → In w (property_changed v atom s) → In w s
was_property_changed w v atom s i =
    was_cond w (v == s.root) (root_changed (root_property_named s.atoms atom) s) (cond (is_followed v s.windows) (window_changed v (property_named s.atoms atom) s) s) (was_root_changed w (root_property_named s.atoms atom) s)
    (was_cond w (is_followed v s.windows) (window_changed v (property_named s.atoms atom) s) s (was_window_changed w v (property_named s.atoms atom) s) (λ j. j)) i

was_lost : (kind : ErrorKind) (v w : ℕ) (s : Following) → In w (lost kind v s) → In w s
was_lost BadWindow v w s i = was_gone w v s i
was_lost (OtherKind code) v w s i = i

was_failed : (question : Question) (kind : ErrorKind) (w : ℕ) (s : Following) → In w (failed question kind s) → In w s
was_failed (Atom name) kind w s i = i
was_failed Extension kind w s i = i
was_failed (Version opcode) kind w s i = i
was_failed (Watch v events) kind w s i = was_lost kind v w s i
was_failed (Property v property) kind w s i = was_lost kind v w s i
was_failed (Root v Check) kind w s i = was_checked w v None s i
was_failed (Root v Windows) kind w s i = i
was_failed (Events v) kind w s i = i
was_failed (Process opcode v) kind w s i = was_lost kind v w s i
was_failed (Children v depth) kind w s i = was_lost kind v w s i
was_failed (Managed v depth) kind w s i = was_lost kind v w s i
was_failed (Shown v) kind w s i = was_lost kind v w s i
was_failed (Close v) kind w s i = was_lost kind v w s i
was_failed (Show root v) kind w s i = i
was_failed (Ping v stamp) kind w s i = was_lost kind v w s i
was_failed (Mark number) kind w s i = i

was_answered : (question : Question) (reply : Reply) (w : ℕ) (s : Following) → In w (answered question reply s) → In w s ⊎ Lists question reply w
was_answered (Atom name) reply w s i = inl i
was_answered Extension reply w s i = inl (was_extended w (opcode_in reply) s i)
was_answered (Version opcode) reply w s i = inl (was_versioned w opcode (names_processes reply) s i)
was_answered (Watch v events) reply w s i = inl i
was_answered (Property v property) reply w s i = inl (was_heard_of w v (fact_of s.atoms property reply) s i)
was_answered (Root v Check) reply w s i = inl (was_checked w v (first_named (numbers_of reply)) s i)
was_answered (Root v Windows) reply w s i = was_cond w (is_listing s.mode) (come_all (numbers_of reply) s) s (was_come_all w (numbers_of reply) s) (λ j. inl j) i
was_answered (Events v) reply w s i = inl (was_events w reply s i)
was_answered (Process opcode v) reply w s i = inl (was_heard_of w v (Owner (process_in reply)) s i)
was_answered (Children v depth) reply w s i = inl (was_children w depth (children_in reply) s i)
was_answered (Managed v depth) reply w s i = was_state w v depth (numbers_of reply) s i
was_answered (Shown v) reply w s i = was_shown w v (is_shown reply) s i
was_answered (Close v) reply w s i = inl i
was_answered (Show root v) reply w s i = inl i
was_answered (Ping v stamp) reply w s i = inl i
was_answered (Mark number) reply w s i = inl i

was_heard : (event : Event) (w : ℕ) (s : Following) → In w (heard event s) → In w s
was_heard (CreateNotify n) w s i = was_again w n.heard s i
was_heard (DestroyNotify n) w s i = was_gone w n.window s i
was_heard (UnmapNotify n) w s i = was_heard_of w n.window (Mapped false) s (was_again w n.heard (heard_of n.window (Mapped false) s) i)
was_heard (MapNotify n) w s i = was_heard_of w n.window (Mapped true) s (was_again w n.heard (heard_of n.window (Mapped true) s) i)
was_heard (ReparentNotify n) w s i = was_again w n.heard s i
was_heard (PropertyNotify v atom) w s i = was_property_changed w v atom s i
was_heard (Message m) w s i = i
was_heard Other w s i = i

-- ---- any part

abbrev Came : Part → List ℕ → ℕ → Following → Type 0
Came part bytes w s = In w s ⊎ IsFound part bytes s w

error_comes : (sequence : ℕ) (error : DisplayError) (bytes : List ℕ) (s : Following) (brought : Brought) (w : ℕ) (o : Option Settled) → error_brings error o s ≡ Some brought → In w brought.next → Came (Error sequence error) bytes w s
error_comes sequence error bytes s brought w None e i = absurd (none_some brought e)
error_comes sequence error bytes s brought w (Some st) e i =
    inl (was_failed st.question error.kind w (behind st s) (subst (λ (t : Following). In w t) (sym (some_next (record { news = Nothing; next = failed st.question error.kind (behind st s) }) brought e)) i))

kind_comes : (sequence : ℕ) (bytes : List ℕ) (s : Following) (brought : Brought) (w : ℕ) (st : Settled) (o : Option ReplyKind) → settles sequence s.asked ≡ Some st → answer_kind st.question ≡ o → kind_brings bytes o st s ≡ Some brought → In w brought.next → Came (IsReply sequence) bytes w s
kind_comes sequence bytes s brought w st None is kind_is e i = absurd (none_some brought e)
kind_comes sequence bytes s brought w st (Some kind) is kind_is e i =
    on (was_answered st.question (reply_of kind bytes) w (behind st s) (subst (λ (t : Following). In w t) (sym (some_next (record { news = news_of st.question; next = answered st.question (reply_of kind bytes) (behind st s) }) brought e)) i))
  where
    on : In w s ⊎ Lists st.question (reply_of kind bytes) w → Came (IsReply sequence) bytes w s
    on (inl j) = inl j
    on (inr lists) = inr (record { sequence = sequence; asked = st; kind = kind; part_is = refl; question = is; answer = kind_is; lists = lists })

reply_comes : (sequence : ℕ) (bytes : List ℕ) (s : Following) (brought : Brought) (w : ℕ) (o : Option Settled) → settles sequence s.asked ≡ o → reply_brings bytes o s ≡ Some brought → In w brought.next → Came (IsReply sequence) bytes w s
reply_comes sequence bytes s brought w None is e i = absurd (none_some brought e)
reply_comes sequence bytes s brought w (Some st) is e i = kind_comes sequence bytes s brought w st (answer_kind st.question) is refl e i

event_comes : (sent : Bool) (event : Event) (bytes : List ℕ) (s : Following) (brought : Brought) (w : ℕ) → Some (event_brings sent event s) ≡ Some brought → In w brought.next → Came (IsEvent sent event) bytes w s
event_comes true event bytes s brought w e i = inl (subst (λ (t : Following). In w t) (sym (some_next (event_brings true event s) brought e)) i)
event_comes false event bytes s brought w e i = inl (was_heard event w s (subst (λ (t : Following). In w t) (sym (some_next (event_brings false event s) brought e)) i))

comes_at : (part : Part) (bytes : List ℕ) (s : Following) (brought : Brought) (w : ℕ) → part_brings part bytes s ≡ Some brought → In w brought.next → Came part bytes w s
comes_at (Error sequence error) bytes s brought w e i = error_comes sequence error bytes s brought w (settles sequence s.asked) e i
comes_at (IsReply sequence) bytes s brought w e i = reply_comes sequence bytes s brought w (settles sequence s.asked) refl e i
comes_at (IsEvent sent event) bytes s brought w e i = event_comes sent event bytes s brought w e i
comes_at Short bytes s brought w e i = absurd (none_some brought e)

pub comes : ComesByLists
comes bytes s brought w e i = comes_at (part_of bytes) bytes s brought w e i
