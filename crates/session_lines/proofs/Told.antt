-- The session is told of an event: the line goes on by what it does, and the notes of the line are those of the session.
use Rattle.std.proofs.Common.{◌≡◌, refl, ℕ, Bool, true, false, cond, not, ◌&&◌, ◌==◌, eqb, List, [], ◌∷◌, ◌++◌, map, Option, Some, None, sym, ap, subst, ◌∙◌, if◌then◌else◌, inl, inr, arith}
use Rattle.std.specs.Option.{option_map, is_some}
use Rattle.std.specs.List.{flat_map}
use Rattle.std.proofs.lemmas.List.{append_assoc, append-nil}
use Rattle.std.proofs.lemmas.Bool.{cases_eq}
use Rattle.ice_values.specs.Fields.{ErrorFields}
use Rattle.checkpoint_records.specs.declared.records.Book.{Book}
use Rattle.xsmp_messages.specs.declared.message.XsmpMessage.{XsmpMessage}
use Rattle.xsmp_messages.specs.declared.message.XsmpMessage.TheVariants.{Error as XsmpError}
use Rattle.session_model.specs.declared.events.Act.{Act as SessionAct}
use Rattle.session_model.specs.declared.events.Act.TheVariants.{Commit as Commits, Say as SaysXsmp, Shut as ShutsConn, Unset as Ends}
use Rattle.session_model.specs.declared.events.SessionEvent.{SessionEvent}
use Rattle.session_model.specs.Moves.{Agreed, Began, Blamed, Cancelled, Closed, Committed, Finished, Gave, History, Move, Opened, Opening, Outside, Over, Printed, Tried, Unset, acts_of, all_acts, onto, reason_of, waits_for, ◌▷◌}
use Rattle.session_model.specs.Books.{opening_moves}
use Rattle.session_model.specs.Rules.{opened, run, taken}
use Rattle.session_engine.specs.Acts.{acts_for_all}
use Rattle.session_engine.specs.Machine.{Connection, acts_since, changed, connection_of, connections_after, connections_through, opening_acts, unset_on, without}
use Rattle.session_engine.specs.declared.acts.Act.TheVariants.{Commit, Finish, Print, Say, Shut, Start}
use Rattle.protocol_messages.specs.declared.message.Message.TheVariants.{Xsmp}
use Rattle.session_engine.proofs.Connections.{same, other, connection_of-changed, connection_of-without}
use Rattle.session_engine.proofs.Following.{since-is}
use Rattle.session_engine.proofs.Opening.{acts-onto}
use Rattle.session_notes.specs.Notes.{Did, Entry, Given, Gone, Note, Started, Wrote, entries, entries_of}
use Rattle.session_notes.specs.Laws.{IsSeen}
use Rattle.session_notes.proofs.Seen.{noted_of, notes-are}
use Rattle.session_notes.proofs.Settled as settled
use Rattle.session_notes.proofs.Fine.{IsDue, IsOwed}
use Rattle.session_lines.specs.Lines.{Does, Seen, Took, given_in, heard_in, is_error, is_open, noted}
use Rattle.session_model.proofs.Own.{AllOwn, IsAnswer, all-answers, is_fault, own-opening}
use Rattle.session_lines.proofs.Points.{Holds, Kept, along, holds-blamed, holds-finish, holds-print, holds-shut}

-- Histories of runs

-- a run over the book has come to this
pub record Reached (book : Book) (h : History) : Type 0 where
  pub patience : ℕ
  pub events : List SessionEvent
  pub is : run (opened (waits_for patience book)) events ≡ h

run-more : (events : List SessionEvent) (event : SessionEvent) (h : History) → run h (events ++ event ∷ []) ≡ taken event (run h events)
run-more [] event h = refl
run-more (first ∷ events) event h = run-more events event (taken first h)

reached-more : (book : Book) (event : SessionEvent) (h : History) → Reached book h → Reached book (taken event h)
reached-more book event h r = record { patience = r.patience; events = r.events ++ event ∷ []; is = run-more r.events event (opened (waits_for r.patience book)) ∙ ap (λ (g : History). taken event g) r.is }

-- what is seen of moves
abbrev more_of : List Move → List Entry
more_of moves = flat_map entries_of moves

entries-onto : (moves : List Move) (h : History) → entries (onto h moves) ≡ entries h ++ more_of moves
entries-onto [] h = sym (append-nil (entries h))
entries-onto (m ∷ moves) h = entries-onto moves (m ▷ h) ∙ append_assoc (entries h) (entries_of m) (more_of moves)

seen-front : (book : Book) (moves : List Move) (h : History) → Reached book (onto h moves) → IsSeen book (entries h)
seen-front book moves h r = record { patience = r.patience; events = r.events; later = more_of moves; parts = sym (entries-onto moves h) ∙ ap (λ (g : History). entries g) (sym r.is) }

-- What holds there

-- the notes of the line are those of the session
abbrev pub Notes : List Seen → History → Type 0
Notes seen h = noted seen ≡ noted_of h

kept-there : (book : Book) (h : History) (seen : List Seen) → IsSeen book (entries h) → Notes seen h → Kept book (noted seen)
kept-there book h seen s e =
    subst (λ (n : List Note). Kept book n) (notes-are h ∙ sym e)
    (settled.one-has book (entries h) s, (settled.ids-hold book (entries h) s, (settled.discards-hold book (entries h) s, settled.kept-holds book (entries h) s)))

due-there : (book : Book) (c : ℕ) (m : XsmpMessage) (h : History) (seen : List Seen) → IsSeen book (entries (Gave c m ▷ h)) → Notes seen h → IsDue (noted seen) (Did (SaysXsmp c m)) × IsOwed book (noted seen) (Did (SaysXsmp c m))
due-there book c m h seen s e =
    subst (λ (n : List Note). IsDue n (Did (SaysXsmp c m)) × IsOwed book n (Did (SaysXsmp c m))) (notes-are h ∙ sym e) (settled.is-due book (entries h) (Did (SaysXsmp c m)) s, settled.is-owed book (entries h) (Did (SaysXsmp c m)) s)

owed-there : (book written : Book) (h : History) (seen : List Seen) → IsSeen book (entries (Committed written ▷ h)) → Notes seen h → IsOwed book (noted seen) (Did (Commits written))
owed-there book written h seen s e =
    subst (λ (n : List Note). IsOwed book n (Did (Commits written))) (notes-are h ∙ sym e) (settled.is-owed book (entries h) (Did (Commits written)) s)

-- A message of the session

no-error : (m : XsmpMessage) → is_fault m ≡ false → is_error (Xsmp m) ≡ false
no-error (XsmpError error) e = absurd (grind arith)
no-error m e = refl

given-is : (c : ℕ) (m : XsmpMessage) → is_fault m ≡ false → given_in c (Xsmp m) ≡ Given c m ∷ []
given-is c (XsmpError error) e = absurd (grind arith)
given-is c m e = refl

pub noted-given : (c : ℕ) (m : XsmpMessage) (seen : List Seen) → is_fault m ≡ false → noted (Does (Say c (Xsmp m)) ∷ seen) ≡ Given c m ∷ noted seen
noted-given c m [] e = ap (λ (ns : List Note). ns ++ []) (given-is c m e)
noted-given c m (Took d part ∷ seen) e =
    ap (λ (b : Bool). cond (b && d == c) (noted seen) (given_in c (Xsmp m) ++ (heard_in d part ++ noted seen))) (no-error m e) ∙ ap (λ (ns : List Note). ns ++ (heard_in d part ++ noted seen)) (given-is c m e)
noted-given c m (entry ∷ seen) e = ap (λ (ns : List Note). ns ++ noted (entry ∷ seen)) (given-is c m e)

-- Who is open

abbrev pub Open : List Seen → List Connection → Type 0
Open seen ks = (q : ℕ) → is_open q seen ≡ is_some (connection_of q ks)

pub open-changed : (f : Connection → Connection) → ((k : Connection) → (f k).number ≡ k.number) → (c : ℕ) (seen : List Seen) (ks : List Connection) → Open seen ks → Open seen (changed f c ks)
open-changed f keeps c seen ks o q = o q ∙ sym (ap (λ (k : Option Connection). is_some k) (connection_of-changed f keeps c q ks) ∙ either (nat_is q c) (connection_of q ks)) where
  nat_is : ℕ → ℕ → Bool
  nat_is q c = eqb q c

  mapped : (k : Option Connection) → is_some (option_map f k) ≡ is_some k
  mapped None = refl
  mapped (Some k) = refl

  either : (b : Bool) (k : Option Connection) → is_some (if◌then◌else◌ {A = Option Connection} b (option_map f k) k) ≡ is_some k
  either true k = mapped k
  either false k = refl

gone-at : (b : Bool) (k : Option Connection) → is_some (if◌then◌else◌ {A = Option Connection} b None k) ≡ (not b && is_some k)
gone-at true k = refl
gone-at false k = refl

pub turned-eq : (q c : ℕ) → eqb c q ≡ eqb q c
turned-eq q c = elim (cases_eq q c) [ inl e ↦ same c q (sym e) ∙ sym (same q c e) | inr apart ↦ other c q (λ e. apart (sym e)) ∙ sym (other q c apart) ]

-- a connection is gone
pub open-without : (c : ℕ) (seen : List Seen) (ks : List Connection) → Open seen ks → (q : ℕ) → (not (c == q) && is_open q seen) ≡ is_some (connection_of q (without c ks))
open-without c seen ks o q =
    ap (λ (b : Bool). not b && is_open q seen) (turned-eq q c) ∙ ap (λ (b : Bool). not (eqb q c) && b) (o q) ∙ sym (ap (λ (k : Option Connection). is_some k) (connection_of-without c q ks) ∙ gone-at (eqb q c) (connection_of q ks))

-- The session and the line

-- the line shows the session, its live connections and that the laws hold
pub record At (book : Book) (ks : List Connection) (h : History) (seen : List Seen) : Type 0 where
  pub reached : Reached book h
  pub notes : Notes seen h
  pub live : Open seen ks
  pub holds : Holds book seen

abbrev acts_by : List Move → List SessionAct
acts_by moves = flat_map acts_of moves

abbrev line_by : List Move → List Seen
line_by moves = map Does (acts_for_all (acts_by moves))

own-at : (book : Book) (moves : List Move) (h : History) (ks : List Connection) (seen : List Seen) → AllOwn moves → Reached book (onto h moves) → Notes seen h → Open seen ks → Holds book seen
    → At book (connections_through (acts_by moves) ks) (onto h moves) (along seen (line_by moves))
own-at book [] h ks seen own r n o k = record { reached = r; notes = n; live = o; holds = k }
own-at book (Outside event ∷ moves) h ks seen own r n o k = absurd own.0
own-at book (Blamed c error ∷ moves) h ks seen own r n o k = absurd own.0
own-at book (Gave c m ∷ moves) h ks seen own r n o k =
    let s : IsSeen book (entries (Gave c m ▷ h)) = seen-front book moves (Gave c m ▷ h) r in
    let e : Notes (Does (Say c (Xsmp m)) ∷ seen) (Gave c m ▷ h) = noted-given c m seen own.0 ∙ ap (λ (ns : List Note). Given c m ∷ ns) n in
    own-at book moves (Gave c m ▷ h) ks (Does (Say c (Xsmp m)) ∷ seen) own.1 r e o (kept-there book (Gave c m ▷ h) (Does (Say c (Xsmp m)) ∷ seen) s e, (due-there book c m h seen s n, k))
own-at book (Unset c ∷ moves) h ks seen own r n o k = own-at book moves (Unset c ▷ h) (changed unset_on c ks) seen own.1 r n (open-changed unset_on (λ x. refl) c seen ks o) k
own-at book (Closed c ∷ moves) h ks seen own r n o k =
    own-at book moves (Closed c ▷ h) (without c ks) (Does (Shut c) ∷ seen) own.1 r (ap (λ (ns : List Note). Gone c ∷ ns) n) (λ q. open-without c seen ks o q) (holds-shut book c seen k)
own-at book (Began conns wanted ∷ moves) h ks seen own r n o k = own-at book moves (Began conns wanted ▷ h) ks seen own.1 r n o k
own-at book (Over ∷ moves) h ks seen own r n o k = own-at book moves (Over ▷ h) ks seen own.1 r n o k
own-at book (Cancelled ∷ moves) h ks seen own r n o k = own-at book moves (Cancelled ▷ h) ks seen own.1 r n o k
own-at book (Agreed ∷ moves) h ks seen own r n o k = own-at book moves (Agreed ▷ h) ks seen own.1 r n o k
own-at book (Tried cause command ∷ moves) h ks seen own r n o k =
    let s : IsSeen book (entries (Tried cause command ▷ h)) = seen-front book moves (Tried cause command ▷ h) r in
    let e : Notes (Does (Start (reason_of cause) command) ∷ seen) (Tried cause command ▷ h) = ap (λ (ns : List Note). Started (reason_of cause) command ∷ ns) n in
    own-at book moves (Tried cause command ▷ h) ks (Does (Start (reason_of cause) command) ∷ seen) own.1 r e o (kept-there book (Tried cause command ▷ h) (Does (Start (reason_of cause) command) ∷ seen) s e, (tt, k))
own-at book (Committed written ∷ moves) h ks seen own r n o k =
    let s : IsSeen book (entries (Committed written ▷ h)) = seen-front book moves (Committed written ▷ h) r in
    let e : Notes (Does (Commit written) ∷ seen) (Committed written ▷ h) = ap (λ (ns : List Note). Wrote written ∷ ns) n in
    own-at book moves (Committed written ▷ h) ks (Does (Commit written) ∷ seen) own.1 r e o (kept-there book (Committed written ▷ h) (Does (Commit written) ∷ seen) s e, (owed-there book written h seen s n, k))
own-at book (Printed text ∷ moves) h ks seen own r n o k = own-at book moves (Printed text ▷ h) ks (Does (Print text) ∷ seen) own.1 r n o (holds-print book text seen k)
own-at book (Finished ∷ moves) h ks seen own r n o k = own-at book moves (Finished ▷ h) ks (Does Finish ∷ seen) own.1 r n o (holds-finish book seen k)

-- an Error of the session is noted on the line as in the session
abbrev pub Blames : List Seen → History → Type 0
Blames seen h = (c : ℕ) (error : ErrorFields) → noted (Does (Say c (Xsmp (XsmpError error))) ∷ seen) ≡ noted_of (Blamed c error ▷ h)

answer-at : (book : Book) (moves : List Move) (h : History) (ks : List Connection) (seen : List Seen) → IsAnswer moves → Reached book (onto h moves) → Notes seen h → Blames seen h → Open seen ks → Holds book seen
    → At book (connections_through (acts_by moves) ks) (onto h moves) (along seen (line_by moves))
answer-at book [] h ks seen answer r n b o k = own-at book [] h ks seen answer r n o k
answer-at book (Blamed c error ∷ moves) h ks seen answer r n b o k =
    own-at book moves (Blamed c error ▷ h) ks (Does (Say c (Xsmp (XsmpError error))) ∷ seen) answer r (b c error) o (holds-blamed book c error seen k)
answer-at book (m ∷ moves) h ks seen answer r n b o k = own-at book (m ∷ moves) h ks seen answer r n o k

-- the session was told
pub told-at : (book : Book) (event : SessionEvent) (ks : List Connection) (h : History) (seen : List Seen) → Reached book h → Notes seen (Outside event ▷ h) → Blames seen (Outside event ▷ h) → Open seen ks → Holds book seen
    → At book (connections_through (acts_since h (taken event h)) ks) (taken event h) (along seen (map Does (acts_for_all (acts_since h (taken event h)))))
told-at book event ks h seen r n b o k =
    let a = all-answers event h in
    let e : acts_since h (taken event h) ≡ acts_by a.moves =
    since-is h (taken event h) (acts_by a.moves) (ap (λ (g : History). all_acts g) a.is ∙ acts-onto a.moves (Outside event ▷ h) ∙ ap (λ (xs : List SessionAct). xs ++ acts_by a.moves) (append-nil (all_acts h))) in
    let at : At book (connections_through (acts_by a.moves) ks) (onto (Outside event ▷ h) a.moves) (along seen (line_by a.moves)) =
    answer-at book a.moves (Outside event ▷ h) ks seen a.answer (subst (λ (g : History). Reached book g) a.is (reached-more book event h r)) n b o k in
    subst (λ (acts : List SessionAct). At book (connections_through acts ks) (taken event h) (along seen (map Does (acts_for_all acts)))) (sym e)
    (subst (λ (g : History). At book (connections_through (acts_by a.moves) ks) g (along seen (line_by a.moves))) (sym a.is) at)

-- A book is opened

-- nobody was live, and nobody is
after-none : (act : SessionAct) → connections_after act [] ≡ []
after-none (Ends c) = refl
after-none (ShutsConn c) = refl
after-none act = refl

through-none : (acts : List SessionAct) → connections_through acts [] ≡ []
through-none [] = refl
through-none (act ∷ acts) = ap (λ (ks : List Connection). connections_through acts ks) (after-none act) ∙ through-none acts

pub opened-at : (patience : ℕ) (book : Book) → At book [] (opened (waits_for patience book)) (along [] (map Does (opening_acts book)))
opened-at patience book =
    let moves : List Move = opening_moves book in
    let start : Opening = waits_for patience book in
    let reached : Reached book (opened start) = record { patience = patience; events = []; is = refl } in
    let at : At book (connections_through (acts_by moves) []) (opened start) (along [] (line_by moves)) =
    own-at book moves (Opened start) [] [] (own-opening book) reached refl (λ q. refl) (kept-there book (Opened start) [] (seen-front book moves (Opened start) reached) refl) in
    subst (λ (ks : List Connection). At book ks (opened start) (along [] (line_by moves))) (through-none (acts_by moves)) at
