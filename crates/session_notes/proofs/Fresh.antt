-- An ID that is given anew was never given before: it is the next of its run, and all that are known are older.
use Rattle.std.proofs.Common.{◌≡◌, refl, ℕ, suc, ◌+◌, ◌<◌, Bool, true, false, cond, List, [], ◌∷◌, sym, ap, subst, ◌∙◌, arith, inl, inr}
use Rattle.std.specs.Prelude.{None, Some, is_some, find, ◌⊎◌}
use Rattle.std.specs.List.{AllByRecursion, Contains}
use Rattle.std.specs.Cmp.Lexicographic.{same_text}
use Rattle.xsmp_messages.specs.declared.message.XsmpMessage.{XsmpMessage}
use Rattle.xsmp_messages.specs.declared.message.XsmpMessage.TheVariants.{RegisterClientReply}
use Rattle.ice_values.specs.Fields.{ErrorFields}
use Rattle.checkpoint_records.specs.declared.records.Book.{Book}
use Rattle.checkpoint_records.specs.declared.records.Entry.{Entry}
use Rattle.checkpoint_records.specs.declared.records.Named.{Named}
use Rattle.checkpoint_records.specs.Books.{all_entries, entries_in}
use Rattle.checkpoint_records.specs.Rules.{IsEntry, client_id}
use Rattle.checkpoint_records.proofs.DistinctLaws.{all_behind, all_front}
use Rattle.session_model.specs.declared.events.SessionEvent.{SessionEvent}
use Rattle.session_model.specs.declared.events.SessionEvent.TheVariants.{Left, Said}
use Rattle.session_model.specs.Tables.{is_kept_id, is_of}
use Rattle.session_model.specs.Books.{raised}
use Rattle.session_model.specs.Moves.{Move, Outside, Gave, Blamed, Committed, History, Opened, ◌▷◌, Opening}
use Rattle.session_model.specs.Readings as of
use Rattle.session_model.proofs.Names.{IsBefore, Numbered, before-earlier, before-own, numbered-step}
use Rattle.session_model.proofs.Pending.{all-append, all-more}
use Rattle.session_model.proofs.Ruled.{denied}
use Rattle.session_notes.specs.Notes.{Note, Given}
use Rattle.session_notes.specs.Keeping.{book_in, given_ids, is_newcomer, new_ids}
use Rattle.session_notes.specs.Laws.{IsFresh, IsOpenable}
use Rattle.session_notes.proofs.Seen.{noted_of}
use Rattle.session_notes.proofs.Kept.{IdTold, IsGiven, Saves, numbered, opened_of, run_epoch}
use Rattle.session_notes.proofs.Suits.{Suits}
use Rattle.session_notes.proofs.Tests.{contains-all}

-- IDs that are known are no later ones

-- Each ID that a client has, that the book has or that was given is none of the run with a later number, those of the other sessions
-- are none of the run, and the new IDs are all up to that number.
pub record Aged (h : History) (n : List Note) : Type 0 where
  pub before : Numbered (run_epoch h) h
  pub others : AllByRecursion (λ (entry : Entry). IsBefore (run_epoch h) 0 entry.id) (entries_in (of.book h).others)
  pub given : AllByRecursion (IsBefore (run_epoch h) (of.given h)) (given_ids n)
  pub new : new_ids n ≡ numbered (run_epoch h) (of.given h)

-- the entry of a recorded ID is no later one
recorded-before : (epoch g : ℕ) (id : List ℕ) (entries : List Entry) → AllByRecursion (λ (entry : Entry). IsBefore epoch g entry.id) entries → is_some (find (is_of id) entries) ≡ true → IsBefore epoch g id
recorded-before epoch g id [] a e = absurd (grind arith)
recorded-before epoch g id (entry ∷ entries) a e = found-at (is_of id entry) refl e (recorded-before epoch g id entries a.1) where
  found-at : (b : Bool) → is_of id entry ≡ b → is_some (cond b (Some entry) (find (is_of id) entries)) ≡ true → (is_some (find (is_of id) entries) ≡ true → IsBefore epoch g id) → IsBefore epoch g id
  found-at true s k f = subst (λ (x : List ℕ). IsBefore epoch g x) (sym (same_text id entry.id (sym s))) a.0
  found-at false s k f = f k

-- what is before the first is before the next
before-any : (epoch g : ℕ) (id : List ℕ) → IsBefore epoch 0 id → IsBefore epoch g id
before-any epoch g id b k lt fits e = b k (omega (arith, lt)) fits e

all-before : (h : History) (n : List Note) → Aged h n → AllByRecursion (λ (entry : Entry). IsBefore (run_epoch h) (of.given h) entry.id) (all_entries (of.book h))
all-before h n o =
    all-append (λ (entry : Entry). IsBefore (run_epoch h) (of.given h) entry.id) (of.book h).entries (entries_in (of.book h).others) o.before.entries
    (all-more (λ (entry : Entry). IsBefore (run_epoch h) 0 entry.id) (λ (entry : Entry). IsBefore (run_epoch h) (of.given h) entry.id) (λ entry b. before-any (run_epoch h) (of.given h) entry.id b) (entries_in (of.book h).others) o.others)

-- the book has no entry of the next new ID
next-unrecorded : (h : History) (n : List Note) (id : List ℕ) → Aged h n → id ≡ client_id (run_epoch h) (of.given h + 1) → of.given h + 1 < 4294967296 → is_kept_id id (of.book h) ≡ false
next-unrecorded h n id o s l = denied (is_kept_id id (of.book h)) (λ e. recorded-before (run_epoch h) (of.given h) id (all_entries (of.book h)) (all-before h n o) e (of.given h + 1) (omega arith) l s)

-- An ID is given

-- what was before the last is before the next
later : (epoch g : ℕ) (id : List ℕ) → IsBefore epoch g id → IsBefore epoch (g + 1) id
later epoch g id b k lt fits e = b k (omega (arith, lt)) fits e

one-more : (g : ℕ) → g + 1 ≡ suc g
one-more g = omega arith

-- a reply, to a newcomer or not
record Replied (epoch g : ℕ) (w : Bool) (id : List ℕ) (n : List Note) : Type 0 where
  before : IsBefore epoch (cond w (g + 1) g) id
  given : AllByRecursion (IsBefore epoch (cond w (g + 1) g)) (given_ids n)
  new : cond w (id ∷ new_ids n) (new_ids n) ≡ numbered epoch (cond w (g + 1) g)

replied-is : (w : Bool) (epoch g : ℕ) (id : List ℕ) (n : List Note) → (w ≡ true → (id ≡ client_id epoch (g + 1)) × (g + 1 < 4294967296)) → (w ≡ false → IsBefore epoch g id)
    → AllByRecursion (IsBefore epoch g) (given_ids n) → new_ids n ≡ numbered epoch g → Replied epoch g w id n
replied-is true epoch g id n f b a e = record {
  before = subst (λ (x : List ℕ). IsBefore epoch (g + 1) x) (sym (f refl).0) (before-own epoch (g + 1) (f refl).1);
  given = all-more (IsBefore epoch g) (IsBefore epoch (g + 1)) (later epoch g) (given_ids n) a;
  new = ap (λ (x : List ℕ). x ∷ new_ids n) (f refl).0 ∙ ap (λ (xs : List (List ℕ)). client_id epoch (g + 1) ∷ xs) e
      ∙ ap (λ (x : ℕ). client_id epoch x ∷ numbered epoch g) (one-more g) ∙ sym (ap (λ (x : ℕ). numbered epoch x) (one-more g));
}
replied-is false epoch g id n f b a e = record { before = b refl; given = a; new = e }

aged-reply : (d : ℕ) (id : List ℕ) (h : History) (n : List Note) → IsGiven d id h n → of.asks_anew d h ≡ is_newcomer d n → (of.book h).epoch ≡ run_epoch h → Aged h n → Aged (Gave d (RegisterClientReply id) ▷ h) (Given d (RegisterClientReply id) ∷ n)
aged-reply d id h n g s e o =
    let r : Replied (run_epoch h) (of.given h) (of.asks_anew d h) id n =
    replied-is (of.asks_anew d h) (run_epoch h) (of.given h) id n (λ k. ((g.anew (sym s ∙ k)).0 ∙ ap (λ (x : ℕ). client_id x (of.given h + 1)) e, (g.anew (sym s ∙ k)).1))
    (λ k. recorded-before (run_epoch h) (of.given h) id (of.book h).entries o.before.entries (g.again (sym s ∙ k))) o.given o.new in
    record {
      before = numbered-step (run_epoch h) (Gave d (RegisterClientReply id)) h r.before o.before;
      others = o.others;
      given = (r.before, r.given);
      new = ap (λ (b : Bool). cond b (id ∷ new_ids n) (new_ids n)) (sym s) ∙ r.new;
    }

aged-given : (d : ℕ) (m : XsmpMessage) (h : History) → Suits (Gave d m) h → (of.book h).epoch ≡ run_epoch h → Aged h (noted_of h) → Aged (Gave d m ▷ h) (noted_of (Gave d m ▷ h))
aged-given d (RegisterClientReply id) h s e o = aged-reply d id h (noted_of h) s.1 s.2 e o
aged-given d m h s e o = record { before = numbered-step (run_epoch h) (Gave d m) h tt o.before; others = o.others; given = o.given; new = o.new }

aged-heard : (event : SessionEvent) (h : History) → Aged h (noted_of h) → Aged (Outside event ▷ h) (noted_of (Outside event ▷ h))
aged-heard (Left d) h o = record { before = numbered-step (run_epoch h) (Outside (Left d)) h tt o.before; others = o.others; given = o.given; new = o.new }
aged-heard event h o = record { before = numbered-step (run_epoch h) (Outside event) h tt o.before; others = o.others; given = o.given; new = o.new }

-- the entries of a book that is written stood in the book before, or are of clients that have their IDs
entries-before : (h : History) (entries : List Entry) → Numbered (run_epoch h) h → AllByRecursion (λ entry. Contains (of.book h).entries entry ⊎ Saves entry h) entries → AllByRecursion (λ (entry : Entry). IsBefore (run_epoch h) (of.given h) entry.id) entries
entries-before h entries n a = all-more (λ entry. Contains (of.book h).entries entry ⊎ Saves entry h) (λ (entry : Entry). IsBefore (run_epoch h) (of.given h) entry.id) entry-at entries a where
  entry-at : (entry : Entry) → Contains (of.book h).entries entry ⊎ Saves entry h → IsBefore (run_epoch h) (of.given h) entry.id
  entry-at entry (inl s) = contains-all (λ (x : Entry). IsBefore (run_epoch h) (of.given h) x.id) entry (of.book h).entries s n.entries
  entry-at entry (inr s) = n.held s.conn entry.id s.id

pub aged-step : (m : Move) (h : History) → Suits m h → (of.book h).epoch ≡ run_epoch h → Aged h (noted_of h) → Aged (m ▷ h) (noted_of (m ▷ h))
aged-step (Outside event) h s e o = aged-heard event h o
aged-step (Gave d m) h s e o = aged-given d m h s e o
aged-step (Blamed d error) h s e o = absurd s
aged-step (Committed written) h s e o = record { before = numbered-step (run_epoch h) (Committed written) h (entries-before h written.entries o.before s.entries) o.before; others = subst (λ (others : List Named). AllByRecursion (λ (entry : Entry). IsBefore (run_epoch h) 0 entry.id) (entries_in others)) (sym s.others) o.others; given = o.given; new = o.new }
aged-step m h s e o = record { before = numbered-step (run_epoch h) m h tt o.before; others = o.others; given = o.given; new = o.new }

-- a message that is refused changes none of it
pub aged-refused : (c : ℕ) (m : XsmpMessage) (sequence : ℕ) (frame : List ℕ) (error : ErrorFields) (h : History) (n : List Note) → Aged h n → Aged (Blamed c error ▷ Outside (Said c m sequence frame) ▷ h) n
aged-refused c m sequence frame error h n o = record { before = record { held = o.before.held; entries = o.before.entries }; others = o.others; given = o.given; new = o.new }

-- A book is opened

no-id : (id : List ℕ) → None ≡ Some id → ⊥
no-id id e = grind arith

earlier-before : (opening : Opening) → IsOpenable opening.book → (entry : Entry) → IsEntry opening.book.epoch entry → IsBefore (opening.book.epoch + 1) 0 entry.id
earlier-before opening o entry i = before-earlier opening.book.epoch entry.id (omega (arith, o.room)) i.id

earlier-all : (opening : Opening) → IsOpenable opening.book → (entries : List Entry) → AllByRecursion (IsEntry opening.book.epoch) entries → AllByRecursion (λ (entry : Entry). IsBefore (opening.book.epoch + 1) 0 entry.id) entries
earlier-all opening o entries a = all-more (IsEntry opening.book.epoch) (λ (entry : Entry). IsBefore (opening.book.epoch + 1) 0 entry.id) (earlier-before opening o) entries a

pub aged-opening : (opening : Opening) → IsOpenable opening.book → Aged (Committed (raised opening.book) ▷ Opened opening) (noted_of (Committed (raised opening.book) ▷ Opened opening))
aged-opening opening o = record {
  before = record {
    held = λ c id e. absurd (no-id id e);
    entries = earlier-all opening o opening.book.entries (all_front (IsEntry opening.book.epoch) opening.book.entries (entries_in opening.book.others) o.rules.entries);
  };
  others = earlier-all opening o (entries_in opening.book.others) (all_behind (IsEntry opening.book.epoch) opening.book.entries (entries_in opening.book.others) o.rules.entries);
  given = tt;
  new = refl;
}

-- The next new ID is nobody's

pub next-fresh : (c : ℕ) (id : List ℕ) (h : History) (n : List Note) → IsGiven c id h n → (of.book h).epoch ≡ run_epoch h → book_in (opened_of h) n ≡ of.book h → IdTold h n → Aged h n → is_newcomer c n ≡ true → IsFresh (opened_of h) n id
next-fresh c id h n g e b i o w =
    let s : id ≡ client_id (run_epoch h) (of.given h + 1) = (g.anew w).0 ∙ ap (λ (x : ℕ). client_id x (of.given h + 1)) e in
    record {
      unrecorded = ap (λ (book : Book). is_kept_id id book) b ∙ next-unrecorded h n id o s (g.anew w).1;
      free = λ d k. o.before.held d id (sym (i d) ∙ k) (of.given h + 1) (omega arith) (g.anew w).1 s;
      unused = λ has. contains-all (IsBefore (run_epoch h) (of.given h)) id (given_ids n) has o.given (of.given h + 1) (omega arith) (g.anew w).1 s;
    }
