-- The files that a crash could leave keep up with the new IDs.
use Rattle.std.proofs.Common.{◌≡◌, refl, ℕ, Bool, true, false, cond, ◌&&◌, ◌||◌, ◌==◌, ◌+◌, List, [], ◌∷◌, ◌++◌, Result, Ok, Err, sym, ap, subst, ◌∙◌, drop, slice_index, arith}
use Rattle.std.specs.Prelude.{take, ◌≢◌}
use Rattle.std.specs.List.{AllByRecursion}
use Rattle.sm_world.specs.Effects.{Deed, deeds, heard}
use Rattle.owned_lists.specs.declared.commands.Command.{Command}
use Rattle.sm_world.specs.declared.events.Event.{Event}
use Rattle.sm_world.specs.declared.events.Event.TheVariants.{Gone as HasGone, Operator}
use Rattle.ice_values.specs.declared.refusals.DecodeRefusal.{DecodeRefusal}
use Rattle.checkpoint_records.specs.declared.records.Book.{Book}
use Rattle.checkpoint_records.specs.Books.{choose, names}
use Rattle.checkpoint_slots.proofs.Once.{recovers-once}
use Rattle.xsmp_messages.specs.Reading.{decode_at}
use Rattle.xsmp_messages.specs.declared.message.XsmpMessage.{XsmpMessage}
use Rattle.xsmp_messages.specs.declared.message.XsmpMessage.TheVariants.{Error as XsmpError}
use Rattle.session_engine.specs.declared.config.Config.{Config}
use Rattle.session_engine.specs.Acts.{book_after, book_with, deeds_in}
use Rattle.session_engine.specs.Machine.{script_of}
use Rattle.session_engine.specs.Saved.{IsSaved}
use Rattle.ice_framing.specs.Parts.{Part, TooMuch, Whole}
use Rattle.session_engine.specs.declared.acts.Act.{Act}
use Rattle.session_engine.specs.declared.acts.Act.TheVariants.{Commit, Finish, Print, Say, Shut, Start}
use Rattle.protocol_messages.specs.declared.message.Message.{Message}
use Rattle.protocol_messages.specs.declared.message.Message.TheVariants.{Ice, Xsmp}
use Rattle.session_notes.specs.Keeping.{IsOfRun, book_in, is_discarded, new_ids}
use Rattle.session_notes.specs.Kept.{kept_in}
use Rattle.session_notes.specs.Notes.{Gone, Note}
use Rattle.session_notes.proofs.Standing.{Holding, holds-gone, holds-heard, holds-ordered}
use Rattle.session_lines.specs.Files.{HasSaved, EveryFileIsSafe, FilesForgetDiscards, FilesKeepOtherSessions, FilesKeepUp, FilesKeepWhatWasSaved, OtherSessionsBeginAlike}
use Rattle.session_lines.specs.Lines.{Comes, Does, Seen, Took, act_of, acts_in, given_in, heard_as, heard_in, is_error, is_open, line, noted, notes}
use Rattle.session_lines.proofs.Besides.{has-alike}
use Rattle.session_lines.proofs.Fronts.{laws-hold, turned-is}
use Rattle.session_lines.specs.Runs.{IsDone, IsNextDeed}
use Rattle.session_lines.proofs.Passing.{deeds_seen, done-is, left-same, none-done, seen-more}
use Rattle.session_lines.proofs.Points.{along, discarded-before}
use Rattle.session_lines.proofs.Script.{acts-line}
use Rattle.checkpoint_records.specs.Rules.{KeepsRules}
use Rattle.session_engine.specs.Standing.{as_stored}
use Rattle.session_engine.proofs.Neighbours.{beside_after}
use Rattle.session_engine.proofs.Standing.{beside_chosen, stored_epoch}

-- Notes that change neither the book that stands nor the new IDs

abbrev Same : Book → List Note → List Note → Type 0
Same book n o = (book_in book n ≡ book_in book o) × (new_ids n ≡ new_ids o)

same-cond : (book : Book) (b : Bool) (n o p : List Note) → Same book n p → Same book o p → Same book (cond b n o) p
same-cond book true n o p s t = s
same-cond book false n o p s t = t

same-read : (book : Book) (c : ℕ) (read : Result XsmpMessage DecodeRefusal) (n : List Note) → Same book (heard_as c read ++ n) n
same-read book c (Ok m) n = (refl, refl)
same-read book c (Err refusal) n = (refl, refl)

same-either : (book : Book) (b : Bool) (c : ℕ) (read : Result XsmpMessage DecodeRefusal) (n : List Note) → Same book (cond b [] (heard_as c read) ++ n) n
same-either book true c read n = (refl, refl)
same-either book false c read n = same-read book c read n

same-heard : (book : Book) (c : ℕ) (part : Part) (n : List Note) → Same book (heard_in c part ++ n) n
same-heard book c (Whole frame) n = same-either book (slice_index frame.bytes 0 == 0 || slice_index frame.bytes 1 == 0) c (decode_at frame.endian frame.bytes) n
same-heard book c (TooMuch header) n = (refl, refl)

same-gone : (book : Book) (c : ℕ) (seen : List Seen) → Same book (noted (Comes (HasGone c) ∷ seen)) (noted seen)
same-gone book c seen = same-cond book (is_open c seen) (Gone c ∷ noted seen) (noted seen) (noted seen) (refl, refl) (refl, refl)

-- The book that stands is that of the last commit

book-given : (book : Book) (c : ℕ) (message : Message) (n : List Note) → book_in book (given_in c message ++ n) ≡ book_in book n
book-given book c (Ice message) n = refl
book-given book c (Xsmp (XsmpError error)) n = refl
book-given book c (Xsmp message) n = refl

book-cond : (book : Book) (b : Bool) (n o p : List Note) → book_in book n ≡ book_in book p → book_in book o ≡ book_in book p → book_in book (cond b n o) ≡ book_in book p
book-cond book true n o p s t = s
book-cond book false n o p s t = t

book-said : (book : Book) (c : ℕ) (message : Message) (seen : List Seen) → book_in book (noted (Does (Say c message) ∷ seen)) ≡ book_in book (noted seen)
book-said book c message [] = book-given book c message []
book-said book c message (Took d part ∷ seen) =
    let heard : List Note = heard_in d part ++ noted seen in
    book-cond book (is_error message && d == c) (noted seen) (given_in c message ++ heard) heard (sym (same-heard book d part (noted seen)).0) (book-given book c message heard)
book-said book c message (entry ∷ seen) = book-given book c message (noted (entry ∷ seen))

book-one : (book : Book) (entry : Seen) (seen : List Seen) → book_in book (noted (entry ∷ seen)) ≡ book_after (book_in book (noted seen)) (act_of entry)
book-one book (Comes (HasGone c)) seen = (same-gone book c seen).0
book-one book (Comes event) seen = refl
book-one book (Took c part) seen = (same-heard book c part (noted seen)).0
book-one book (Does (Say c message)) seen = book-said book c message seen
book-one book (Does (Shut c)) seen = refl
book-one book (Does (Start reason command)) seen = refl
book-one book (Does (Commit written)) seen = refl
book-one book (Does (Print text)) seen = refl
book-one book (Does Finish) seen = refl

after-append : (book : Book) (acts more : List Act) → book_after book (acts ++ more) ≡ book_after (book_after book acts) more
after-append book [] more = refl
after-append book (act ∷ acts) more = after-append (book_with book act) acts more

book-along : (book : Book) (more seen : List Seen) → book_in book (noted (along seen more)) ≡ book_after (book_in book (noted seen)) (acts_in more)
book-along book [] seen = refl
book-along book (entry ∷ more) seen =
    book-along book more (entry ∷ seen) ∙ ap (λ (b : Book). book_after b (acts_in more)) (book-one book entry seen) ∙ sym (after-append (book_in book (noted seen)) (act_of entry) (acts_in more))

-- Without a deed no ID is new

none-later : (xs ys : List Deed) → xs ++ ys ≡ [] → ys ≡ []
none-later [] ys e = e
none-later (x ∷ xs) ys e = absurd (grind arith)

no-deed : (deed : Deed) (ds : List Deed) → deed ∷ ds ≡ [] → ⊥
no-deed deed ds e = grind arith

ids-one : (book : Book) (entry : Seen) (seen : List Seen) → deeds_in (act_of entry) ≡ [] → new_ids (noted (entry ∷ seen)) ≡ new_ids (noted seen)
ids-one book (Comes (HasGone c)) seen e = (same-gone book c seen).1
ids-one book (Comes event) seen e = refl
ids-one book (Took c part) seen e = (same-heard book c part (noted seen)).1
ids-one book (Does (Say c message)) seen e = absurd (no-deed _ _ e)
ids-one book (Does act) seen e = refl

ids-along : (book : Book) (more seen : List Seen) → deeds_seen more ≡ [] → new_ids (noted (along seen more)) ≡ new_ids (noted seen)
ids-along book [] seen e = refl
ids-along book (entry ∷ more) seen e =
    let k : deeds_in (act_of entry) ++ deeds_seen more ≡ [] = sym (seen-more entry more) ∙ e in
    ids-along book more (entry ∷ seen) (none-later (deeds_in (act_of entry)) (deeds_seen more) k) ∙ ids-one book entry seen (sym (none-done (deeds_in (act_of entry)) (deeds_seen more) k))

first-seen : (x y : Seen) (xs ys : List Seen) → x ∷ xs ≡ y ∷ ys → x ≡ y
first-seen x y xs ys e = cc

-- two fronts of a line with the same deeds have the same new IDs
same-ids : (book : Book) (xs ys vs ws seen : List Seen) → xs ++ vs ≡ ys ++ ws → deeds_seen xs ≡ deeds_seen ys → new_ids (noted (along seen xs)) ≡ new_ids (noted (along seen ys))
same-ids book [] ys vs ws seen e d = sym (ids-along book ys seen (sym d))
same-ids book (x ∷ xs) [] vs ws seen e d = ids-along book (x ∷ xs) seen d
same-ids book (x ∷ xs) (y ∷ ys) vs ws seen e d =
    let s : x ≡ y = first-seen x y (xs ++ vs) (ys ++ ws) e in
    let t : deeds_seen xs ≡ deeds_seen ys = left-same (deeds_in (act_of x)) (deeds_seen xs) (deeds_seen ys) (sym (seen-more x xs) ∙ d ∙ seen-more y ys ∙ ap (λ (z : Seen). deeds_in (act_of z) ++ deeds_seen ys) (sym s)) in
    same-ids book xs ys vs ws (x ∷ seen) (ap (λ (zs : List Seen). drop 1 zs) e) t ∙ ap (λ (z : Seen). new_ids (noted (along (z ∷ seen) ys))) s

-- Without a deed no state is discarded

discarded-cond : (command : Command) (b : Bool) (n o p : List Note) → (is_discarded command n ≡ true → is_discarded command p ≡ true) → (is_discarded command o ≡ true → is_discarded command p ≡ true)
    → is_discarded command (cond b n o) ≡ true → is_discarded command p ≡ true
discarded-cond command true n o p s t e = s e
discarded-cond command false n o p s t e = t e

discarded-read : (command : Command) (c : ℕ) (read : Result XsmpMessage DecodeRefusal) (n : List Note) → is_discarded command (heard_as c read ++ n) ≡ true → is_discarded command n ≡ true
discarded-read command c (Ok m) n e = discarded-before command c m n e
discarded-read command c (Err refusal) n e = e

discarded-either : (command : Command) (b : Bool) (c : ℕ) (read : Result XsmpMessage DecodeRefusal) (n : List Note) → is_discarded command (cond b [] (heard_as c read) ++ n) ≡ true → is_discarded command n ≡ true
discarded-either command true c read n e = e
discarded-either command false c read n e = discarded-read command c read n e

discarded-heard : (command : Command) (c : ℕ) (part : Part) (n : List Note) → is_discarded command (heard_in c part ++ n) ≡ true → is_discarded command n ≡ true
discarded-heard command c (Whole frame) n e = discarded-either command (slice_index frame.bytes 0 == 0 || slice_index frame.bytes 1 == 0) c (decode_at frame.endian frame.bytes) n e
discarded-heard command c (TooMuch header) n e = e

discarded-one : (command : Command) (entry : Seen) (seen : List Seen) → deeds_in (act_of entry) ≡ [] → is_discarded command (noted (entry ∷ seen)) ≡ true → is_discarded command (noted seen) ≡ true
discarded-one command (Comes (HasGone c)) seen d e = discarded-cond command (is_open c seen) (Gone c ∷ noted seen) (noted seen) (noted seen) (λ k. k) (λ k. k) e
discarded-one command (Comes event) seen d e = e
discarded-one command (Took c part) seen d e = discarded-heard command c part (noted seen) e
discarded-one command (Does (Say c message)) seen d e = absurd (no-deed _ _ d)
discarded-one command (Does (Start reason other)) seen d e = absurd (no-deed _ _ d)
discarded-one command (Does act) seen d e = e

discarded-along : (command : Command) (more seen : List Seen) → deeds_seen more ≡ [] → is_discarded command (noted (along seen more)) ≡ true → is_discarded command (noted seen) ≡ true
discarded-along command [] seen d e = e
discarded-along command (entry ∷ more) seen d e =
    let k : deeds_in (act_of entry) ++ deeds_seen more ≡ [] = sym (seen-more entry more) ∙ d in
    discarded-one command entry seen (sym (none-done (deeds_in (act_of entry)) (deeds_seen more) k)) (discarded-along command more (entry ∷ seen) (none-later (deeds_in (act_of entry)) (deeds_seen more) k) e)

-- the first of what follows is a deed
next-deed : (entry : Seen) (later whole : List Seen) → whole ≡ entry ∷ later → IsNextDeed whole → (deed : Deed) × (deeds_in (act_of entry) ≡ deed ∷ [])
next-deed entry later whole e next = subst IsNextDeed e next

-- Of two fronts of a line with the same deeds the one that goes up to the next deed is the longer one: what is discarded there is so in
-- the other.
discarded-back : (command : Command) (xs ys vs ws seen : List Seen) → xs ++ vs ≡ ys ++ ws → deeds_seen xs ≡ deeds_seen ys → IsNextDeed ws
    → is_discarded command (noted (along seen ys)) ≡ true → is_discarded command (noted (along seen xs)) ≡ true
discarded-back command [] ys vs ws seen e d next is = discarded-along command ys seen (sym d) is
discarded-back command (x ∷ xs) [] vs ws seen e d next is =
    let first : (deed : Deed) × (deeds_in (act_of x) ≡ deed ∷ []) = next-deed x (xs ++ vs) ws (sym e) next in
    absurd (no-deed first.0 (deeds_seen xs) (ap (λ (ds : List Deed). ds ++ deeds_seen xs) (sym first.1) ∙ sym (seen-more x xs) ∙ d))
discarded-back command (x ∷ xs) (y ∷ ys) vs ws seen e d next is =
    let s : x ≡ y = first-seen x y (xs ++ vs) (ys ++ ws) e in
    let t : deeds_seen xs ≡ deeds_seen ys = left-same (deeds_in (act_of x)) (deeds_seen xs) (deeds_seen ys) (sym (seen-more x xs) ∙ d ∙ seen-more y ys ∙ ap (λ (z : Seen). deeds_in (act_of z) ++ deeds_seen ys) (sym s)) in
    discarded-back command xs ys vs ws (x ∷ seen) (ap (λ (zs : List Seen). drop 1 zs) e) t next (subst (λ (z : Seen). is_discarded command (noted (along (z ∷ seen) ys)) ≡ true) (sym s) is)

-- Without a deed nothing more is kept than stands

kept-cond : (book at : Book) (id : List ℕ) (b : Bool) (n o : List Note) → Holding at id (kept_in book id n) → Holding at id (kept_in book id o) → Holding at id (kept_in book id (cond b n o))
kept-cond book at id true n o h k = h
kept-cond book at id false n o h k = k

kept-read : (book at : Book) (id : List ℕ) (c : ℕ) (read : Result XsmpMessage DecodeRefusal) (n : List Note) → Holding at id (kept_in book id n) → Holding at id (kept_in book id (heard_as c read ++ n))
kept-read book at id c (Ok m) n h = holds-heard book at c m n id h
kept-read book at id c (Err refusal) n h = h

kept-either : (book at : Book) (id : List ℕ) (b : Bool) (c : ℕ) (read : Result XsmpMessage DecodeRefusal) (n : List Note) → Holding at id (kept_in book id n) → Holding at id (kept_in book id (cond b [] (heard_as c read) ++ n))
kept-either book at id true c read n h = h
kept-either book at id false c read n h = kept-read book at id c read n h

kept-heard : (book at : Book) (id : List ℕ) (c : ℕ) (part : Part) (n : List Note) → Holding at id (kept_in book id n) → Holding at id (kept_in book id (heard_in c part ++ n))
kept-heard book at id c (Whole frame) n h = kept-either book at id (slice_index frame.bytes 0 == 0 || slice_index frame.bytes 1 == 0) c (decode_at frame.endian frame.bytes) n h
kept-heard book at id c (TooMuch header) n h = h

kept-one : (book at : Book) (id : List ℕ) (entry : Seen) (seen : List Seen) → deeds_in (act_of entry) ≡ [] → Holding at id (kept_in book id (noted seen)) → Holding at id (kept_in book id (noted (entry ∷ seen)))
kept-one book at id (Comes (HasGone c)) seen d h = kept-cond book at id (is_open c seen) (Gone c ∷ noted seen) (noted seen) (holds-gone book at c (noted seen) id h) h
kept-one book at id (Comes (Operator order)) seen d h = holds-ordered book at order (noted seen) id h
kept-one book at id (Comes event) seen d h = h
kept-one book at id (Took c part) seen d h = kept-heard book at id c part (noted seen) h
kept-one book at id (Does (Say c message)) seen d h = absurd (no-deed _ _ d)
kept-one book at id (Does (Shut c)) seen d h = absurd (no-deed _ _ d)
kept-one book at id (Does act) seen d h = h

kept-along : (book at : Book) (id : List ℕ) (more seen : List Seen) → deeds_seen more ≡ [] → Holding at id (kept_in book id (noted seen)) → Holding at id (kept_in book id (noted (along seen more)))
kept-along book at id [] seen d h = h
kept-along book at id (entry ∷ more) seen d h =
    let k : deeds_in (act_of entry) ++ deeds_seen more ≡ [] = sym (seen-more entry more) ∙ d in
    kept-along book at id more (entry ∷ seen) (none-later (deeds_in (act_of entry)) (deeds_seen more) k) (kept-one book at id entry seen (sym (none-done (deeds_in (act_of entry)) (deeds_seen more) k)) h)

-- Of two fronts of a line with the same deeds the one that goes up to the next deed is the longer one: what is kept there stands where
-- what is kept in the other does.
kept-on : (book at : Book) (id : List ℕ) (xs ys vs ws seen : List Seen) → xs ++ vs ≡ ys ++ ws → deeds_seen xs ≡ deeds_seen ys → IsNextDeed ws
    → Holding at id (kept_in book id (noted (along seen xs))) → Holding at id (kept_in book id (noted (along seen ys)))
kept-on book at id [] ys vs ws seen e d next h = kept-along book at id ys seen (sym d) h
kept-on book at id (x ∷ xs) [] vs ws seen e d next h =
    let first : (deed : Deed) × (deeds_in (act_of x) ≡ deed ∷ []) = next-deed x (xs ++ vs) ws (sym e) next in
    absurd (no-deed first.0 (deeds_seen xs) (ap (λ (ds : List Deed). ds ++ deeds_seen xs) (sym first.1) ∙ sym (seen-more x xs) ∙ d))
kept-on book at id (x ∷ xs) (y ∷ ys) vs ws seen e d next h =
    let s : x ≡ y = first-seen x y (xs ++ vs) (ys ++ ws) e in
    let t : deeds_seen xs ≡ deeds_seen ys = left-same (deeds_in (act_of x)) (deeds_seen xs) (deeds_seen ys) (sym (seen-more x xs) ∙ d ∙ seen-more y ys ∙ ap (λ (z : Seen). deeds_in (act_of z) ++ deeds_seen ys) (sym s)) in
    subst (λ (z : Seen). Holding at id (kept_in book id (noted (along (z ∷ seen) ys)))) s (kept-on book at id xs ys vs ws (x ∷ seen) (ap (λ (zs : List Seen). drop 1 zs) e) t next h)

kept-turned : (book at : Book) (id : List ℕ) (xs ys vs ws : List Seen) → xs ++ vs ≡ ys ++ ws → deeds_seen xs ≡ deeds_seen ys → IsNextDeed ws → Holding at id (kept_in book id (notes xs)) → Holding at id (kept_in book id (notes ys))
kept-turned book at id xs ys vs ws e d next h =
    subst (λ (zs : List Seen). Holding at id (kept_in book id (noted zs))) (turned-is ys)
    (kept-on book at id xs ys vs ws [] e d next (subst (λ (zs : List Seen). Holding at id (kept_in book id (noted zs))) (sym (turned-is xs)) h))

-- The front that was saved

-- a front of what is seen has exactly these acts
record ActsAt (seen : List Seen) (acts : List Act) : Type 0 where
  front : List Seen
  later : List Seen
  parts : front ++ later ≡ seen
  same : acts_in front ≡ acts

first-act : (a b : Act) (acts more : List Act) → a ∷ acts ≡ b ∷ more → a ≡ b
first-act a b acts more e = cc

acts-more : (entry : Seen) (seen : List Seen) (acts : List Act) → ActsAt seen acts → ActsAt (entry ∷ seen) (act_of entry ++ acts)
acts-more entry seen acts at = record {
  front = entry ∷ at.front;
  later = at.later;
  parts = ap (λ (xs : List Seen). entry ∷ xs) at.parts;
  same = ap (λ (xs : List Act). act_of entry ++ xs) at.same;
}

acts-at : (seen : List Seen) (acts rest : List Act) → acts ++ rest ≡ acts_in seen → ActsAt seen acts
acts-at seen [] rest e = record { front = []; later = seen; parts = refl; same = refl }
acts-at [] (act ∷ acts) rest e = absurd (grind arith)
acts-at (Comes event ∷ seen) (act ∷ acts) rest e = acts-more (Comes event) seen (act ∷ acts) (acts-at seen (act ∷ acts) rest e)
acts-at (Took c part ∷ seen) (act ∷ acts) rest e = acts-more (Took c part) seen (act ∷ acts) (acts-at seen (act ∷ acts) rest e)
acts-at (Does first ∷ seen) (act ∷ acts) rest e =
    subst (λ (a : Act). ActsAt (Does first ∷ seen) (a ∷ acts)) (sym (first-act act first (acts ++ rest) (acts_in seen) e))
    (acts-more (Does first) seen acts (acts-at seen acts rest (ap (λ (xs : List Act). drop 1 xs) e)))

-- Files

-- where some ID is new, what holds with each holds
with-one : (Holds : List ℕ → Type 0) (Claim : Type 0) (ids : List (List ℕ)) → ids ≢ [] → AllByRecursion (λ id. Holds id × Claim) ids → Claim
with-one Holds Claim [] some all = absurd (some refl)
with-one Holds Claim (id ∷ ids) some all = all.0.1

pub same-book : (one two : Book) (r s : Result Book ℕ) → r ≡ s → r ≡ Ok one → s ≡ Ok two → one ≡ two
same-book one two r s e f g = cc

book-turned : (book : Book) (front : List Seen) → book_in book (notes front) ≡ book_after book (acts_in front)
book-turned book front = ap (λ (xs : List Seen). book_in book (noted xs)) (sym (turned-is front)) ∙ book-along book front []

discarded-turned : (command : Command) (xs ys vs ws : List Seen) → xs ++ vs ≡ ys ++ ws → deeds_seen xs ≡ deeds_seen ys → IsNextDeed ws → is_discarded command (notes ys) ≡ true → is_discarded command (notes xs) ≡ true
discarded-turned command xs ys vs ws e d next is =
    subst (λ (zs : List Seen). is_discarded command (noted zs) ≡ true) (turned-is xs)
    (discarded-back command xs ys vs ws [] e d next (subst (λ (zs : List Seen). is_discarded command (noted zs) ≡ true) (sym (turned-is ys)) is))

ids-turned : (book : Book) (xs ys vs ws : List Seen) → xs ++ vs ≡ ys ++ ws → deeds_seen xs ≡ deeds_seen ys → new_ids (notes xs) ≡ new_ids (notes ys)
ids-turned book xs ys vs ws e d =
    ap (λ (zs : List Seen). new_ids (noted zs)) (sym (turned-is xs)) ∙ same-ids book xs ys vs ws [] e d ∙ ap (λ (zs : List Seen). new_ids (noted zs)) (turned-is ys)

-- the front of the line behind which a file's checkpoint stands
record SavedAt (config : Config) (book saved : Book) (events : List Event) (done : List Deed) : Type 0 where
  front : List Seen
  later : List Seen
  parts : front ++ later ≡ line config book events
  same : deeds_seen front ≡ done
  epoch : saved.epoch ≡ (book_in book (notes front)).epoch
  is : KeepsRules book → book.name ≡ config.session → saved ≡ book_in book (notes front)
  beside : KeepsRules book → book.name ≡ config.session → (saved.name ≡ book.name) × (saved.others ≡ book.others)

saved-at : (config : Config) (book saved : Book) (events : List Event) (done : List Deed) (file : List ℕ) → IsSaved book (script_of config book events) done file → HasSaved config file saved → SavedAt config book saved events done
saved-at config book saved events done file s recovered =
    let at : ActsAt (line config book events) s.front = acts-at (line config book events) s.front s.rest (s.parts ∙ sym (acts-line config book events)) in
    let stored : Book = recovered.0 in
    let after : Book = book_after book s.front in
    let stands : stored ≡ as_stored after = same-book stored (as_stored after) (Ok stored) (Ok (as_stored after)) (recovers-once file (Ok stored) (Ok (as_stored after)) recovered.1 s.recovers) refl refl in
    let there : after ≡ book_in book (notes at.front) = ap (λ (acts : List Act). book_after book acts) (sym at.same) ∙ sym (book-turned book at.front) in
    record {
      front = at.front;
      later = at.later;
      parts = at.parts;
      same = ap (λ (acts : List Act). deeds_in acts) at.same ∙ s.same;
      epoch = ap (λ (b : Book). b.epoch) (sym recovered.2) ∙ (ap (λ (b : Book). b.epoch) stands ∙ (stored_epoch after ∙ ap (λ (b : Book). b.epoch) there));
      is = λ rules called.
          let beside = beside_after config book events s.front s.rest s.parts in
          sym recovered.2 ∙ (ap (choose config.session) stands ∙ (beside_chosen config.session book after rules called beside.0 beside.1 ∙ there));
      beside = λ rules called.
          let beside = beside_after config book events s.front s.rest s.parts in
          let same : saved ≡ after = sym recovered.2 ∙ (ap (choose config.session) stands ∙ beside_chosen config.session book after rules called beside.0 beside.1) in
          (ap (λ (b : Book). b.name) same ∙ beside.0, ap (λ (b : Book). b.others) same ∙ beside.1);
    }

pub files-keep-up : FilesKeepUp
files-keep-up config book saved events done file s recovered seen later parts same some =
    let at : SavedAt config book saved events done = saved-at config book saved events done file s recovered in
    let ids : new_ids (notes seen) ≡ new_ids (notes at.front) = ids-turned book seen at.front later at.later (parts ∙ sym at.parts) (same ∙ sym at.same) in
    let epoch : (book_in book (notes at.front)).epoch ≡ book.epoch + 1 =
    with-one (IsOfRun (book.epoch + 1)) ((book_in book (notes at.front)).epoch ≡ book.epoch + 1) (new_ids (notes at.front)) (λ none. some (ids ∙ none))
    (laws-hold config book at.front (record { events = events; later = at.later; parts = at.parts })).new_ids_are_of_the_run in
    at.epoch ∙ epoch

pub files-forget : FilesForgetDiscards
files-forget config book saved events done file rules called s recovered seen later parts same next command is =
    let at : SavedAt config book saved events done = saved-at config book saved events done file s recovered in
    let there : is_discarded command (notes at.front) ≡ true = discarded-turned command at.front seen at.later later (at.parts ∙ sym parts) (at.same ∙ sym same) next is in
    ap (λ (b : Book). names b command) (at.is rules called) ∙ (laws-hold config book at.front (record { events = events; later = at.later; parts = at.parts })).discarded_states_are_not_named rules command there

pub files-keep : FilesKeepWhatWasSaved
files-keep config book saved events done file o called s recovered seen later parts same next id some =
    let at : SavedAt config book saved events done = saved-at config book saved events done file s recovered in
    let there : Holding saved id (kept_in book id (notes at.front)) =
    subst (λ (b : Book). Holding b id (kept_in book id (notes at.front))) (sym (at.is o.rules called)) (λ k. (laws-hold config book at.front (record { events = events; later = at.later; parts = at.parts })).saves_are_kept o id k) in
    kept-turned book saved id at.front seen at.later later (at.parts ∙ sym parts) (at.same ∙ sym same) next there some

pub files-keep-others : FilesKeepOtherSessions
files-keep-others config book saved events done file rules called s recovered = (saved-at config book saved events done file s recovered).beside rules called

pub every-file : EveryFileIsSafe
every-file config book saved first left answer effects word n image recovered =
    let done : IsDone config book (heard (take n effects)) (deeds (take n effects)) = done-is config book effects word.carries.on_script n in
    let s : IsSaved book (script_of config book (heard (take n effects))) (deeds (take n effects)) left = word.keeps.saved n left image in
    record {
      done = done;
      others = files-keep-others config book saved (heard (take n effects)) (deeds (take n effects)) left word.rules word.called s recovered;
      ids = λ some. files-keep-up config book saved (heard (take n effects)) (deeds (take n effects)) left s recovered done.front done.later done.parts done.same some;
      discards = λ rules command is. files-forget config book saved (heard (take n effects)) (deeds (take n effects)) left rules word.called s recovered done.front done.later done.parts done.same done.next command is;
      saves = λ o id some. files-keep config book saved (heard (take n effects)) (deeds (take n effects)) left o word.called s recovered done.front done.later done.parts done.same done.next id some;
    }

pub others-begin : OtherSessionsBeginAlike
others-begin config was is first left answer effects word n image recovered other differ =
    has-alike config.session other is was differ (every-file config (choose config.session was) (choose config.session is) first left answer effects word n image (is, recovered, refl)).others.1
