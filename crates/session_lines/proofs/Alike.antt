-- What is noted of a connection stays, whatever is done to others.
use Rattle.std.proofs.Common.{◌≡◌, refl, sym, ap, subst, ◌∙◌, ℕ, eqb, Bool, true, false, cond, ◌&&◌, ◌||◌, ◌==◌, List, [], ◌∷◌, ◌++◌, map, Some, None, Result, Ok, Err, slice_index, arith}
use Rattle.std.specs.Prelude.{reverse}
use Rattle.std.specs.List.{AllByRecursion}
use Rattle.std.proofs.lemmas.List.{append_assoc, reverse-append}
use Rattle.sm_world.specs.declared.events.Event.{Event}
use Rattle.sm_world.specs.declared.events.Event.TheVariants.{Gone as HasGone, Operator}
use Rattle.ice_values.specs.declared.refusals.DecodeRefusal.{DecodeRefusal}
use Rattle.checkpoint_records.specs.declared.records.Book.{Book}
use Rattle.xsmp_messages.specs.Reading.{decode_at}
use Rattle.xsmp_messages.specs.declared.message.XsmpMessage.{XsmpMessage}
use Rattle.xsmp_messages.specs.declared.message.XsmpMessage.TheVariants.{DeleteProperties, Error as XsmpError, RegisterClientReply, SetProperties}
use Rattle.xsmp_properties.specs.Tables.{set_all, without_names}
use Rattle.session_model.proofs.Pending.{all-append}
use Rattle.session_model.proofs.Ruled.{differ}
use Rattle.session_model.specs.Tables.{first_table}
use Rattle.session_engine.specs.Machine.{Does as DoesAct, Entry, Machine, Took as TookPart, step}
use Rattle.ice_framing.specs.Parts.{Part, TooMuch, Whole}
use Rattle.session_engine.specs.declared.acts.Act.TheVariants.{Commit, Say, Shut, Start}
use Rattle.protocol_messages.specs.declared.message.Message.{Message}
use Rattle.protocol_messages.specs.declared.message.Message.TheVariants.{Ice, Xsmp}
use Rattle.session_engine.proofs.Connections.{other, same}
use Rattle.session_notes.specs.Notes.{Gone, Heard, Note}
use Rattle.session_notes.specs.Keeping.{book_in, id_in, table_in}
use Rattle.session_notes.proofs.Tests.{or-none}
use Rattle.session_lines.specs.Lines.{Comes, Does, Seen, Took, given_in, heard_as, heard_in, is_error, is_open, noted, notes, seen_of}
use Rattle.session_lines.specs.Others.{IsNotedAlike, LeavesAlone, Spares, conn_of, is_of_round, is_shut}
use Rattle.session_lines.proofs.Alone.{only-conn, others-left-alone}

-- these notes say the same of d
record Alike (book : Book) (d : ℕ) (n o : List Note) : Type 0 where
  id : id_in d n ≡ id_in d o
  table : table_in book d n ≡ table_in book d o

alike-same : (book : Book) (d : ℕ) (n : List Note) → Alike book d n n
alike-same book d n = record { id = refl; table = refl }

alike-then : (book : Book) (d : ℕ) (n o p : List Note) → Alike book d n o → Alike book d o p → Alike book d n p
alike-then book d n o p s t = record { id = s.id ∙ t.id; table = s.table ∙ t.table }

alike-cond : (book : Book) (d : ℕ) (b : Bool) (n o p : List Note) → Alike book d n p → Alike book d o p → Alike book d (cond b n o) p
alike-cond book d true n o p s t = s
alike-cond book d false n o p s t = t

-- What another said, was sent or left behind

alike-message : (book : Book) (d c : ℕ) (m : XsmpMessage) (n : List Note) → (c ≡ d → ⊥) → Alike book d (Heard c m ∷ n) n
alike-message book d c (SetProperties list) n a = record { id = refl; table = ap (λ (b : Bool). cond b (set_all (table_in book d n) list) (table_in book d n)) (other c d a) }
alike-message book d c (DeleteProperties names) n a = record { id = refl; table = ap (λ (b : Bool). cond b (without_names names (table_in book d n)) (table_in book d n)) (other c d a) }
alike-message book d c m n a = record { id = refl; table = refl }

alike-read : (book : Book) (d c : ℕ) (read : Result XsmpMessage DecodeRefusal) (n : List Note) → (c ≡ d → ⊥) → Alike book d (heard_as c read ++ n) n
alike-read book d c (Ok m) n a = alike-message book d c m n a
alike-read book d c (Err refusal) n a = alike-same book d n

alike-either : (book : Book) (d : ℕ) (b : Bool) (c : ℕ) (read : Result XsmpMessage DecodeRefusal) (n : List Note) → (c ≡ d → ⊥) → Alike book d (cond b [] (heard_as c read) ++ n) n
alike-either book d true c read n a = alike-same book d n
alike-either book d false c read n a = alike-read book d c read n a

alike-heard : (book : Book) (d c : ℕ) (part : Part) (n : List Note) → (c ≡ d → ⊥) → Alike book d (heard_in c part ++ n) n
alike-heard book d c (Whole frame) n a = alike-either book d (slice_index frame.bytes 0 == 0 || slice_index frame.bytes 1 == 0) c (decode_at frame.endian frame.bytes) n a
alike-heard book d c (TooMuch header) n a = alike-same book d n

alike-xsmp : (book : Book) (d c : ℕ) (m : XsmpMessage) (n : List Note) → (c ≡ d → is_of_round (Xsmp m) ≡ true) → Alike book d (given_in c (Xsmp m) ++ n) n
alike-xsmp book d c (RegisterClientReply id) n s =
    let a : eqb c d ≡ false = other c d (λ k. no-reply (s k)) in
    record { id = ap (λ (b : Bool). cond b (Some id) (id_in d n)) a; table = ap (λ (b : Bool). cond b (first_table (book_in book n) id) (table_in book d n)) a } where
      no-reply : false ≡ true → ⊥
      no-reply k = grind arith
alike-xsmp book d c (XsmpError error) n s = alike-same book d n
alike-xsmp book d c m n s = record { id = refl; table = refl }

alike-given : (book : Book) (d c : ℕ) (message : Message) (n : List Note) → (c ≡ d → is_of_round message ≡ true) → Alike book d (given_in c message ++ n) n
alike-given book d c (Ice message) n s = alike-same book d n
alike-given book d c (Xsmp m) n s = alike-xsmp book d c m n s

alike-gone : (book : Book) (d c : ℕ) (n : List Note) → (c ≡ d → ⊥) → Alike book d (Gone c ∷ n) n
alike-gone book d c n a = record { id = ap (λ (b : Bool). cond b None (id_in d n)) (other c d a); table = ap (λ (b : Bool). cond b [] (table_in book d n)) (other c d a) }

-- The line of a step, the latest first

-- it doesn't touch d
abbrev IsQuiet : ℕ → Seen → Type 0
IsQuiet d (Comes event) = ⊥
IsQuiet d (Took c part) = c ≡ d → ⊥
IsQuiet d (Does (Say c message)) = c ≡ d → is_of_round message ≡ true
IsQuiet d (Does (Shut c)) = c ≡ d → ⊥
IsQuiet d (Does act) = Unit {0}

alike-line : (book : Book) (d : ℕ) (xs : List Seen) (event : Event) (seen : List Seen) → AllByRecursion (IsQuiet d) xs → Alike book d (noted (xs ++ Comes event ∷ seen)) (noted (Comes event ∷ seen))
alike-line book d [] event seen q = alike-same book d (noted (Comes event ∷ seen))
alike-line book d (Comes other_one ∷ xs) event seen q = absurd q.0
alike-line book d (Took c part ∷ xs) event seen q =
    alike-then book d (heard_in c part ++ noted (xs ++ Comes event ∷ seen)) (noted (xs ++ Comes event ∷ seen)) (noted (Comes event ∷ seen)) (alike-heard book d c part (noted (xs ++ Comes event ∷ seen)) q.0) (alike-line book d xs event seen q.1)
alike-line book d (Does (Say c message) ∷ []) event seen q = alike-given book d c message (noted (Comes event ∷ seen)) q.0
alike-line book d (Does (Say c message) ∷ Took e part ∷ xs) event seen q =
    let before : List Note = noted (xs ++ Comes event ∷ seen) in
    let heard : List Note = heard_in e part ++ before in
    let end : List Note = noted (Comes event ∷ seen) in
    let rest : Alike book d before end = alike-line book d xs event seen q.1.1 in
    alike-cond book d (is_error message && e == c) before (given_in c message ++ heard) end rest
    (alike-then book d (given_in c message ++ heard) heard end (alike-given book d c message heard q.0) (alike-then book d heard before end (alike-heard book d e part before q.1.0) rest))
alike-line book d (Does (Say c message) ∷ entry ∷ xs) event seen q =
    let before : List Note = noted (entry ∷ xs ++ Comes event ∷ seen) in
    alike-then book d (given_in c message ++ before) before (noted (Comes event ∷ seen)) (alike-given book d c message before q.0) (alike-line book d (entry ∷ xs) event seen q.1)
alike-line book d (Does (Shut c) ∷ xs) event seen q =
    alike-then book d (Gone c ∷ noted (xs ++ Comes event ∷ seen)) (noted (xs ++ Comes event ∷ seen)) (noted (Comes event ∷ seen)) (alike-gone book d c (noted (xs ++ Comes event ∷ seen)) q.0) (alike-line book d xs event seen q.1)
alike-line book d (Does (Start reason command) ∷ xs) event seen q = let rest = alike-line book d xs event seen q.1 in record { id = rest.id; table = rest.table }
alike-line book d (Does (Commit written) ∷ xs) event seen q = let rest = alike-line book d xs event seen q.1 in record { id = rest.id; table = rest.table }
alike-line book d (Does act ∷ xs) event seen q = alike-line book d xs event seen q.1

alike-comes : (book : Book) (d : ℕ) (event : Event) (seen : List Seen) → ((c : ℕ) → conn_of event ≡ Some c → c ≡ d → ⊥) → Alike book d (noted (Comes event ∷ seen)) (noted seen)
alike-comes book d (HasGone c) seen a = alike-cond book d (is_open c seen) (Gone c ∷ noted seen) (noted seen) (noted seen) (alike-gone book d c (noted seen) (a c refl)) (alike-same book d (noted seen))
alike-comes book d (Operator order) seen a = record { id = refl; table = refl }
alike-comes book d event seen a = alike-same book d (noted seen)

quiet-line : (d : ℕ) (m n : Machine) (line : List Entry) → AllByRecursion (Spares d m n) line → is_shut d line ≡ false → AllByRecursion (IsQuiet d) (map seen_of line)
quiet-line d m n [] s e = tt
quiet-line d m n (TookPart c part ∷ line) s e = (s.0, quiet-line d m n line s.1 e)
quiet-line d m n (DoesAct (Say c message) ∷ line) s e = (s.0, quiet-line d m n line s.1 e)
quiet-line d m n (DoesAct (Shut c) ∷ line) s e =
    let p : (eqb c d ≡ false) × (is_shut d line ≡ false) = or-none (eqb c d) (is_shut d line) e in
    (λ k. differ (same c d k) p.0, quiet-line d m n line s.1 p.1)
quiet-line d m n (DoesAct act ∷ line) s e = (tt, quiet-line d m n line s.1 e)

all-reversed : (P : Seen → Type 0) (xs : List Seen) → AllByRecursion P xs → AllByRecursion P (reverse xs)
all-reversed P [] a = tt
all-reversed P (x ∷ xs) a = subst (λ (ys : List Seen). AllByRecursion P ys) (sym (reverse-append (x ∷ []) xs)) (all-append P (reverse xs) (x ∷ []) (all-reversed P xs a.1) (a.0, tt))

turned : (seen : List Seen) (event : Event) (line : List Seen) → reverse (seen ++ Comes event ∷ line) ≡ reverse line ++ Comes event ∷ reverse seen
turned seen event line =
    reverse-append seen (Comes event ∷ line) ∙ ap (λ (xs : List Seen). xs ++ reverse seen) (reverse-append (Comes event ∷ []) line) ∙ append_assoc (reverse line) (Comes event ∷ []) (reverse seen)

pub others-noted-alike : (book : Book) (seen : List Seen) (m : Machine) (event : Event) (c d : ℕ) → conn_of event ≡ Some c → (d ≡ c → ⊥) → is_shut d (step m event).line ≡ false
    → IsNotedAlike book d seen (seen ++ Comes event ∷ map seen_of (step m event).line)
others-noted-alike book seen m event c d e a n =
    let left : LeavesAlone d m (step m event) = others-left-alone m event c d e a in
    let line : List Seen = map seen_of (step m event).line in
    let quiet : AllByRecursion (IsQuiet d) (reverse line) = all-reversed (IsQuiet d) line (quiet-line d m (step m event).next (step m event).line left.spares n) in
    let alike : Alike book d (noted (reverse line ++ Comes event ∷ reverse seen)) (noted (reverse seen)) =
    alike-then book d (noted (reverse line ++ Comes event ∷ reverse seen)) (noted (Comes event ∷ reverse seen)) (noted (reverse seen)) (alike-line book d (reverse line) event (reverse seen) quiet)
    (alike-comes book d event (reverse seen) (λ b f k. only-conn b c d (conn_of event) e a f k)) in
    let same_notes : notes (seen ++ Comes event ∷ line) ≡ noted (reverse line ++ Comes event ∷ reverse seen) = ap (λ (xs : List Seen). noted xs) (turned seen event line) in
    record { id = ap (λ (ns : List Note). id_in d ns) same_notes ∙ alike.id; table = ap (λ (ns : List Note). table_in book d ns) same_notes ∙ alike.table }
