-- What an append and a compaction keep, by what their puts answered.
use Rattle.std.proofs.Common.{◌≡◌, ◌+◌, ◌<◌, ◌≤◌, ◌^◌, ℕ, zero, suc, List, [], ◌∷◌, ◌++◌, length, refl, ap, sym, subst, ◌∙◌, inl, inr, arith, append_assoc}
use Rattle.std.specs.Prelude.{IfOk, None, Option, Some, Ok, Err, Result}
use Rattle.std.proofs.lemmas.List.{append-nil}
use Rattle.std.specs.List.{AllByRecursion}
use Rattle.sm_world.specs.Crash.{Image}
use Rattle.sm_world.specs.Outside.{Added}
use Rattle.sm_world.proofs.Adding.{adds-none}
use Rattle.sm_world.specs.declared.effects.Effect.{Effect}
use Rattle.sm_world.specs.declared.effects.Effect.TheVariants.{Synced, Wrote}
use Rattle.checkpoint_records.specs.Spelling.{book_bytes}
use Rattle.checkpoint_records.specs.declared.records.Book.{Book}
use Rattle.checkpoint_changes.specs.Amendments.{Amended}
use Rattle.checkpoint_records.specs.declared.head.Format.TheVariants.{Several}
use Rattle.checkpoint_changes.specs.Changes.{IsChange, change_cells}
use Rattle.checkpoint_changes.specs.declared.changes.Change.{Change}
use Rattle.checkpoint_slots.specs.Causes.{IsSpellFault}
use Rattle.checkpoint_slots.specs.Layout.{gate_at, start_of}
use Rattle.checkpoint_slots.specs.Recovery.{slot_bytes}
use Rattle.checkpoint_slots.specs.Turns.{Closes, Fills, HasRoomFor, IsNext, IsOfStore, IsPut, IsRoom, Lifts, SteadyStands, Swap, advanced, done, end_in, following, next_generation, nothing, opened_in, target}
use Rattle.checkpoint_slots.specs.declared.fault.StoreFault.{StoreFault}
use Rattle.checkpoint_slots.specs.declared.fault.StoreFault.TheVariants.{DiskFault}
use Rattle.checkpoint_slots.specs.declared.layout.Slot.{Slot}
use Rattle.checkpoint_slots.specs.declared.layout.Slot.TheVariants.{First, Second}
use Rattle.checkpoint_slots.specs.declared.turn.Current.{Current}
use Rattle.checkpoint_slots.proofs.Bodies.{body-length}
use Rattle.checkpoint_slots.proofs.Turning.{put-store}
use Rattle.checkpoint_journal.specs.Journal.{Appends, Compacted, Compacts, append_puts, behind, body_puts, size_of}
use Rattle.checkpoint_journal.specs.Writing.{AreCut, PutsAll, all_put, bytes_in}
use Rattle.checkpoint_journal.proofs.Appending.{behind-stands, behind-swap, gate-stands, gate-swap}
use Rattle.checkpoint_journal.proofs.Growing.{behind-size}
use Rattle.checkpoint_journal.proofs.Swapping.{opened_in-append, store_both, swap_both}
use Rattle.checkpoint_journal.proofs.Written.{ArePut, are-put, cut-are, puts-bytes, puts-last, puts-then}

puts-store : (puts : List (ℕ × List ℕ)) (added : List Effect) → ArePut puts added → AllByRecursion IsOfStore added
puts-store [] added is = subst (λ (es : List Effect). AllByRecursion IsOfStore es) (sym is) tt
puts-store (put ∷ puts) added (inl last) = put-store put.0 put.1 last
puts-store (put ∷ puts) added (inr more) = subst (λ (es : List Effect). AllByRecursion IsOfStore es) (sym more.2) (tt, (tt, puts-store puts more.0 more.1))

last-put : (at : ℕ) (bytes : List ℕ) (added : List Effect) → ArePut ((at, bytes) ∷ []) added → IsPut at bytes added
last-put at bytes added (inl put) = put
last-put at bytes added (inr more) = subst (λ (es : List Effect). IsPut at bytes es) (sym (more.2 ∙ ap (λ (es : List Effect). Wrote at bytes ∷ Synced ∷ es) more.1)) done

-- Nothing was done

swap-none : (current : Option Current) (first : List ℕ) (effects : List Effect) (book next : Book) → SteadyStands current book first effects → Swap first effects [] book next
swap-none current first effects book next stands zero within file image = inl (stands.images file (subst (λ (es : List Effect). Image first es file) (append-nil effects) image)).recovers
swap-none current first effects book next stands (suc n) within file image = inl (stands.images file (subst (λ (es : List Effect). Image first es file) (append-nil effects) image)).recovers

pub appends-none : (current : Option Current) (delta : List Change) (fault : StoreFault) → IsSpellFault (next_generation current) fault → Appends current delta (Err (Some current, fault)) []
appends-none current delta fault cause = record {
  puts = λ end e. inl (nothing, λ same. cc);
  store = tt;
  swap = λ first effects book next stands amended. swap-none current first effects book next stands;
  turn = λ first effects book next stands amended. tt;
  next = tt;
  opens = tt;
  bytes = omega arith;
  why_not = (refl, refl, cause);
}

pub compacts-none : (current : Option Current) (book : Book) (fault : StoreFault) → IsSpellFault (next_generation current) fault → Compacts current book (Err (Some current, fault)) []
compacts-none current book fault cause = record {
  puts = inl (nothing, λ same. cc);
  store = tt;
  swap = λ first effects old stands. swap-none current first effects old book stands;
  turn = λ first effects old stands. tt;
  next = tt;
  opens = tt;
  bytes = omega arith;
  why_not = (refl, refl, cause);
}

-- An append

module _ (current : Current) (gate : ℕ) (ends : current.end ≡ Some gate) (delta : List Change) (room : gate + 8 + size_of delta < start_of current.slot + 8388608) where
  append-swap : (added : List Effect) → ArePut (append_puts gate delta) added → (first : List ℕ) (effects : List Effect) (book next : Book) → SteadyStands (Some current) book first effects → Amended (change_cells Several) (IsChange Several) book delta next → Swap first effects added book next
  append-swap added (inl put) first effects book next stands amended = behind-swap current gate ends delta room first effects book stands added put next
  append-swap added (inr more) first effects book next stands amended =
      let front : List Effect = Wrote (gate + 1) (behind delta) ∷ Synced ∷ [] in
      subst (λ (es : List Effect). Swap first effects es book next) (sym more.2)
      (swap_both first effects front more.0 book next (behind-swap current gate ends delta room first effects book stands front done next)
      (gate-swap current gate ends delta room first (effects ++ front) book next amended (behind-stands current gate ends delta room first effects book stands) more.0 (last-put gate (165 ∷ []) more.0 more.1)))

  append-stands : (first : List ℕ) (effects : List Effect) (book next : Book) → SteadyStands (Some current) book first effects → Amended (change_cells Several) (IsChange Several) book delta next → SteadyStands (advanced (Some current) (size_of delta)) next first (effects ++ all_put (append_puts gate delta))
  append-stands first effects book next stands amended =
      let front : List Effect = Wrote (gate + 1) (behind delta) ∷ Synced ∷ [] in
      subst (λ (es : List Effect). SteadyStands (advanced (Some current) (size_of delta)) next first es) (append_assoc effects front (Wrote gate (165 ∷ []) ∷ Synced ∷ []))
      (gate-stands current gate ends delta room first (effects ++ front) book next amended (behind-stands current gate ends delta room first effects book stands))

  append-bytes : (added : List Effect) → ArePut (append_puts gate delta) added → bytes_in added ≤ 8 + size_of delta + 1
  append-bytes added are = let b = puts-bytes (append_puts gate delta) added are in omega (arith, b, behind-size delta)

  the-gate : (end : ℕ) → current.end ≡ Some end → gate ≡ end
  the-gate end e = same gate end (sym ends ∙ e) where
    same : (x y : ℕ) → Some x ≡ Some y → x ≡ y
    same x y s = cc

  appends-some : (added : List Effect) → added ≡ all_put (append_puts gate delta) → Appends (Some current) delta (Ok (advanced (Some current) (size_of delta))) added
  appends-some added is =
      let are : ArePut (append_puts gate delta) added = are-put {A = Unit {0}} {E = Unit {0}} (append_puts gate delta) (Ok tt) added is in
      record {
        puts = λ end e. subst (λ (k : ℕ). added ≡ all_put (append_puts k delta)) (the-gate end e) is;
        store = puts-store (append_puts gate delta) added are;
        swap = append-swap added are;
        turn = λ first effects book next stands amended. subst (λ (es : List Effect). SteadyStands (advanced (Some current) (size_of delta)) next first (effects ++ es)) (sym is) (append-stands first effects book next stands amended);
        next = refl;
        opens = ap opened_in is;
        bytes = append-bytes added are;
        why_not = tt;
      }

  appends-failed : (added : List Effect) → AreCut (append_puts gate delta) added → Appends (Some current) delta (Err (None, DiskFault)) added
  appends-failed added cut = let are : ArePut (append_puts gate delta) added = cut-are (append_puts gate delta) added cut in record {
    puts = λ end e. subst (λ (k : ℕ). AreCut (append_puts k delta) added) (the-gate end e) cut;
    store = puts-store (append_puts gate delta) added are;
    swap = append-swap added are;
    turn = λ first effects book next stands amended. tt;
    next = tt;
    opens = tt;
    bytes = append-bytes added are;
    why_not = refl;
  }

abbrev pub BehindPuts : ℕ → List ℕ → List (ℕ × List ℕ)
BehindPuts gate tail = (gate + 1, tail) ∷ (gate, 165 ∷ []) ∷ []

room-at : (current : Current) (gate m : ℕ) → current.end ≡ Some gate → IsRoom current.slot m current.end → gate + 8 + m < start_of current.slot + 8388608
room-at current gate m e room = subst (λ (x : Option ℕ). IsRoom current.slot m x) e room

pub appends-done : (current moved : Option Current) (gate : ℕ) (delta : List Change) (tail : List ℕ) (added : List Effect) → HasRoomFor current (size_of delta) → end_in current ≡ Some gate → tail ≡ behind delta → moved ≡ advanced current (size_of delta) → added ≡ all_put (BehindPuts gate tail) → Appends current delta (Ok moved) added
appends-done None moved gate delta tail added room ends is to puts = absurd room
appends-done (Some current) moved gate delta tail added room ends is to puts =
    subst (λ (m : Option Current). Appends (Some current) delta (Ok m) added) (sym to)
    (appends-some current gate ends delta (room-at current gate (size_of delta) ends room) added (puts ∙ ap (λ (xs : List ℕ). all_put (BehindPuts gate xs)) is))

pub appends-not : (current : Option Current) (gate : ℕ) (delta : List Change) (tail : List ℕ) (added : List Effect) → HasRoomFor current (size_of delta) → end_in current ≡ Some gate → tail ≡ behind delta → AreCut (BehindPuts gate tail) added → Appends current delta (Err (None, DiskFault)) added
appends-not None gate delta tail added room ends is puts = absurd room
appends-not (Some current) gate delta tail added room ends is puts =
    appends-failed current gate ends delta (room-at current gate (size_of delta) ends room) added (subst (λ (xs : List ℕ). AreCut (BehindPuts gate xs) added) is puts)

-- a slot has room for what fits
pub gate-room : (current : Option Current) (gate m : ℕ) → HasRoomFor current m → end_in current ≡ Some gate → gate + 9 + m ≤ 16777280
gate-room None gate m room ends = absurd room
gate-room (Some current) gate m room ends = let r = room-at current gate m ends room in omega (arith, r, within current.slot) where
  within : (slot : Slot) → start_of slot + 8388608 ≤ 16777280
  within First = omega arith
  within Second = omega arith

-- A compaction

pub compacted-unclosed : (current : Option Current) (body : List ℕ) (fault : StoreFault) (cs : List Effect) → Closes current (Err fault) cs → Compacted current body (Err fault) cs
compacted-unclosed current body fault cs closes = record {
  puts = inl closes.puts;
  store = closes.store;
  swap = λ first effects old book stands is e. closes.swap first effects old book stands;
  turn = λ first effects old book stands is e. tt;
  next = λ fits. tt;
  opens = λ book e. tt;
}

pub compacted-unfilled : (current closed : Option Current) (body : List ℕ) (fault : StoreFault) (cs fs : List Effect) → closed ≡ current → Closes current (Ok closed) cs → Fills closed body (Err fault) fs → Compacted current body (Err fault) (cs ++ fs)
compacted-unfilled current closed body fault cs fs same closing filling =
    let closes : Closes current (Ok current) cs = subst (λ (x : Option Current). Closes current (Ok x) cs) same closing in
    let fills : Fills current body (Err fault) fs = subst (λ (x : Option Current). Fills x body (Err fault) fs) same filling in
    record {
      puts = puts-then {A = Option Current} {B = Option Current} {F = StoreFault} StoreFault (gate_at (target current)) (0 ∷ []) current ((start_of (target current), body) ∷ (gate_at (target current), 165 ∷ []) ∷ []) (Err fault) cs fs closes.puts (inl fills.puts);
      store = store_both cs fs closes.store fills.store;
      swap = λ first effects old book stands is e. swap_both first effects cs fs old book (closes.swap first effects old book stands) (fills.swap first (effects ++ cs) old book (closes.turn first effects old stands) is e);
      turn = λ first effects old book stands is e. tt;
      next = λ fits. tt;
      opens = λ book e. tt;
    }

opens-three : (result : Result (Option Current) StoreFault) (cs fs ls : List Effect) → opened_in cs ≡ 0 → opened_in fs ≡ 0 → IfOk result (λ steady. opened_in ls ≡ 1) → IfOk result (λ steady. opened_in (cs ++ (fs ++ ls)) ≡ 1)
opens-three (Ok steady) cs fs ls a b c = omega (arith, a, b, c, opened_in-append cs (fs ++ ls), opened_in-append fs ls)
opens-three (Err fault) cs fs ls a b c = tt

next-three : (result : Result (Option Current) StoreFault) (one two : Current) → one ≡ two → IfOk result (λ steady. steady ≡ Some one) → IfOk result (λ steady. steady ≡ Some two)
next-three (Ok steady) one two e is = is ∙ ap (λ (c : Current). Some c) e
next-three (Err fault) one two e is = is

pub compacted-whole : (current closed : Option Current) (filled : Option Current × Current) (body : List ℕ) (result : Result (Option Current) StoreFault) (cs fs ls : List Effect) → closed ≡ current → filled.0 ≡ closed → (next_generation closed < 2 ^ 64 → filled.1 ≡ following closed (length body)) → IfOk result (λ steady. steady ≡ Some filled.1)
    → Closes current (Ok closed) cs → Fills closed body (Ok filled) fs → Lifts filled result ls → Compacted current body result (cs ++ (fs ++ ls))
compacted-whole current closed filled body result cs fs ls same again follows opened closing filling lifts =
    let closes : Closes current (Ok current) cs = subst (λ (x : Option Current). Closes current (Ok x) cs) same closing in
    let fills : Fills current body (Ok filled) fs = subst (λ (x : Option Current). Fills x body (Ok filled) fs) same filling in
    let last : PutsAll ((gate_at (target current), 165 ∷ []) ∷ []) result ls = subst (λ (x : Option Current). PutsAll ((gate_at (target x), 165 ∷ []) ∷ []) result ls) (again ∙ same) (puts-last (gate_at (target filled.0)) (165 ∷ []) result ls lifts.puts) in
    record {
      puts = puts-then StoreFault (gate_at (target current)) (0 ∷ []) current ((start_of (target current), body) ∷ (gate_at (target current), 165 ∷ []) ∷ []) result cs (fs ++ ls) closes.puts
          (puts-then StoreFault (start_of (target current)) body filled ((gate_at (target current), 165 ∷ []) ∷ []) result fs ls fills.puts last);
      store = store_both cs (fs ++ ls) closes.store (store_both fs ls fills.store lifts.store);
      swap = λ first effects old book stands is e.
          let closed-stands = closes.turn first effects old stands in
          swap_both first effects cs (fs ++ ls) old book (closes.swap first effects old book stands)
          (swap_both first (effects ++ cs) fs ls old book (fills.swap first (effects ++ cs) old book closed-stands is e)
          (lifts.swap first ((effects ++ cs) ++ fs) old book (fills.turn first (effects ++ cs) old book closed-stands is e)));
      turn = λ first effects old book stands is e.
          subst (λ (es : List Effect). IfOk result (λ steady. SteadyStands steady book first es)) (append_assoc (effects ++ cs) fs ls ∙ append_assoc effects cs (fs ++ ls))
          (lifts.turn first ((effects ++ cs) ++ fs) old book (fills.turn first (effects ++ cs) old book (closes.turn first effects old stands) is e));
      next = λ fits. next-three result filled.1 (following current (length body)) (subst (λ (x : Option Current). next_generation x < 2 ^ 64 → filled.1 ≡ following x (length body)) same follows fits) opened;
      opens = λ book e. opens-three result cs fs ls closes.opens (fills.opens book e) lifts.opens;
    }

module _ (current steady : Option Current) (body : List ℕ) (book : Book) (same : steady ≡ current) (spelled : body ≡ slot_bytes (next_generation current) book) (is : IsNext current book) where
  compact-bytes : (added : List Effect) → ArePut (body_puts current body) added → bytes_in added ≤ 1 + (24 + length (book_bytes book)) + 1
  compact-bytes added are = let b = puts-bytes (body_puts current body) added are in let size = ap length spelled in omega (arith, b, size, body-length (next_generation current) book)

  pub compacts-done : (result : Option Current) (added : List Effect) → Compacted steady body (Ok result) added → Compacts current book (Ok result) added
  compacts-done result added did =
      let c : Compacted current body (Ok result) added = subst (λ (x : Option Current). Compacted x body (Ok result) added) same did in
      record {
        puts = subst (λ (bytes : List ℕ). added ≡ all_put (body_puts current bytes)) spelled c.puts;
        store = c.store;
        swap = λ first effects old stands. c.swap first effects old book stands is spelled;
        turn = λ first effects old stands. c.turn first effects old book stands is spelled;
        next = c.next is.generation ∙ ap (λ (bytes : List ℕ). Some (following current (length bytes))) spelled;
        opens = c.opens book spelled;
        bytes = compact-bytes added (are-put {A = Option Current} {E = StoreFault} (body_puts current body) (Ok result) added c.puts);
        why_not = tt;
      }

  pub compacts-not : (fault : StoreFault) (added : List Effect) → fault ≡ DiskFault → Compacted steady body (Err fault) added → Compacts current book (Err (None, fault)) added
  compacts-not fault added failed did =
      let c : Compacted current body (Err fault) added = subst (λ (x : Option Current). Compacted x body (Err fault) added) same did in
      record {
        puts = subst (λ (bytes : List ℕ). AreCut (body_puts current bytes) added) spelled c.puts;
        store = c.store;
        swap = λ first effects old stands. c.swap first effects old book stands is spelled;
        turn = λ first effects old stands. tt;
        next = tt;
        opens = tt;
        bytes = compact-bytes added (cut-are (body_puts current body) added c.puts);
        why_not = failed;
      }

-- a book that wasn't spelled
pub compacts-refused : (current inside steady : Option Current) (book : Book) (fault : StoreFault) (old : Option (List Effect)) → inside ≡ current → (steady ≡ inside) × IsSpellFault (next_generation inside) fault → Added old old (Compacts current book (Err (Some steady, fault)))
compacts-refused current inside steady book fault old same cause = record {
  effects = [];
  added = sym (adds-none old);
  holds = subst (λ (s : Option Current). Compacts current book (Err (Some s, fault)) []) (sym (cause.0 ∙ same)) (compacts-none current book fault (subst (λ (s : Option Current). IsSpellFault (next_generation s) fault) same cause.1));
}

-- a delta that wasn't spelled
pub appends-refused : (current : Option Current) (delta : List Change) (fault : StoreFault) (old : Option (List Effect)) → IsSpellFault (next_generation current) fault → Added old old (Appends current delta (Err (Some current, fault)))
appends-refused current delta fault old cause = record { effects = []; added = sym (adds-none old); holds = appends-none current delta fault cause }
