-- A commit: its effects are the store's, and swap the old checkpoint for the new one.
use Rattle.std.proofs.Common.{◌≡◌, ◌⊎◌, inl, inr, arith, ℕ, ◌<◌, ◌^◌, zero, suc, List, [], ◌∷◌, ◌++◌, length, take, Option, Result, Ok, Err, refl, ◌∙◌, ap}
use Rattle.std.proofs.lemmas.List.{append-nil, take_all}
use Rattle.std.proofs.lemmas.Bool.{false≢true}
use Rattle.std.specs.List.{AllByRecursion}
use Rattle.sm_world.specs.Crash.{Image}
use Rattle.sm_world.specs.Effects.{deeds, heard, published}
use Rattle.sm_world.specs.Outside.{Added, adds}
use Rattle.sm_world.specs.declared.effects.Effect.{Effect}
use Rattle.sm_world.specs.declared.effects.Effect.TheVariants.{Heard, Sent, Shut, Started, Wrote, Torn, Synced, SyncFailed, Published, Printed}
use Rattle.checkpoint_records.specs.Rules.{KeepsRules}
use Rattle.checkpoint_records.specs.declared.records.Book.{Book}
use Rattle.checkpoint_slots.specs.Recovery.{Recovers}
use Rattle.checkpoint_slots.specs.Turns.{IsOfStore, SteadyStands, next_generation}
use Rattle.checkpoint_slots.specs.declared.fault.StoreFault.{StoreFault}
use Rattle.checkpoint_slots.specs.declared.fault.StoreFault.TheVariants.{WrongSize, Damaged, DiskFault, Worn as IsWorn, NoMemory}
use Rattle.checkpoint_slots.specs.declared.turn.Current.{Current}
use Rattle.checkpoint_journal.proofs.Swapping.{any_front}
use Rattle.session_engine.specs.Causes.{commit_halt_of}
use Rattle.session_engine.specs.Doing.{items}
use Rattle.session_engine.specs.Saved.{IsSaved, Performs, Saves}
use Rattle.session_engine.specs.Stops.{IsLeft, IsNumbered}
use Rattle.session_engine.specs.Store.{Stored, Writes}
use Rattle.session_engine.specs.declared.acts.Act.{Act}
use Rattle.session_engine.specs.declared.acts.Act.TheVariants.{Commit}
use Rattle.session_engine.specs.declared.fault.ServeFault.TheVariants.{DiskFault as FailsOnDisk}
use Rattle.session_engine.specs.declared.fault.Halt.TheVariants.{Disk, Worn, NoMemory as WantsMemory}
use Rattle.session_engine.specs.Commits.{store_effects}
use Rattle.session_engine.proofs.Adding.{still}
use Rattle.session_engine.proofs.Committing.{book_written, cut_written, none_written}
use Rattle.session_engine.proofs.Performing.{found_now, none_numbered, performs_none, saved_still}
use Rattle.session_engine.proofs.Settling.{settle_none}
use Rattle.session_engine.proofs.Standing.{stored_order}
use Rattle.session_engine.specs.Standing.{as_stored}

-- The store's effects are nothing to anyone else.
record IsSilent (es : List Effect) : Type 0 where
  deaf : heard es ≡ []
  quiet : published es ≡ []
  still : deeds es ≡ []
  hidden : items es ≡ []

silent : (es : List Effect) → AllByRecursion IsOfStore es → IsSilent es
silent [] store = record { deaf = refl; quiet = refl; still = refl; hidden = refl }
silent (Heard event ∷ es) store = absurd store.0
silent (Sent conn bytes ∷ es) store = absurd store.0
silent (Shut conn ∷ es) store = absurd store.0
silent (Started command succeeded ∷ es) store = absurd store.0
silent (Wrote at bytes ∷ es) store = let s = silent es store.1 in record { deaf = s.deaf; quiet = s.quiet; still = s.still; hidden = s.hidden }
silent (Torn at n ∷ es) store = let s = silent es store.1 in record { deaf = s.deaf; quiet = s.quiet; still = s.still; hidden = s.hidden }
silent (Synced ∷ es) store = let s = silent es store.1 in record { deaf = s.deaf; quiet = s.quiet; still = s.still; hidden = s.hidden }
silent (SyncFailed ∷ es) store = let s = silent es store.1 in record { deaf = s.deaf; quiet = s.quiet; still = s.still; hidden = s.hidden }
silent (Published path bytes ∷ es) store = absurd store.0
silent (Printed text ∷ es) store = absurd store.0

-- and all that there is of the store
silent_store : (es : List Effect) → AllByRecursion IsOfStore es → store_effects es ≡ es
silent_store [] store = refl
silent_store (Heard event ∷ es) store = absurd store.0
silent_store (Sent conn bytes ∷ es) store = absurd store.0
silent_store (Shut conn ∷ es) store = absurd store.0
silent_store (Started command succeeded ∷ es) store = absurd store.0
silent_store (Wrote at bytes ∷ es) store = ap (λ (zs : List Effect). Wrote at bytes ∷ zs) (silent_store es store.1)
silent_store (Torn at n ∷ es) store = ap (λ (zs : List Effect). Torn at n ∷ zs) (silent_store es store.1)
silent_store (Synced ∷ es) store = ap (λ (zs : List Effect). Synced ∷ zs) (silent_store es store.1)
silent_store (SyncFailed ∷ es) store = ap (λ (zs : List Effect). SyncFailed ∷ zs) (silent_store es store.1)
silent_store (Published path bytes ∷ es) store = absurd store.0
silent_store (Printed text ∷ es) store = absurd store.0

store_front : (n : ℕ) (es : List Effect) → AllByRecursion IsOfStore es → AllByRecursion IsOfStore (take n es)
store_front zero es store = tt
store_front (suc n) [] store = tt
store_front (suc n) (e ∷ es) store = (store.0, store_front n es store.1)

-- at each point of a commit every file that a crash may leave has the old checkpoint or the new one
either_book : (current : Option Current) (old book : Book) (answer : Result (Option Current) StoreFault) (es : List Effect) → Writes current old book answer es → (first : List ℕ) (before : List Effect) → SteadyStands current old first before → (n : ℕ) (file : List ℕ) → Image first (before ++ take n es) file → Recovers file (Ok old) ⊎ Recovers file (Ok book)
either_book current old book answer es writes first before stands =
    any_front (λ zs. (file : List ℕ) → Image first (before ++ zs) file → Recovers file (Ok old) ⊎ Recovers file (Ok book)) es (writes.swap first before stands)

-- either checkpoint stands behind a front of the commit, none of which is a deed
saved_by : (opening book : Book) (file : List ℕ) → Recovers file (Ok (as_stored opening)) ⊎ Recovers file (Ok (as_stored book)) → IsSaved opening (Commit book ∷ []) [] file
saved_by opening book file (inl old) = record { front = []; rest = Commit book ∷ []; parts = refl; same = refl; recovers = old }
saved_by opening book file (inr new) = record { front = Commit book ∷ []; rest = []; parts = refl; same = refl; recovers = new }

saves_book : (store : Stored) (book : Book) (answer : Result (Option Current) StoreFault) (es : List Effect) → Writes store.journal (as_stored store.book) (as_stored book) answer es → Saves store (Commit book ∷ []) es
saves_book store book answer es writes first before stands n file image =
    rw ((silent (take n es) (store_front n es writes.store)).still) (saved_by store.book book file (either_book store.journal (as_stored store.book) (as_stored book) answer es writes first before stands n file image))

left_by : (opening book : Book) (file : List ℕ) → Recovers file (Ok (as_stored opening)) ⊎ Recovers file (Ok (as_stored book)) → IsLeft FailsOnDisk opening [] (Commit book ∷ []) file
left_by opening book file (inl old) = inl old
left_by opening book file (inr new) = inr (refl, new)

-- a commit that the disk refused
performs_refused : (store : Stored) (book : Book) (es : List Effect) → KeepsRules store.book → KeepsRules book → Writes store.journal (as_stored store.book) (as_stored book) (Err DiskFault) es → Performs store (Commit book ∷ []) (Err Disk) es
performs_refused store book es old_rules rules writes =
    let s = silent es writes.store in
    record {
      out = record {
        left = Commit book ∷ [];
        going = record { deaf = s.deaf; quiet = s.quiet; done = []; parts = refl; so_far = s.still; in_order = rw (s.still) s.hidden };
        none_left = λ e. absurd (false≢true e);
      };
      saves = saves_book store book (Err DiskFault) es writes;
      leaves = tt;
      counts = tt;
      opens = tt;
      worn = λ e. absurd cc;
      numbered = tt;
      settles = λ not. absurd (not refl);
      writes = λ order. cut_written store.journal store.book book es s.still (silent_store es writes.store) (writes.commits (stored_order store.book book old_rules rules (order.0.order old_rules rules)));
      stopped = record {
        front = [];
        rest = Commit book ∷ [];
        parts = refl;
        same = s.still;
        at = refl;
        opens = inl refl;
        numbers = (none_numbered store es, found_now store es writes.why_not);
        leaves = λ first before stands file image. left_by store.book book file (either_book store.journal (as_stored store.book) (as_stored book) (Err DiskFault) es writes first before stands (length es) file (rw (take_all (length es) es (omega arith)) image));
      };
    }

no_commit : (front rest : List Act) (book : Book) → front ++ Commit book ∷ rest ≡ [] → ⊥
no_commit [] rest book e = cc
no_commit (x ∷ front) rest book e = cc

behind_first : (x y : Act) (xs ys : List Act) → x ∷ xs ≡ y ∷ ys → xs ≡ ys
behind_first x y xs ys e = cc

one_numbered : (store : Stored) (book : Book) (es : List Effect) → next_generation store.journal < 2 ^ 64 → IsNumbered store (Commit book ∷ []) es
one_numbered store book es number [] rest other parts = found_now store es number
one_numbered store book es number (x ∷ front) rest other parts = absurd (no_commit front rest other (behind_first x (Commit book) (front ++ Commit other ∷ rest) [] parts))

-- a commit that stands in the store
performs_commit : (store next : Stored) (book : Book) (es : List Effect) → KeepsRules store.book → KeepsRules book → next.book ≡ book → Writes store.journal (as_stored store.book) (as_stored book) (Ok next.journal) es → Performs store (Commit book ∷ []) (Ok next) es
performs_commit store next book es old_rules rules same writes =
    let s = silent es writes.store in
    record {
      out = record {
        left = [];
        going = record { deaf = s.deaf; quiet = s.quiet; done = Commit book ∷ []; parts = refl; so_far = s.still; in_order = rw (s.still) s.hidden };
        none_left = λ e. refl;
      };
      saves = saves_book store book (Ok next.journal) es writes;
      leaves = (same, λ first before stands. rw same (writes.turn first before stands));
      counts = record { at_least = writes.raised.at_least; at_most = writes.raised.at_most };
      opens = writes.opens;
      worn = λ e. absurd cc;
      numbered = one_numbered store book es writes.numbered;
      settles = λ not. writes.settles (λ e. absurd cc);
      writes = λ order. book_written store.journal next.journal store.book book es s.still (silent_store es writes.store) (writes.commits (stored_order store.book book old_rules rules (order.0.order old_rules rules)));
      stopped = tt;
    }

-- a commit that found no generation left
performs_worn : (store : Stored) (book : Book) → next_generation store.journal ≡ 2 ^ 64 → Performs store (Commit book ∷ []) (Err Worn) []
performs_worn store book last = record {
  out = record { left = Commit book ∷ []; going = still (Commit book ∷ []); none_left = λ e. absurd (false≢true e) };
  saves = saved_still store (Commit book ∷ []);
  leaves = tt;
  counts = tt;
  opens = tt;
  worn = λ e. record {
    front = [];
    rest = [];
    book = book;
    parts = refl;
    same = refl;
    now = store;
    leaves = (refl, λ first before stands. rw (append-nil before) stands);
    last = last;
    raised = record { at_least = omega arith; at_most = omega arith };
  };
  numbered = tt;
  settles = λ not. settle_none;
  writes = λ order. none_written store.journal store.book (Commit book ∷ []);
  stopped = record {
    front = [];
    rest = Commit book ∷ [];
    parts = refl;
    same = refl;
    at = refl;
    opens = inr refl;
    numbers = (none_numbered store [], record { at_least = omega (arith, last); at_most = omega (arith, last) });
    leaves = λ first before stands file image. inl (stands.images file (rw (append-nil before) at image)).recovers;
  };
}

-- Calls of the disk, whether the world tells its effects or not

pub told_commit : (store next : Stored) (book : Book) (old new : Option (List Effect)) → KeepsRules store.book → KeepsRules book → next.book ≡ book → Added old new (Writes store.journal (as_stored store.book) (as_stored book) (Ok next.journal)) → Added old new (Performs store (Commit book ∷ []) (Ok next))
told_commit store next book old new old_rules rules same did = record { effects = did.effects; added = did.added; holds = performs_commit store next book did.effects old_rules rules same did.holds }

pub told_uncommitted : (store : Stored) (book : Book) (fault : StoreFault) (old new : Option (List Effect)) → KeepsRules store.book → KeepsRules book → Added old new (Writes store.journal (as_stored store.book) (as_stored book) (Err fault)) → Added old new (Performs store (Commit book ∷ []) (Err (commit_halt_of fault)))
told_uncommitted store book (WrongSize size) old new old_rules rules did = absurd did.holds.why_not
told_uncommitted store book (Damaged at) old new old_rules rules did = absurd did.holds.why_not
told_uncommitted store book DiskFault old new old_rules rules did = record { effects = did.effects; added = did.added; holds = performs_refused store book did.effects old_rules rules did.holds }
told_uncommitted store book IsWorn old new old_rules rules did = record { effects = []; added = did.added ∙ ap (adds old) did.holds.why_not.0; holds = performs_worn store book did.holds.why_not.1 }
told_uncommitted store book NoMemory old new old_rules rules did = record { effects = []; added = did.added ∙ ap (adds old) did.holds.why_not; holds = performs_none store (Commit book ∷ []) WantsMemory tt refl tt (none_numbered store []) }
