-- Acts that are done one after another: what was done, and what the store has at each point.
use Rattle.std.proofs.Common.{◌≡◌, ◌⊎◌, inl, inr, arith, ℕ, ◌+◌, ◌<◌, ◌^◌, zero, suc, Bool, true, false, IsTrue, List, [], ◌∷◌, ◌++◌, take, Option, Result, Ok, Err, IfErr, IfOk, IsErrOf, is_ok, refl, sym, ◌∙◌, ap, subst, append_assoc}
use Rattle.std.proofs.lemmas.List.{append-nil}
use Rattle.std.proofs.lemmas.Bool.{false≢true}
use Rattle.std.proofs.lemmas.Grind.{flat_map-append}
use Rattle.sm_world.specs.Crash.{Image, LeavesStore}
use Rattle.sm_world.specs.Effects.{Deed, deed_of, deeds}
use Rattle.sm_world.specs.Outside.{Added, adds, on_ok}
use Rattle.owned_lists.specs.declared.commands.Command.{Command}
use Rattle.sm_world.specs.declared.effects.Effect.{Effect}
use Rattle.sm_world.specs.declared.effects.Effect.TheVariants.{Heard, Sent, Shut, Started, Wrote, Torn, Synced, SyncFailed, Published, Printed}
use Rattle.sm_world.proofs.Adding.{adds-adds, adds-none}
use Rattle.sm_world.proofs.Cells.{quiet_cells, same_images}
use Rattle.book_order.specs.Order.{InOrder}
use Rattle.checkpoint_records.specs.declared.records.Book.{Book}
use Rattle.checkpoint_slots.specs.Recovery.{Recovers}
use Rattle.checkpoint_slots.specs.Turns.{SteadyStands, next_generation, opened_by, opened_in}
use Rattle.checkpoint_slots.specs.declared.turn.Current.{Current}
use Rattle.checkpoint_journal.proofs.Swapping.{fronts_two, opened_in-append}
use Rattle.session_engine.specs.Acts.{acts_for, acts_for_all, book_after, book_with, books_in, commits_in, deed_in, deeds_in}
use Rattle.session_engine.specs.Causes.{IsNotWorn, fault_of}
use Rattle.session_engine.specs.Commits.{HasWritten, is_of_disk, of_store}
use Rattle.session_engine.specs.Doing.{CarriesOut, Going}
use Rattle.session_engine.specs.Saved.{IsSaved, Performs, Saves, WearsOut, WritesActs}
use Rattle.session_engine.specs.Store.{IsRaised, Leaves, Stored, store_of}
use Rattle.session_engine.specs.Stops.{HasFound, HasNumbers, HasOpened, IsLeft, IsNumbered, IsRefused, NextIs, Stops, is_commit, is_of_links, is_print}
use Rattle.session_engine.specs.Starting.{Launches, handed_on}
use Rattle.session_engine.specs.declared.acts.Act.{Act}
use Rattle.session_model.specs.declared.events.Act.{Act as SessionAct}
use Rattle.session_model.specs.declared.events.Reason.{Reason}
use Rattle.session_engine.specs.declared.acts.Act.TheVariants.{Commit, Finish, Print, Say, Shut as ShutsConn, Start}
use Rattle.session_engine.specs.declared.fault.ServeFault.{ServeFault}
use Rattle.session_engine.specs.declared.fault.ServeFault.TheVariants.{Damaged, WrongSize, TooManySessions, DiskFault, LinkFault, ConsoleFault, Spent, Worn as WornFault, NoMemory as MemoryFault}
use Rattle.session_engine.specs.declared.fault.Halt.{Halt}
use Rattle.session_engine.specs.declared.fault.Halt.TheVariants.{Links, Console, Disk, Worn, NoMemory}
use Rattle.session_engine.proofs.Adding.{IsDoneBy, going_on, one_going, still}
use Rattle.session_engine.proofs.Committing.{all_then, deed_written, none_written, nothing_written, order_two, written_before, written_then}
use Rattle.session_engine.proofs.Settling.{settle_none, settle_quiet, settle_then}
use Rattle.session_engine.proofs.Writing.{take_nothing}
use Rattle.session_engine.specs.Standing.{as_stored}

pub book_after-append : (b : Book) (xs ys : List Act) → book_after b (xs ++ ys) ≡ book_after (book_after b xs) ys
book_after-append b [] ys = refl
book_after-append b (x ∷ xs) ys = book_after-append (book_with b x) xs ys

pub commits_in-append : (xs ys : List Act) → commits_in (xs ++ ys) ≡ commits_in xs + commits_in ys
commits_in-append [] ys = omega arith
commits_in-append (x ∷ xs) ys = omega (arith, commits_in-append xs ys)

-- an effect that leaves the store opens no gate
unopened : (effect : Effect) → LeavesStore effect → opened_by effect ≡ 0
unopened (Heard event) leaves = refl
unopened (Sent conn bytes) leaves = refl
unopened (Shut conn) leaves = refl
unopened (Started command succeeded) leaves = refl
unopened (Wrote at bytes) leaves = absurd leaves
unopened (Torn at n) leaves = refl
unopened Synced leaves = refl
unopened SyncFailed leaves = refl
unopened (Published path bytes) leaves = refl
unopened (Printed text) leaves = refl

-- A front of the first acts is one of all.
pub saved_before : (b : Book) (xs ys : List Act) (done : List Deed) (file : List ℕ) → IsSaved b xs done file → IsSaved b (xs ++ ys) done file
saved_before b xs ys done file saved = record {
  front = saved.front;
  rest = saved.rest ++ ys;
  parts = sym (append_assoc saved.front saved.rest ys) ∙ ap (λ zs. zs ++ ys) saved.parts;
  same = saved.same;
  recovers = saved.recovers;
}

-- A front of the later acts, over the checkpoint that the first ones left, is one of all.
pub saved_behind : (b : Book) (xs ys : List Act) (done : List Deed) (file : List ℕ) → IsSaved (book_after b xs) ys done file → IsSaved b (xs ++ ys) (deeds_in xs ++ done) file
saved_behind b xs ys done file saved = record {
  front = xs ++ saved.front;
  rest = saved.rest;
  parts = append_assoc xs saved.front saved.rest ∙ ap (λ zs. xs ++ zs) saved.parts;
  same = flat_map-append deed_in xs saved.front ∙ ap (λ ds. deeds_in xs ++ ds) saved.same;
  recovers = rw (book_after-append b xs saved.front) saved.recovers;
}

pub ok_map : {A E : Type 0} (P Q : A → Type 0) (r : Result A E) → ((x : A) → P x → Q x) → IfOk r P → IfOk r Q
ok_map P Q (Ok x) f p = f x p
ok_map P Q (Err e) f p = p

-- all of the acts was done
pub whole_done : (acts : List Act) (es : List Effect) → CarriesOut acts true es → deeds es ≡ deeds_in acts
whole_done acts es out =
    out.going.so_far ∙ ap deeds_in (sym (append-nil out.going.done) ∙ (ap (λ xs. out.going.done ++ xs) (sym (out.none_left refl)) ∙ out.going.parts))

pub out_then : (xs ys : List Act) (whole : Bool) (es ds : List Effect) → CarriesOut xs true es → CarriesOut ys whole ds → CarriesOut (xs ++ ys) whole (es ++ ds)
out_then xs ys whole es ds one two =
    let all : Going (xs ++ ys) (ys ++ []) es = record {
      deaf = one.going.deaf;
      quiet = one.going.quiet;
      done = one.going.done;
      parts = ap (λ zs. one.going.done ++ zs) (append-nil ys) ∙ ap (λ zs. zs ++ ys) (sym (append-nil one.going.done) ∙ (ap (λ zs. one.going.done ++ zs) (sym (one.none_left refl)) ∙ one.going.parts));
      so_far = one.going.so_far;
      in_order = one.going.in_order;
    } in
    record {
      left = two.left;
      going = rw (append-nil two.left) at (going_on (xs ++ ys) ys [] two.left es ds all two.going);
      none_left = two.none_left;
    }

pub out_stopped : (xs ys : List Act) (es : List Effect) → CarriesOut xs false es → CarriesOut (xs ++ ys) false es
out_stopped xs ys es out = record {
  left = out.left ++ ys;
  going = record {
    deaf = out.going.deaf;
    quiet = out.going.quiet;
    done = out.going.done;
    parts = sym (append_assoc out.going.done out.left ys) ∙ ap (λ zs. zs ++ ys) out.going.parts;
    so_far = out.going.so_far;
    in_order = out.going.in_order;
  };
  none_left = λ e. absurd (false≢true e);
}

-- the turn behind acts, and behind others
leaves_then : (store next last : Stored) (xs ys : List Act) (es ds : List Effect) → Leaves store xs es next → Leaves next ys ds last → Leaves store (xs ++ ys) (es ++ ds) last
leaves_then store next last xs ys es ds one two = (
  two.0 ∙ (ap (λ b. book_after b ys) one.0 ∙ sym (book_after-append store.book xs ys)),
  λ first before stands. rw (sym (append_assoc before es ds)) (two.1 first (before ++ es) (one.1 first before stands)),
)

pub raised_then : (n middle last : ℕ) (xs ys : List Act) → IsRaised (commits_in xs) n middle → IsRaised (commits_in ys) middle last → IsRaised (commits_in (xs ++ ys)) n last
raised_then n middle last xs ys one two = record {
  at_least = omega (arith, one.at_least, two.at_least);
  at_most = omega (arith, one.at_most, two.at_most, commits_in-append xs ys);
}

-- the store wears out behind other acts
worn_behind : (store next : Stored) (xs ys : List Act) (es ds : List Effect) → deeds es ≡ deeds_in xs → Leaves store xs es next → IsRaised (commits_in xs) (next_generation store.journal) (next_generation next.journal) → WearsOut next ys ds → WearsOut store (xs ++ ys) (es ++ ds)
worn_behind store next xs ys es ds done leaves raised worn = record {
  front = xs ++ worn.front;
  rest = worn.rest;
  book = worn.book;
  parts = append_assoc xs worn.front (Commit worn.book ∷ worn.rest) ∙ ap (λ zs. xs ++ zs) worn.parts;
  same = flat_map-append deed_of es ds ∙ (ap (λ zs. zs ++ deeds ds) done ∙ (ap (λ zs. deeds_in xs ++ zs) worn.same ∙ sym (flat_map-append deed_in xs worn.front)));
  now = worn.now;
  leaves = leaves_then store next worn.now xs worn.front es ds leaves worn.leaves;
  last = worn.last;
  raised = raised_then (next_generation store.journal) (next_generation next.journal) (next_generation worn.now.journal) xs worn.front raised worn.raised;
}

worn_before : (store : Stored) (xs ys : List Act) (es : List Effect) → WearsOut store xs es → WearsOut store (xs ++ ys) es
worn_before store xs ys es worn = record {
  front = worn.front;
  rest = worn.rest ++ ys;
  book = worn.book;
  parts = sym (append_assoc worn.front (Commit worn.book ∷ worn.rest) ys) ∙ ap (λ zs. zs ++ ys) worn.parts;
  same = worn.same;
  now = worn.now;
  leaves = worn.leaves;
  last = worn.last;
  raised = worn.raised;
}

-- Where acts stop

pub err_map : {A E : Type 0} (P Q : E → Type 0) (r : Result A E) → ((e : E) → P e → Q e) → IfErr r P → IfErr r Q
err_map P Q (Ok x) f p = p
err_map P Q (Err e) f p = f e p

next_more : (is : Act → Bool) (xs ys : List Act) → NextIs is xs → NextIs is (xs ++ ys)
next_more is [] ys next = absurd next
next_more is (x ∷ xs) ys next = next

first_more : (is : Act → Bool) (xs ys : List Act) → NextIs is xs → take 1 (xs ++ ys) ≡ take 1 xs
first_more is [] ys next = absurd next
first_more is (x ∷ xs) ys next = refl

refused_more : (halt : Halt) (xs ys : List Act) → IsRefused halt xs → IsRefused halt (xs ++ ys)
refused_more Links xs ys next = next_more is_of_links xs ys next
refused_more Console xs ys next = next_more is_print xs ys next
refused_more Disk xs ys next = next_more is_commit xs ys next
refused_more Worn xs ys next = next_more is_commit xs ys next
refused_more NoMemory xs ys next = tt

-- only a commit is refused by the disk
disk_next : (halt : Halt) (xs : List Act) → fault_of halt ≡ DiskFault → IsRefused halt xs → NextIs is_commit xs
disk_next Links xs e next = absurd cc
disk_next Console xs e next = absurd cc
disk_next Disk xs e next = next
disk_next Worn xs e next = absurd cc
disk_next NoMemory xs e next = absurd cc

left_more : (halt : Halt) (b : Book) (front rest ys : List Act) (file : List ℕ) → IsRefused halt rest → IsLeft (fault_of halt) b front rest file → IsLeft (fault_of halt) b front (rest ++ ys) file
left_more halt b front rest ys file refused (inl recovers) = inl recovers
left_more halt b front rest ys file refused (inr torn) =
    inr (torn.0, subst (λ (xs : List Act). Recovers file (Ok (as_stored (book_after b (front ++ xs))))) (sym (first_more is_commit rest ys (disk_next halt rest torn.0 refused))) torn.1)

left_behind : (fault : ServeFault) (b : Book) (xs front rest : List Act) (file : List ℕ) → IsLeft fault (book_after b xs) front rest file → IsLeft fault b (xs ++ front) rest file
left_behind fault b xs front rest file (inl recovers) = inl (rw (book_after-append b xs front) recovers)
left_behind fault b xs front rest file (inr torn) = inr (torn.0, rw (append_assoc xs front (take 1 rest), book_after-append b xs (front ++ take 1 rest)) torn.1)

-- A commit has its place in one of two lists of acts.

same_head : (x y : Act) (xs ys : List Act) → x ∷ xs ≡ y ∷ ys → x ≡ y
same_head x y xs ys e = cc

same_tail : (x y : Act) (xs ys : List Act) → x ∷ xs ≡ y ∷ ys → xs ≡ ys
same_tail x y xs ys e = cc

same_both : (x y : Act) (xs ys : List Act) → x ≡ y → xs ≡ ys → x ∷ xs ≡ y ∷ ys
same_both x y xs ys one two = cc

split_at : (front rest xs ys : List Act) (book : Book) → front ++ Commit book ∷ rest ≡ xs ++ ys → ((more : List Act) × (front ++ Commit book ∷ more ≡ xs)) ⊎ ((behind : List Act) × (front ≡ xs ++ behind) × (behind ++ Commit book ∷ rest ≡ ys))
split_at [] rest [] ys book e = inr ([], refl, e)
split_at [] rest (x ∷ xs) ys book e = inl (xs, same_both (Commit book) x xs xs (same_head (Commit book) x rest (xs ++ ys) e) refl)
split_at (f ∷ front) rest [] ys book e = inr (f ∷ front, refl, e)
split_at (f ∷ front) rest (x ∷ xs) ys book e =
    let head : f ≡ x = same_head f x (front ++ Commit book ∷ rest) (xs ++ ys) e in
    elim (split_at front rest xs ys book (same_tail f x (front ++ Commit book ∷ rest) (xs ++ ys) e)) [
      | inl h ↦ inl (h.0, same_both f x (front ++ Commit book ∷ h.0) xs head h.1)
      | inr h ↦ inr (h.0, same_both f x front (xs ++ h.0) head h.1, h.2)
    ]

pub found_more : (store : Stored) (front : List Act) (es ds : List Effect) → HasFound store front es → HasFound store front (es ++ ds)
found_more store front es ds found = record {
  done = found.done;
  left = found.left ++ ds;
  parts = sym (append_assoc found.done found.left ds) ∙ ap (λ zs. zs ++ ds) found.parts;
  now = found.now;
  leaves = found.leaves;
  number = found.number;
}

found_behind : (store next : Stored) (xs front : List Act) (es ds : List Effect) → Leaves store xs es next → HasFound next front ds → HasFound store (xs ++ front) (es ++ ds)
found_behind store next xs front es ds leaves found = record {
  done = es ++ found.done;
  left = found.left;
  parts = append_assoc es found.done found.left ∙ ap (λ zs. es ++ zs) found.parts;
  now = found.now;
  leaves = leaves_then store next found.now xs front es found.done leaves found.leaves;
  number = found.number;
}

pub found_now : (store : Stored) (es : List Effect) → next_generation store.journal < 2 ^ 64 → HasFound store [] es
found_now store es number = record { done = []; left = es; parts = refl; now = store; leaves = (refl, λ first before stands. rw (append-nil before) stands); number = number }

-- where nothing is committed
numbered_none : (store : Stored) (acts : List Act) (es : List Effect) → commits_in acts ≡ 0 → IsNumbered store acts es
numbered_none store acts es none front rest book parts = absurd (omega (arith, none, ap commits_in parts, commits_in-append front (Commit book ∷ rest)))

pub numbered_then : (store next : Stored) (xs ys : List Act) (es ds : List Effect) → Leaves store xs es next → IsNumbered store xs es → IsNumbered next ys ds → IsNumbered store (xs ++ ys) (es ++ ds)
numbered_then store next xs ys es ds leaves one two front rest book parts = elim (split_at front rest xs ys book parts) [
  | inl h ↦ found_more store front es ds (one front h.0 book h.1)
  | inr h ↦ subst (λ (zs : List Act). HasFound store zs (es ++ ds)) (sym h.1) (found_behind store next xs h.0 es ds leaves (two h.0 rest book h.2))
]

numbers_behind : (fault : ServeFault) (store next : Stored) (xs ys : List Act) (es ds : List Effect) → Leaves store xs es next → IsRaised (commits_in xs) (next_generation store.journal) (next_generation next.journal) → IsNumbered store xs es → HasNumbers next fault ys ds → HasNumbers store fault (xs ++ ys) (es ++ ds)
numbers_behind (Damaged at) store next xs ys es ds leaves raised one two = numbered_then store next xs ys es ds leaves one two
numbers_behind (WrongSize size) store next xs ys es ds leaves raised one two = numbered_then store next xs ys es ds leaves one two
numbers_behind TooManySessions store next xs ys es ds leaves raised one two = numbered_then store next xs ys es ds leaves one two
numbers_behind DiskFault store next xs ys es ds leaves raised one two = (numbered_then store next xs ys es ds leaves one two.0, found_behind store next xs ys es ds leaves two.1)
numbers_behind LinkFault store next xs ys es ds leaves raised one two = numbered_then store next xs ys es ds leaves one two
numbers_behind ConsoleFault store next xs ys es ds leaves raised one two = numbered_then store next xs ys es ds leaves one two
numbers_behind WornFault store next xs ys es ds leaves raised one two = (
  numbered_then store next xs ys es ds leaves one two.0,
  raised_then (next_generation store.journal) (next_generation next.journal) (2 ^ 64) xs ys raised two.1,
)
numbers_behind Spent store next xs ys es ds leaves raised one two = numbered_then store next xs ys es ds leaves one two
numbers_behind MemoryFault store next xs ys es ds leaves raised one two = numbered_then store next xs ys es ds leaves one two

opened_behind : (fault : ServeFault) (xs front : List Act) (es ds : List Effect) → opened_in es ≡ commits_in xs → HasOpened fault front ds → HasOpened fault (xs ++ front) (es ++ ds)
opened_behind fault xs front es ds one (inl disk) = inl disk
opened_behind fault xs front es ds one (inr two) = inr (omega (arith, one, two, opened_in-append es ds, commits_in-append xs front))

-- what stops acts stops them before others too
stops_before : (current : Option Current) (b : Book) (xs ys : List Act) (halt : Halt) (es : List Effect) → Stops current b xs (fault_of halt) (IsRefused halt) es → Stops current b (xs ++ ys) (fault_of halt) (IsRefused halt) es
stops_before current b xs ys halt es stops = record {
  front = stops.front;
  rest = stops.rest ++ ys;
  parts = sym (append_assoc stops.front stops.rest ys) ∙ ap (λ zs. zs ++ ys) stops.parts;
  same = stops.same;
  at = refused_more halt stops.rest ys stops.at;
  opens = stops.opens;
  numbers = stops.numbers;
  leaves = λ first before stands file image. left_more halt b stops.front stops.rest ys file stops.at (stops.leaves first before stands file image);
}

-- and behind others that were done
pub stops_behind : (current next : Option Current) (b : Book) (xs ys : List Act) (fault : ServeFault) (At : List Act → Type 0) (es ds : List Effect) → deeds es ≡ deeds_in xs → IsRaised (commits_in xs) (next_generation current) (next_generation next) → opened_in es ≡ commits_in xs → IsNumbered (store_of current b) xs es
    → ((first : List ℕ) (before : List Effect) → SteadyStands current (as_stored b) first before → SteadyStands next (as_stored (book_after b xs)) first (before ++ es)) → Stops next (book_after b xs) ys fault At ds → Stops current b (xs ++ ys) fault At (es ++ ds)
stops_behind current next b xs ys fault At es ds done raised opened numbered leaves stops = record {
  front = xs ++ stops.front;
  rest = stops.rest;
  parts = append_assoc xs stops.front stops.rest ∙ ap (λ zs. xs ++ zs) stops.parts;
  same = flat_map-append deed_of es ds ∙ (ap (λ zs. zs ++ deeds ds) done ∙ (ap (λ zs. deeds_in xs ++ zs) stops.same ∙ sym (flat_map-append deed_in xs stops.front)));
  at = stops.at;
  opens = opened_behind fault xs stops.front es ds opened stops.opens;
  numbers = numbers_behind fault (store_of current b) (store_of next (book_after b xs)) xs stops.front es ds (refl, leaves) raised numbered stops.numbers;
  leaves = λ first before stands file image. left_behind fault b xs stops.front stops.rest file (stops.leaves first (before ++ es) (leaves first before stands) file (rw (sym (append_assoc before es ds)) at image));
}

-- what is written of acts that were all done, and then of others
writes_then : (store next : Stored) (xs ys : List Act) (answer : Result Stored Halt) (es ds : List Effect) → next.book ≡ book_after store.book xs → WritesActs store xs (Ok next) es → WritesActs next ys answer ds → WritesActs store (xs ++ ys) answer (es ++ ds)
writes_then store next xs ys (Ok last) es ds same one two = all_then store.journal next.journal last.journal store.book xs ys es ds one (rw same at two)
writes_then store next xs ys (Err halt) es ds same one two = written_then store.journal next.journal store.book xs ys false (is_of_disk halt) es ds one (rw same at two)

-- acts that were all done, and then others
pub performs_then : (store next : Stored) (xs ys : List Act) (answer : Result Stored Halt) (es ds : List Effect) → Performs store xs (Ok next) es → Performs next ys answer ds → Performs store (xs ++ ys) answer (es ++ ds)
performs_then store next xs ys answer es ds one two =
    let done : deeds es ≡ deeds_in xs = whole_done xs es one.out in
    record {
      out = out_then xs ys (is_ok answer) es ds one.out two.out;
      saves = λ first before stands. fronts_two (λ zs. (file : List ℕ) → Image first (before ++ zs) file → IsSaved store.book (xs ++ ys) (deeds zs) file) es ds
          (λ n file image. saved_before store.book xs ys (deeds (take n es)) file (one.saves first before stands n file image))
          (λ n file image.
          let later = two.saves first (before ++ es) (one.leaves.1 first before stands) n file (rw (sym (append_assoc before es (take n ds))) at image) in
          rw (flat_map-append deed_of es (take n ds), done) (saved_behind store.book xs ys (deeds (take n ds)) file (rw one.leaves.0 at later)));
      leaves = ok_map (Leaves next ys ds) (Leaves store (xs ++ ys) (es ++ ds)) answer (λ last leaves. leaves_then store next last xs ys es ds one.leaves leaves) two.leaves;
      counts = ok_map (λ last. IsRaised (commits_in ys) (next_generation next.journal) (next_generation last.journal)) (λ last. IsRaised (commits_in (xs ++ ys)) (next_generation store.journal) (next_generation last.journal)) answer (λ last raised.
          raised_then (next_generation store.journal) (next_generation next.journal) (next_generation last.journal) xs ys one.counts raised) two.counts;
      opens = ok_map (λ last. opened_in ds ≡ commits_in ys) (λ last. opened_in (es ++ ds) ≡ commits_in (xs ++ ys)) answer (λ last opens.
          omega (arith, opens, one.opens, opened_in-append es ds, commits_in-append xs ys)) two.opens;
      worn = λ e. worn_behind store next xs ys es ds done one.leaves one.counts (two.worn e);
      numbered = ok_map (λ last. IsNumbered next ys ds) (λ last. IsNumbered store (xs ++ ys) (es ++ ds)) answer (λ last numbered. numbered_then store next xs ys es ds one.leaves one.numbered numbered) two.numbered;
      settles = λ not. settle_then es ds (one.settles (λ e. absurd cc)) (two.settles not);
      writes = λ order. let parts = order_two store.book xs ys order in
          writes_then store next xs ys answer es ds one.leaves.0 (one.writes parts.0) (two.writes (subst (λ (b : Book). InOrder b (books_in ys)) (sym one.leaves.0) parts.1));
      stopped = err_map (λ halt. Stops next.journal next.book ys (fault_of halt) (IsRefused halt) ds) (λ halt. Stops store.journal store.book (xs ++ ys) (fault_of halt) (IsRefused halt) (es ++ ds)) answer (λ halt stops.
          stops_behind store.journal next.journal store.book xs ys (fault_of halt) (IsRefused halt) es ds done one.counts one.opens one.numbered (λ first before stands. rw one.leaves.0 at (one.leaves.1 first before stands)) (rw one.leaves.0 at stops)) two.stopped;
    }

-- acts of which one was refused, and others behind them
pub performs_stopped : (store : Stored) (xs ys : List Act) (halt : Halt) (es : List Effect) → Performs store xs (Err halt) es → Performs store (xs ++ ys) (Err halt) es
performs_stopped store xs ys halt es one = record {
  out = out_stopped xs ys es one.out;
  saves = λ first before stands n file image. saved_before store.book xs ys (deeds (take n es)) file (one.saves first before stands n file image);
  leaves = tt;
  counts = tt;
  opens = tt;
  worn = λ e. worn_before store xs ys es (one.worn e);
  numbered = tt;
  settles = one.settles;
  writes = λ order. written_before store.journal store.book xs ys (is_of_disk halt) es (one.writes (order_two store.book xs ys order).0);
  stopped = stops_before store.journal store.book xs ys halt es one.stopped;
}

-- at no effect the store has what it had
pub saved_still : (store : Stored) (acts : List Act) → Saves store acts []
saved_still store acts first before stands n file image =
    let here : Image first before file = rw (take_nothing {A = Effect} n, append-nil before) at image in
    rw (take_nothing {A = Effect} n) (record { front = []; rest = acts; parts = refl; same = refl; recovers = (stands.images file here).recovers })

not_worn : (halt : Halt) → IsNotWorn {A = Stored} (Err halt) → IsErrOf {T = Stored} (Err halt) Worn → ⊥
not_worn Links able e = cc
not_worn Console able e = cc
not_worn Disk able e = cc
not_worn Worn able e = able
not_worn NoMemory able e = cc

-- at first there is nothing to be numbered
pub none_numbered : (store : Stored) (es : List Effect) → IsNumbered store [] es
none_numbered store es = numbered_none store [] es refl

-- a commit counts as one
commit_counts : (act : Act) → IsTrue (is_commit act) → commits_in (act ∷ []) ≡ 1
commit_counts (Say conn message) is = absurd (false≢true is)
commit_counts (ShutsConn conn) is = absurd (false≢true is)
commit_counts (Start reason command) is = absurd (false≢true is)
commit_counts (Commit book) is = refl
commit_counts (Print text) is = absurd (false≢true is)
commit_counts Finish is = absurd (false≢true is)

-- the disk neither fails nor is worn at an act that is no commit
deed_able : (halt : Halt) (act : Act) → commits_in (act ∷ []) ≡ 0 → IsRefused halt (act ∷ []) → IsNotWorn {A = Stored} (Err halt)
deed_able Links act none refused = tt
deed_able Console act none refused = tt
deed_able Disk act none refused = tt
deed_able Worn act none refused = absurd (omega (arith, none, commit_counts act refused))
deed_able NoMemory act none refused = tt

deed_numbers : (store : Stored) (halt : Halt) (act : Act) → commits_in (act ∷ []) ≡ 0 → IsRefused halt (act ∷ []) → HasNumbers store (fault_of halt) [] []
deed_numbers store Links act none refused = none_numbered store []
deed_numbers store Console act none refused = none_numbered store []
deed_numbers store Disk act none refused = absurd (omega (arith, none, commit_counts act refused))
deed_numbers store Worn act none refused = absurd (omega (arith, none, commit_counts act refused))
deed_numbers store NoMemory act none refused = none_numbered store []

deed_undisturbed : (halt : Halt) (act : Act) → commits_in (act ∷ []) ≡ 0 → IsRefused halt (act ∷ []) → is_of_disk halt ≡ false
deed_undisturbed Links act none refused = refl
deed_undisturbed Console act none refused = refl
deed_undisturbed Disk act none refused = absurd (omega (arith, none, commit_counts act refused))
deed_undisturbed Worn act none refused = refl
deed_undisturbed NoMemory act none refused = refl

-- nothing was done, for another cause than a worn store or the disk
pub performs_none : (store : Stored) (acts : List Act) (halt : Halt) → IsNotWorn {A = Stored} (Err halt) → is_of_disk halt ≡ false → IsRefused halt acts → HasNumbers store (fault_of halt) [] [] → Performs store acts (Err halt) []
performs_none store acts halt able calm refused numbers = record {
  out = record { left = acts; going = still acts; none_left = λ e. absurd (false≢true e) };
  saves = saved_still store acts;
  leaves = tt;
  counts = tt;
  opens = tt;
  worn = λ e. absurd (not_worn halt able e);
  numbered = tt;
  settles = λ not. settle_none;
  writes = λ order. subst (λ (failed : Bool). HasWritten store.journal store.book acts false failed []) (sym calm) (none_written store.journal store.book acts);
  stopped = record {
    front = [];
    rest = acts;
    parts = refl;
    same = refl;
    at = refused;
    opens = inr refl;
    numbers = numbers;
    leaves = λ first before stands file image. inl (stands.images file (rw (append-nil before) at image)).recovers;
  };
}

-- nothing had to be done
pub performs_nothing : (store : Stored) → Performs store [] (Ok store) []
performs_nothing store = record {
  out = record { left = []; going = still []; none_left = λ e. refl };
  saves = saved_still store [];
  leaves = (refl, λ first before stands. rw (append-nil before) stands);
  counts = record { at_least = omega arith; at_most = omega arith };
  opens = refl;
  worn = λ e. absurd cc;
  numbered = none_numbered store [];
  settles = λ not. settle_none;
  writes = λ order. nothing_written store.journal store.book;
  stopped = tt;
}

-- An effect that leaves the store leaves what its turn stands for.
pub stands_quiet : (current : Option Current) (book : Book) (first : List ℕ) (before : List Effect) (effect : Effect) → LeavesStore effect → SteadyStands current book first before → SteadyStands current book first (before ++ effect ∷ [])
stands_quiet current book first before effect leaves stands =
    let same = quiet_cells first before effect leaves in
    record {
      size = stands.size;
      calm = λ i within byte readable. rw (same.left i byte within) (stands.calm i within byte (rw (same.reads i within) at readable));
      images = λ file image. stands.images file ((same_images first (before ++ effect ∷ []) first before same file).0 image);
    }

-- an act that a device does by one effect, which isn't the store's
pub record IsDeed (effect : Effect) (act : Act) : Type 0 where
  pub done : IsDoneBy effect act
  pub quiet : LeavesStore effect
  pub keeps : (book : Book) → book_with book act ≡ book
  pub uncounted : commits_in (act ∷ []) ≡ 0
  pub unstored : of_store effect ≡ []

one_front : (effect : Effect) (n : ℕ) (P : List Effect → Type 0) → P [] → P (effect ∷ []) → P (take n (effect ∷ []))
one_front effect zero P none one = none
one_front effect (suc n) P none one = rw (take_nothing {A = Effect} n) one

pub performs_deed : (store : Stored) (effect : Effect) (act : Act) → IsDeed effect act → Performs store (act ∷ []) (Ok store) (effect ∷ [])
performs_deed store effect act deed = record {
  out = record { left = []; going = one_going effect act deed.done; none_left = λ e. refl };
  saves = λ first before stands n. one_front effect n (λ zs. (file : List ℕ) → Image first (before ++ zs) file → IsSaved store.book (act ∷ []) (deeds zs) file)
      (λ file image. record { front = []; rest = act ∷ []; parts = refl; same = refl; recovers = (stands.images file (rw (append-nil before) at image)).recovers })
      (λ file image. record {
        front = act ∷ [];
        rest = [];
        parts = refl;
        same = rw deed.done.does refl;
        recovers = rw (deed.keeps store.book) ((stands_quiet store.journal (as_stored store.book) first before effect deed.quiet stands).images file image).recovers;
      });
  leaves = (sym (deed.keeps store.book), λ first before stands. stands_quiet store.journal (as_stored store.book) first before effect deed.quiet stands);
  counts = record { at_least = omega arith; at_most = omega arith };
  opens = omega (arith, unopened effect deed.quiet, deed.uncounted);
  worn = λ e. absurd cc;
  numbered = numbered_none store (act ∷ []) (effect ∷ []) deed.uncounted;
  settles = λ not. settle_quiet effect deed.quiet;
  writes = λ order. deed_written store.journal store.book act (effect ∷ []) deed.uncounted (rw deed.done.does refl) (ap (λ (es : List Effect). es ++ []) deed.unstored);
  stopped = tt;
}

-- the end of the run is nothing that a device does
pub performs_finish : (store : Stored) → Performs store (Finish ∷ []) (Ok store) []
performs_finish store = record {
  out = record { left = []; going = record { deaf = refl; quiet = refl; done = Finish ∷ []; parts = refl; so_far = refl; in_order = refl }; none_left = λ e. refl };
  saves = saved_still store (Finish ∷ []);
  leaves = (refl, λ first before stands. rw (append-nil before) stands);
  counts = record { at_least = omega arith; at_most = omega arith };
  opens = refl;
  worn = λ e. absurd cc;
  numbered = numbered_none store (Finish ∷ []) [] refl;
  settles = λ not. settle_none;
  writes = λ order. deed_written store.journal store.book Finish [] refl refl refl;
  stopped = tt;
}

-- Calls, whether the world tells its effects or not

-- one call of a device that isn't the store: at a refusal nothing was done
pub told_deed : (store : Stored) (effect : Effect) (act : Act) → IsDeed effect act → (old new : Option (List Effect)) (result : Result (Unit {0}) Halt) → IfErr result (λ halt. IsRefused halt (act ∷ [])) → new ≡ adds old (on_ok result (effect ∷ [])) → Added old new (Performs store (act ∷ []) (handed_on store result))
told_deed store effect act deed old new (Ok x) able added = record { effects = effect ∷ []; added = added; holds = performs_deed store effect act deed }
told_deed store effect act deed old new (Err halt) able added = record { effects = []; added = added; holds = performs_none store (act ∷ []) halt (deed_able halt act deed.uncounted able) (deed_undisturbed halt act deed.uncounted able) able (deed_numbers store halt act deed.uncounted able) }

-- a command that was tried
pub told_start : (store : Stored) (reason : Reason) (command : Command) (old new : Option (List Effect)) (result : Result (Unit {0}) Halt) → IfErr result (λ halt. halt ≡ NoMemory) → Launches old new command result → Added old new (Performs store (Start reason command ∷ []) (handed_on store result))
told_start store reason command old new (Ok x) able launches = record {
  effects = Started command launches.0 ∷ [];
  added = launches.1;
  holds = performs_deed store (Started command launches.0) (Start reason command) (record { done = record { deaf = refl; quiet = refl; does = refl; shows = refl }; quiet = tt; keeps = λ book. refl; uncounted = refl; unstored = refl });
}
told_start store reason command old new (Err halt) able launches = record { effects = []; added = launches ∙ sym (adds-none old); holds = rw able (performs_none store (Start reason command ∷ []) NoMemory tt refl tt (none_numbered store [])) }

pub told_finish : (store : Stored) (old : Option (List Effect)) → Added old old (Performs store (Finish ∷ []) (Ok store))
told_finish store old = record { effects = []; added = sym (adds-none old); holds = performs_finish store }

pub told_nothing : (store : Stored) (old : Option (List Effect)) → Added old old (Performs store [] (Ok store))
told_nothing store old = record { effects = []; added = sym (adds-none old); holds = performs_nothing store }

-- nothing was done, for want of memory
pub told_none : (store : Stored) (acts : List Act) (old : Option (List Effect)) → Added old old (Performs store acts (Err NoMemory))
told_none store acts old = record { effects = []; added = sym (adds-none old); holds = performs_none store acts NoMemory tt refl tt (none_numbered store []) }

pub told_then : (store next : Stored) (xs ys : List Act) (answer : Result Stored Halt) (old middle new : Option (List Effect)) → Added old middle (Performs store xs (Ok next)) → Added middle new (Performs next ys answer) → Added old new (Performs store (xs ++ ys) answer)
told_then store next xs ys answer old middle new one two = record {
  effects = one.effects ++ two.effects;
  added = two.added ∙ (ap (λ t. adds t two.effects) one.added ∙ adds-adds old one.effects two.effects);
  holds = performs_then store next xs ys answer one.effects two.effects one.holds two.holds;
}

pub told_stopped : (store : Stored) (xs ys : List Act) (halt : Halt) (old new : Option (List Effect)) → Added old new (Performs store xs (Err halt)) → Added old new (Performs store (xs ++ ys) (Err halt))
told_stopped store xs ys halt old new one = record { effects = one.effects; added = one.added; holds = performs_stopped store xs ys halt one.effects one.holds }

-- one more act of the session, to the outside
pub outward_more : (done : List SessionAct) (act : SessionAct) → acts_for_all done ++ acts_for act ≡ acts_for_all (done ++ act ∷ [])
outward_more done act = ap (λ acts. acts_for_all done ++ acts) (sym (append-nil (acts_for act))) ∙ sym (flat_map-append acts_for done (act ∷ []))

-- what the session did, up to one act more
pub did_more : (store now next : Stored) (done : List SessionAct) (act : SessionAct) (old middle new : Option (List Effect)) → Added old middle (Performs store (acts_for_all done) (Ok now)) → Added middle new (Performs now (acts_for act) (Ok next)) → Added old new (Performs store (acts_for_all (done ++ act ∷ [])) (Ok next))
did_more store now next done act old middle new one two =
    subst (λ (acts : List Act). Added old new (Performs store acts (Ok next))) (outward_more done act) (told_then store now (acts_for_all done) (acts_for act) (Ok next) old middle new one two)

-- an act stops what the session did
pub did_stopped : (store now : Stored) (done : List SessionAct) (act : SessionAct) (rest : List SessionAct) (halt : Halt) (old middle new : Option (List Effect)) → Added old middle (Performs store (acts_for_all done) (Ok now)) → Added middle new (Performs now (acts_for act) (Err halt)) → Added old new (Performs store (acts_for_all (done ++ act ∷ rest)) (Err halt))
did_stopped store now done act rest halt old middle new one two =
    let all : (acts_for_all done ++ acts_for act) ++ acts_for_all rest ≡ acts_for_all (done ++ act ∷ rest) = append_assoc (acts_for_all done) (acts_for act) (acts_for_all rest) ∙ sym (flat_map-append acts_for done (act ∷ rest)) in
    subst (λ (acts : List Act). Added old new (Performs store acts (Err halt))) all (told_stopped store (acts_for_all done ++ acts_for act) (acts_for_all rest) halt old new (told_then store now (acts_for_all done) (acts_for act) (Err halt) old middle new one two))
