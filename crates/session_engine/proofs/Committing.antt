-- What commits write, put together from acts that follow one another.
use Rattle.std.proofs.Common.{◌≡◌, inr, ℕ, Bool, true, false, List, [], ◌∷◌, ◌++◌, Option, Ok, Err, refl, sym, ◌∙◌, ap, subst, append_assoc, arith}
use Rattle.std.proofs.lemmas.List.{append-nil}
use Rattle.std.proofs.lemmas.Bool.{false≢true}
use Rattle.std.proofs.lemmas.Grind.{flat_map-append}
use Rattle.sm_world.specs.Effects.{deed_of, deeds}
use Rattle.sm_world.specs.declared.effects.Effect.{Effect}
use Rattle.sm_world.specs.declared.effects.Effect.TheVariants.{Heard, Synced, Wrote}
use Rattle.sm_world.specs.declared.events.Event.{Event}
use Rattle.book_order.specs.Order.{InOrder, last_of}
use Rattle.book_order.proofs.Ordering.{order-parts}
use Rattle.checkpoint_journal.specs.Writing.{AreCut, all_put}
use Rattle.checkpoint_records.specs.declared.records.Book.{Book}
use Rattle.checkpoint_slots.specs.declared.fault.StoreFault.TheVariants.{DiskFault}
use Rattle.checkpoint_slots.specs.declared.turn.Current.{Current}
use Rattle.session_engine.specs.Acts.{book_after, book_in, books_in, commits_in, deed_in, deeds_in}
use Rattle.session_engine.specs.Commits.{AllWritten, AreCommits, DoPuts, HasWritten, WritesBook, of_store, store_effects}
use Rattle.session_engine.specs.declared.acts.Act.{Act}
use Rattle.session_engine.specs.declared.acts.Act.TheVariants.{Commit, Finish, Print, Say, Shut as ShutsConn, Start}
use Rattle.session_engine.specs.Standing.{as_stored}

-- Books

pub books_in-append : (xs ys : List Act) → books_in (xs ++ ys) ≡ books_in xs ++ books_in ys
books_in-append xs ys = flat_map-append book_in xs ys

-- the last of the books is the checkpoint behind the acts
pub last_book : (book : Book) (acts : List Act) → last_of book (books_in acts) ≡ book_after book acts
last_book book [] = refl
last_book book (Say conn message ∷ acts) = last_book book acts
last_book book (ShutsConn conn ∷ acts) = last_book book acts
last_book book (Start reason command ∷ acts) = last_book book acts
last_book book (Commit written ∷ acts) = last_book written acts
last_book book (Print text ∷ acts) = last_book book acts
last_book book (Finish ∷ acts) = last_book book acts

pub no_books : (act : Act) → commits_in (act ∷ []) ≡ 0 → books_in (act ∷ []) ≡ []
no_books (Say conn message) none = refl
no_books (ShutsConn conn) none = refl
no_books (Start reason command) none = refl
no_books (Commit book) none = absurd (omega (arith, none))
no_books (Print text) none = refl
no_books Finish none = refl

-- the order of the books of acts, and of others behind them
pub order_two : (book : Book) (xs ys : List Act) → InOrder book (books_in (xs ++ ys)) → InOrder book (books_in xs) × InOrder (book_after book xs) (books_in ys)
order_two book xs ys order =
    let parts = order-parts book (books_in xs) (books_in ys) (subst (λ (books : List Book). InOrder book books) (books_in-append xs ys) order) in
    (parts.0, subst (λ (b : Book). InOrder b (books_in ys)) (last_book book xs) parts.1)

-- Puts

all_put-append : (xs ys : List (ℕ × List ℕ)) → all_put (xs ++ ys) ≡ all_put xs ++ all_put ys
all_put-append [] ys = refl
all_put-append (x ∷ xs) ys = ap (λ (es : List Effect). Wrote x.0 x.1 ∷ Synced ∷ es) (all_put-append xs ys)

cut_behind : (xs ys : List (ℕ × List ℕ)) (es : List Effect) → AreCut ys es → AreCut (xs ++ ys) (all_put xs ++ es)
cut_behind [] ys es cut = cut
cut_behind (x ∷ xs) ys es cut = inr (all_put xs ++ es, cut_behind xs ys es cut, refl)

do_then : (failed : Bool) (xs ys : List (ℕ × List ℕ)) (es ds : List Effect) → es ≡ all_put xs → DoPuts failed ys ds → DoPuts failed (xs ++ ys) (es ++ ds)
do_then false xs ys es ds one two = ap (λ (zs : List Effect). zs ++ ds) one ∙ (ap (λ (zs : List Effect). all_put xs ++ zs) two ∙ sym (all_put-append xs ys))
do_then true xs ys es ds one two = subst (λ (zs : List Effect). AreCut (xs ++ ys) (zs ++ ds)) (sym one) (cut_behind xs ys ds two)

-- Commits

commits_then : (current middle last : Option Current) (old : Book) (xs ys : List Book) (puts more : List (ℕ × List ℕ)) → AreCommits current old xs puts middle → AreCommits middle (last_of old xs) ys more last → AreCommits current old (xs ++ ys) (puts ++ more) last
commits_then current middle last old [] ys puts more one two =
    subst (λ (ps : List (ℕ × List ℕ)). AreCommits current old ys (ps ++ more) last) (sym one.0) (subst (λ (c : Option Current). AreCommits c old ys more last) one.1 two)
commits_then current middle last old (x ∷ xs) ys puts more (next, first, rest, commit, later, is) two =
    (next, first, rest ++ more, commit, commits_then next middle last x xs ys rest more later two, ap (λ (ps : List (ℕ × List ℕ)). ps ++ more) is ∙ append_assoc first rest more)

-- Acts

whole_front : (current : Option Current) (old : Book) (acts : List Act) (failed : Bool) (es : List Effect) (has : HasWritten current old acts true failed es) → has.front ≡ acts
whole_front current old acts failed es has = sym (append-nil has.front) ∙ (ap (λ (rest : List Act). has.front ++ rest) (sym (has.none_left refl)) ∙ has.parts)

-- nothing was written yet
pub none_written : (current : Option Current) (old : Book) (acts : List Act) → HasWritten current old acts false false []
none_written current old acts = record { front = []; rest = acts; parts = refl; none_left = λ e. absurd (false≢true e); same = refl; puts = []; last = current; commits = (refl, refl); done = refl }

-- nothing had to be written
pub nothing_written : (current : Option Current) (old : Book) → AllWritten current old [] [] current
nothing_written current old = record {
  has = record { front = []; rest = []; parts = refl; none_left = λ e. refl; same = refl; puts = []; last = current; commits = (refl, refl); done = refl };
  leaves = refl;
}

-- an act that isn't the store's
pub deed_written : (current : Option Current) (old : Book) (act : Act) (es : List Effect) → commits_in (act ∷ []) ≡ 0 → deeds es ≡ deeds_in (act ∷ []) → store_effects es ≡ [] → AllWritten current old (act ∷ []) es current
deed_written current old act es none does quiet = record {
  has = record {
    front = act ∷ [];
    rest = [];
    parts = refl;
    none_left = λ e. refl;
    same = does;
    puts = [];
    last = current;
    commits = subst (λ (books : List Book). AreCommits current old books [] current) (sym (no_books act none)) (refl, refl);
    done = quiet;
  };
  leaves = refl;
}

-- one commit, whole
pub book_written : (current next : Option Current) (old book : Book) (es : List Effect) → deeds es ≡ [] → store_effects es ≡ es → WritesBook current (as_stored old) (as_stored book) (Ok next) es → AllWritten current old (Commit book ∷ []) es next
book_written current next old book es still all (puts, commit, done) = record {
  has = record {
    front = Commit book ∷ [];
    rest = [];
    parts = refl;
    none_left = λ e. refl;
    same = still;
    puts = puts;
    last = next;
    commits = (next, puts, [], commit, (refl, refl), sym (append-nil puts));
    done = all ∙ done;
  };
  leaves = refl;
}

-- and one at which the disk failed
pub cut_written : (current : Option Current) (old book : Book) (es : List Effect) → deeds es ≡ [] → store_effects es ≡ es → WritesBook current (as_stored old) (as_stored book) (Err DiskFault) es → HasWritten current old (Commit book ∷ []) false true es
cut_written current old book es still all (puts, next, commit, cut) = record {
  front = Commit book ∷ [];
  rest = [];
  parts = refl;
  none_left = λ e. refl;
  same = still;
  puts = puts;
  last = next;
  commits = (next, puts, [], commit, (refl, refl), sym (append-nil puts));
  done = subst (λ (zs : List Effect). AreCut puts zs) (sym all) cut;
}

-- acts that were all done, and then others
pub written_then : (current next : Option Current) (old : Book) (xs ys : List Act) (whole failed : Bool) (es ds : List Effect) → AllWritten current old xs es next → HasWritten next (book_after old xs) ys whole failed ds → HasWritten current old (xs ++ ys) whole failed (es ++ ds)
written_then current next old xs ys whole failed es ds one two =
    let all : one.has.front ≡ xs = whole_front current old xs false es one.has in
    let books : last_of old (books_in one.has.front) ≡ book_after old xs = ap (λ (acts : List Act). last_of old (books_in acts)) all ∙ last_book old xs in
    record {
      front = one.has.front ++ two.front;
      rest = two.rest;
      parts = append_assoc one.has.front two.front two.rest ∙ (ap (λ (acts : List Act). one.has.front ++ acts) two.parts ∙ ap (λ (acts : List Act). acts ++ ys) all);
      none_left = two.none_left;
      same = flat_map-append deed_of es ds ∙ (ap (λ zs. zs ++ deeds ds) one.has.same ∙ (ap (λ zs. deeds_in one.has.front ++ zs) two.same ∙ sym (flat_map-append deed_in one.has.front two.front)));
      puts = one.has.puts ++ two.puts;
      last = two.last;
      commits = subst (λ (bs : List Book). AreCommits current old bs (one.has.puts ++ two.puts) two.last) (sym (books_in-append one.has.front two.front))
          (commits_then current one.has.last two.last old (books_in one.has.front) (books_in two.front) one.has.puts two.puts one.has.commits
          (subst (λ (c : Option Current). AreCommits c (last_of old (books_in one.has.front)) (books_in two.front) two.puts two.last) (sym one.leaves)
          (subst (λ (b : Book). AreCommits next b (books_in two.front) two.puts two.last) (sym books) two.commits)));
      done = subst (λ (zs : List Effect). DoPuts failed (one.has.puts ++ two.puts) zs) (sym (flat_map-append of_store es ds)) (do_then failed one.has.puts two.puts (store_effects es) (store_effects ds) one.has.done two.done);
    }

pub all_then : (current next last : Option Current) (old : Book) (xs ys : List Act) (es ds : List Effect) → AllWritten current old xs es next → AllWritten next (book_after old xs) ys ds last → AllWritten current old (xs ++ ys) (es ++ ds) last
unfolding written_then
all_then current next last old xs ys es ds one two = record { has = written_then current next old xs ys true false es ds one two.has; leaves = two.leaves }

-- acts that weren't all done, and others behind them
pub written_before : (current : Option Current) (old : Book) (xs ys : List Act) (failed : Bool) (es : List Effect) → HasWritten current old xs false failed es → HasWritten current old (xs ++ ys) false failed es
written_before current old xs ys failed es one = record {
  front = one.front;
  rest = one.rest ++ ys;
  parts = sym (append_assoc one.front one.rest ys) ∙ ap (λ (acts : List Act). acts ++ ys) one.parts;
  none_left = λ e. absurd (false≢true e);
  same = one.same;
  puts = one.puts;
  last = one.last;
  commits = one.commits;
  done = one.done;
}

-- an event was heard behind them
pub written_heard : (current next : Option Current) (old : Book) (acts : List Act) (es : List Effect) (event : Event) → AllWritten current old acts es next → AllWritten current old acts (es ++ Heard event ∷ []) next
written_heard current next old acts es event one = record {
  has = record {
    front = one.has.front;
    rest = one.has.rest;
    parts = one.has.parts;
    none_left = one.has.none_left;
    same = flat_map-append deed_of es (Heard event ∷ []) ∙ (append-nil (deeds es) ∙ one.has.same);
    puts = one.has.puts;
    last = one.has.last;
    commits = one.has.commits;
    done = flat_map-append of_store es (Heard event ∷ []) ∙ (append-nil (store_effects es) ∙ one.has.done);
  };
  leaves = one.leaves;
}
