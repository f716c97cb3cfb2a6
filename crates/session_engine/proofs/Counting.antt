-- A front of a script that has so many deeds has its checkpoint in its place.
use Rattle.std.proofs.Common.{◌≡◌, ℕ, zero, suc, ◌+◌, ◌<◌, ◌≤◌, List, [], ◌∷◌, ◌++◌, length, refl, sym, ◌∙◌, ap, subst, arith, Ok}
use Rattle.sm_world.specs.Effects.{Deed}
use Rattle.checkpoint_records.specs.declared.records.Book.{Book}
use Rattle.checkpoint_slots.specs.Recovery.{Recovers}
use Rattle.session_engine.specs.Acts.{Hidden, Kind, Saved, Shown, book_after, book_by, books_by, books_in, commits_by, commits_in, deeds_by, deeds_in, kind_of}
use Rattle.session_engine.specs.Counted.{SavedIsPlaced, before_last, book_at, until, until_by}
use Rattle.session_engine.specs.declared.acts.Act.{Act}
use Rattle.session_engine.specs.Standing.{as_stored}

one_more : (n : ℕ) → 1 + n ≡ suc n
one_more n = omega arith

none_more : (n : ℕ) → 0 + n ≡ n
none_more n = omega arith

-- The checkpoint behind a front

placed_by : (k : Kind) (opening : Book) (front : List Act) (later : List Book) → ((book : Book) → book_at book later (commits_in front) ≡ book_after book front) → book_at opening (books_by k ++ later) (commits_by k + commits_in front) ≡ book_after (book_by opening k) front
placed_by (Shown deed) opening front later rest = ap (book_at opening later) (none_more (commits_in front)) ∙ rest opening
placed_by (Saved book) opening front later rest = ap (book_at opening (book ∷ later)) (one_more (commits_in front)) ∙ rest book
placed_by Hidden opening front later rest = ap (book_at opening later) (none_more (commits_in front)) ∙ rest opening

placed : (opening : Book) (front rest : List Act) → book_at opening (books_in (front ++ rest)) (commits_in front) ≡ book_after opening front
placed opening [] rest = refl
placed opening (act ∷ front) rest = placed_by (kind_of act) opening front (books_in (front ++ rest)) (λ book. placed book front rest)

-- Its place is late enough

least_by : (k : Kind) (acts front : List Act) (m : ℕ) → ((j : ℕ) → j < length (deeds_in front) → until acts j ≤ commits_in front) → m < length (deeds_by k ++ deeds_in front) → until_by k (λ j. until acts j) m ≤ commits_by k + commits_in front
least_by (Shown deed) acts front zero rest within = omega arith
least_by (Shown deed) acts front (suc m) rest within = omega (arith, rest m (omega arith))
least_by (Saved book) acts front m rest within = omega (arith, rest m within)
least_by Hidden acts front m rest within = omega (arith, rest m within)

least : (front rest : List Act) (m : ℕ) → m < length (deeds_in front) → until (front ++ rest) m ≤ commits_in front
least [] rest m within = absurd (omega arith)
least (act ∷ front) rest m within = least_by (kind_of act) (front ++ rest) front m (λ j inside. least front rest j inside) within

late_by : (front rest : List Act) (n : ℕ) → n ≡ length (deeds_in front) → before_last (front ++ rest) n ≤ commits_in front
late_by front rest zero all = omega arith
late_by front rest (suc m) all = least front rest m (omega (arith, all))

-- and early enough

most_by : (k : Kind) (acts front : List Act) → commits_in front ≤ until acts (length (deeds_in front)) → commits_by k + commits_in front ≤ until_by k (λ j. until acts j) (length (deeds_by k ++ deeds_in front))
most_by (Shown deed) acts front rest =
    let more : suc (length (deeds_in front)) ≡ length (deed ∷ deeds_in front) = omega arith in
    subst (λ (n : ℕ). 0 + commits_in front ≤ until_by (Shown deed) (λ j. until acts j) n) more (omega (arith, rest))
most_by (Saved book) acts front rest = omega (arith, rest)
most_by Hidden acts front rest = omega (arith, rest)

most : (front rest : List Act) → commits_in front ≤ until (front ++ rest) (length (deeds_in front))
most [] rest = omega arith
most (act ∷ front) rest = most_by (kind_of act) (front ++ rest) front (most front rest)

pub saved_placed : SavedIsPlaced
saved_placed opening acts done file saved =
    let count : length (deeds_in saved.front) ≡ length done = ap (λ (ds : List Deed). length ds) saved.same in
    record {
      place = commits_in saved.front;
      at_least = subst (λ (xs : List Act). before_last xs (length done) ≤ commits_in saved.front) saved.parts (late_by saved.front saved.rest (length done) (sym count));
      at_most = subst (λ (xs : List Act). commits_in saved.front ≤ until xs (length done)) saved.parts (subst (λ (n : ℕ). commits_in saved.front ≤ until (saved.front ++ saved.rest) n) count (most saved.front saved.rest));
      recovers = subst (λ (b : Book). Recovers file (Ok (as_stored b))) (sym (subst (λ (xs : List Act). book_at opening (books_in xs) (commits_in saved.front) ≡ book_after opening saved.front) saved.parts (placed opening saved.front saved.rest))) saved.recovers;
    }
