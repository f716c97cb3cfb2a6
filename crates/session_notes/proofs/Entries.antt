-- What becomes of the entries of a book as the next one is written.
use Rattle.std.proofs.Common.{◌≡◌, refl, ℕ, zero, suc, Bool, true, false, cond, not, ◌&&◌, ◌||◌, List, [], ◌∷◌, filter, eqb, sym, ap, subst, ◌∙◌, arith}
use Rattle.std.specs.Prelude.{Option, Some, None, is_some, find, filter_map}
use Rattle.std.specs.List.{Contains, cons_option, list_any}
use Rattle.std.specs.Str.{bytes_eq}
use Rattle.std.specs.Cmp.Lexicographic.{same_text}
use Rattle.sm_world.specs.declared.events.Order.TheVariants.{Forget}
use Rattle.ice_values.specs.declared.property.Property.{Property}
use Rattle.xsmp_properties.specs.Readers.{hint_of}
use Rattle.checkpoint_records.specs.declared.records.Book.{Book}
use Rattle.checkpoint_records.specs.declared.records.Entry.{Entry}
use Rattle.restart_plan.specs.Restarts.{is_immediately}
use Rattle.round_agreement.specs.Agreement.{conns_of}
use Rattle.interact_queue.specs.Queue.{is_in}
use Rattle.session_model.specs.Tables.{has_id, is_of, entry_of}
use Rattle.session_model.specs.Moves.{History}
use Rattle.session_model.specs.Readings as of
use Rattle.session_model.specs.Reading.{client_of, has_that_id, reading}
use Rattle.session_model.specs.Books.{book_forgetting, entry_for, entry_saved, is_anyway, is_eligible, is_kept, new_entry, new_saved, next_book, next_entry, recorded, snapshot}
use Rattle.session_model.proofs.Names.{have-ids}
use Rattle.session_model.proofs.Ruled.{any-in, denied, differ, rows_now, round_now}
use Rattle.session_model.proofs.Ruly.{own_text}
use Rattle.session_notes.specs.Notes.{Note, Ordered, Wrote}
use Rattle.session_notes.specs.Keeping.{book_in, id_in}
use Rattle.session_notes.specs.Kept.{is_held, kept_in}
use Rattle.session_notes.proofs.Kept.{opened_of}
use Rattle.session_notes.proofs.Keeps.{Keeps}
use Rattle.session_notes.proofs.Next.{Agreeing, found-id}
use Rattle.session_notes.proofs.Standing.{Completes, Fate, Fates, Gives, Goes, Leaves, Standing, Stays, contains-back, contains-front}
use Rattle.session_notes.proofs.Tests.{contains-first, contains-later, same-there}

-- Lists

-- what is made of an item is among what is made of all
contains-option : {B : Type 0} (o : Option B) (y : B) (ys : List B) → Contains ys y → Contains (cons_option o ys) y
contains-option None y ys h = h
contains-option (Some z) y ys h = contains-later z y ys h

contains-made : {A : Type 0} (f : A → Option Entry) (x : A) (y : Entry) (xs : List A) → Contains xs x → f x ≡ Some y → Contains (filter_map f xs) y
contains-made f x y [] (k, l, e) m = absurd (omega (arith, l))
contains-made f x y (z ∷ xs) (zero, l, e) m = subst (λ (o : Option Entry). Contains (cons_option o (filter_map f xs)) y) (sym (ap f e ∙ m)) (contains-first y (filter_map f xs))
contains-made f x y (z ∷ xs) (suc k, l, e) m = contains-option (f z) y (filter_map f xs) (contains-made f x y xs (k, omega (arith, l), e) m)

made-by : (f : ℕ → Option Entry) (c : ℕ) (y : Entry) (cs : List ℕ) → is_in c cs ≡ true → f c ≡ Some y → Contains (filter_map f cs) y
made-by f c y [] i m = absurd (grind arith)
made-by f c y (d ∷ cs) i m = made_at (eqb d c) refl i (λ j. made-by f c y cs j m) where
  made_at : (b : Bool) → eqb d c ≡ b → (b || is_in c cs) ≡ true → (is_in c cs ≡ true → Contains (filter_map f cs) y) → Contains (cons_option (f d) (filter_map f cs)) y
  made_at true e j g = subst (λ (o : Option Entry). Contains (cons_option o (filter_map f cs)) y) (sym (same-there f c d e ∙ m)) (contains-first y (filter_map f cs))
  made_at false e j g = contains-option (f d) y (filter_map f cs) (g j)

contains-filter : (test : Entry → Bool) (x : Entry) (xs : List Entry) → Contains xs x → test x ≡ true → Contains (filter test xs) x
contains-filter test x [] (k, l, e) t = absurd (omega (arith, l))
contains-filter test x (z ∷ xs) (zero, l, e) t = subst (λ (b : Bool). Contains (cond b (z ∷ filter test xs) (filter test xs)) x) (sym (ap test e ∙ t)) (subst (λ (y : Entry). Contains (z ∷ filter test xs) y) e (contains-first z (filter test xs)))
contains-filter test x (z ∷ xs) (suc k, l, e) t = filter_at (test z) (contains-filter test x xs (k, omega (arith, l), e) t) where
  filter_at : (b : Bool) → Contains (filter test xs) x → Contains (cond b (z ∷ filter test xs) (filter test xs)) x
  filter_at true g = contains-later z x (filter test xs) g
  filter_at false g = g

-- Who has an ID

some-any : (test : ℕ → Bool) (cs : List ℕ) → is_some (find test cs) ≡ list_any test cs
some-any test [] = refl
some-any test (c ∷ cs) = some_at (test c) (some-any test cs) where
  some_at : (b : Bool) → is_some (find test cs) ≡ list_any test cs → is_some (cond b (Some c) (find test cs)) ≡ (b || list_any test cs)
  some_at true e = refl
  some_at false e = e

-- who has an ID is found by it
pub is-found : (h : History) (id : List ℕ) (c : ℕ) → of.id_of c h ≡ Some id → is_some (client_of id (reading h).clients) ≡ true
is-found h id c e =
    let there : is_in c (of.registered h) ≡ true = sym (have-ids h c) ∙ ap (λ (o : Option (List ℕ)). is_some o) e in
    let test : has_that_id id (of.id_of c h) ≡ true = ap (λ (o : Option (List ℕ)). has_that_id id o) e ∙ own_text id in
    some-any (λ d. has_that_id id (of.id_of d h)) (of.registered h) ∙ any-in (λ d. has_that_id id (of.id_of d h)) c (of.registered h) there test

not-some : (o : Option ℕ) → o ≡ None → is_some o ≡ true → ⊥
not-some None e k = grind arith
not-some (Some c) e k = grind arith

-- The next book

-- each entry of the book, and what it becomes
next-holds : (r : of.Begun) (h : History) (entry other : Entry) → Contains (of.book h).entries entry → next_entry (reading h) (round_now r h) entry ≡ Some other → Contains (next_book (reading h) (round_now r h)).entries other
next-holds r h entry other there m =
    contains-front other (filter_map (next_entry (reading h) (round_now r h)) (of.book h).entries) (filter_map (new_entry (reading h)) (conns_of (rows_now h)))
    (contains-made (next_entry (reading h) (round_now r h)) entry other (of.book h).entries there m)

recorded-is : (id : List ℕ) (table : List Property) → is_eligible table ≡ true → recorded id table ≡ Some (record { id = id; table = table })
recorded-is id table e = ap (λ (b : Bool). cond b (Some (record { id = id; table = table })) None) e

not-lasting : (a i e : Bool) → (a || i || e) ≡ false → (a || i) ≡ false
not-lasting true i e f = absurd (grind arith)
not-lasting false true e f = absurd (grind arith)
not-lasting false false e f = refl

-- a snapshot is of the round's members
saved-there : (b : Bool) (o : Option (List Property)) (table : List Property) → cond b o None ≡ Some table → o ≡ Some table
saved-there true o table e = e
saved-there false o table e = absurd (grind arith)

pub fates-next : (r : of.Begun) (h : History) (n : List Note) → Agreeing r h → Keeps h n → Fates (opened_of h) (next_book (reading h) (round_now r h)) n
fates-next r h n a k id table there = fate_at (client_of id (reading h).clients) refl where
  written : Book
  written = next_book (reading h) (round_now r h)

  entry : Entry
  entry = record { id = id; table = table }

  was : Contains (of.book h).entries entry
  was = subst (λ (b : Book). Contains b.entries entry) k.book there

  becomes : (o : Option ℕ) (other : Entry) → client_of id (reading h).clients ≡ o → entry_for (reading h) (round_now r h) entry o ≡ Some other → Contains written.entries other
  becomes o other e m = next-holds r h entry other was (ap (λ (x : Option ℕ). entry_for (reading h) (round_now r h) entry x) e ∙ m)

  kept_at : (b : Bool) → client_of id (reading h).clients ≡ None → is_kept (reading h) r.wanted.shutdown entry ≡ b → Fate (opened_of h) written n id table
  kept_at true e s = Stays (becomes None entry e (ap (λ (b : Bool). cond b (Some entry) None) s))
  kept_at false e s =
      Leaves (λ c i. not-some (client_of id (reading h).clients) e (is-found h id c (sym (k.id c) ∙ i))) (not-lasting (is_anyway (hint_of table)) (is_immediately (hint_of table)) (has_id id (of.expected h) && not r.wanted.shutdown) s)

  saved_at : (c : ℕ) (o : Option (List Property)) → client_of id (reading h).clients ≡ Some c → snapshot (reading h) (round_now r h) c ≡ o → Fate (opened_of h) written n id table
  saved_at c None e s = Stays (becomes (Some c) entry e (ap (λ (o : Option (List Property)). entry_saved entry o) s))
  saved_at c (Some saved) e s =
      Gives c saved (k.id c ∙ found-id h id (of.registered h) c e) (k.saved a.going c ∙ saved-there (is_in c (conns_of (rows_now h))) (of.saved_of c h) saved s)
      (λ l. becomes (Some c) (record { id = id; table = saved }) e (ap (λ (o : Option (List Property)). entry_saved entry o) s ∙ recorded-is id saved l))

  fate_at : (o : Option ℕ) → client_of id (reading h).clients ≡ o → Fate (opened_of h) written n id table
  fate_at None e = kept_at (is_kept (reading h) r.wanted.shutdown entry) e refl
  fate_at (Some c) e = saved_at c (snapshot (reading h) (round_now r h) c) e refl

-- an entry of this ID is there
record IsFound (id : List ℕ) (entries : List Entry) : Type 0 where
  entry : Entry
  there : Contains entries entry
  is : entry.id ≡ id

found-entry : (id : List ℕ) (entries : List Entry) (entry : Entry) → find (is_of id) entries ≡ Some entry → IsFound id entries
found-entry id [] entry e = absurd (grind arith)
found-entry id (first ∷ entries) entry e = first_at (is_of id first) refl e (λ q. found-entry id entries entry q) where
  first_at : (b : Bool) → is_of id first ≡ b → cond b (Some first) (find (is_of id) entries) ≡ Some entry → (find (is_of id) entries ≡ Some entry → IsFound id entries) → IsFound id (first ∷ entries)
  first_at true s q g = record { entry = first; there = contains-first first entries; is = sym (same_text id first.id (sym s)) }
  first_at false s q g = let f : IsFound id entries = g q in record { entry = f.entry; there = contains-later first f.entry entries f.there; is = f.is }

-- the save of a member of the round stands in the next book
pub completes-next : (r : of.Begun) (h : History) (n : List Note) (c : ℕ) → Agreeing r h → Keeps h n → Standing (opened_of h) n → is_in c (conns_of (rows_now h)) ≡ true → Completes (opened_of h) c (Wrote (next_book (reading h) (round_now r h)) ∷ n)
completes-next r h n c a k t i id table x y l = recorded_at (entry_of id (of.book h)) refl where
  written : Book
  written = next_book (reading h) (round_now r h)

  has : of.id_of c h ≡ Some id
  has = sym (k.id c) ∙ x

  saved : of.saved_of c h ≡ Some table
  saved = sym (k.saved a.going c) ∙ y

  snapped : snapshot (reading h) (round_now r h) c ≡ Some table
  snapped = ap (λ (b : Bool). cond b (of.saved_of c h) None) i ∙ saved

  client_at : (o : Option ℕ) → client_of id (reading h).clients ≡ o → client_of id (reading h).clients ≡ Some c
  client_at None e = absurd (not-some (client_of id (reading h).clients) e (is-found h id c has))
  client_at (Some d) e = e ∙ ap (λ (q : ℕ). Some q) (t.own_ids d c id (k.id d ∙ found-id h id (of.registered h) d e) x)

  old_at : (entry : Entry) → Contains (of.book h).entries entry → entry.id ≡ id → Contains written.entries (record { id = id; table = table })
  old_at entry there s =
      next-holds r h entry (record { id = id; table = table }) there
      (ap (λ (q : List ℕ). entry_for (reading h) (round_now r h) entry (client_of q (reading h).clients)) s ∙ ap (λ (o : Option ℕ). entry_for (reading h) (round_now r h) entry o) (client_at (client_of id (reading h).clients) refl)
      ∙ ap (λ (o : Option (List Property)). entry_saved entry o) snapped ∙ recorded-is entry.id table l ∙ ap (λ (q : List ℕ). Some (record { id = q; table = table })) s)

  recorded_at : (o : Option Entry) → entry_of id (of.book h) ≡ o → Contains written.entries (record { id = id; table = table })
  recorded_at (Some entry) e = let f : IsFound id (of.book h).entries = found-entry id (of.book h).entries entry e in old_at f.entry f.there f.is
  recorded_at None e =
      contains-back (record { id = id; table = table }) (filter_map (next_entry (reading h) (round_now r h)) (of.book h).entries) (filter_map (new_entry (reading h)) (conns_of (rows_now h)))
      (made-by (new_entry (reading h)) c (record { id = id; table = table }) (conns_of (rows_now h)) i
      (ap (λ (o : Option (List ℕ)). new_saved (of.book h) o (of.saved_of c h)) has ∙ ap (λ (o : Option (List Property)). new_saved (of.book h) (Some id) o) saved
      ∙ ap (λ (o : Option Entry). cond (is_some o) None (recorded id table)) e ∙ recorded-is id table l))

-- A book without the entry of a client that was forgotten

pub fates-forgetting : (opened : Book) (h : History) (id : List ℕ) (n : List Note) → book_in opened n ≡ of.book h → is_held id n ≡ false → Fates opened (book_forgetting (reading h).store id) (Ordered (Forget id) ∷ n)
fates-forgetting opened h id n e f other table there = forget_at (bytes_eq id other) refl where
  entry : Entry
  entry = record { id = other; table = table }

  gone : id ≡ other → (cond (bytes_eq other id && not (is_held other n)) [] (kept_in opened other n)) ≡ []
  gone s = ap (λ (q : List ℕ). cond (bytes_eq other q && not (is_held other n)) [] (kept_in opened other n)) s ∙ ap (λ (b : Bool). cond (b && not (is_held other n)) [] (kept_in opened other n)) (own_text other)
      ∙ ap (λ (b : Bool). cond (not b) [] (kept_in opened other n)) (ap (λ (q : List ℕ). is_held q n) (sym s) ∙ f)

  forget_at : (b : Bool) → bytes_eq id other ≡ b → Fate opened (book_forgetting (reading h).store id) (Ordered (Forget id) ∷ n) other table
  forget_at true s = Goes (gone (same_text id other (sym s)))
  forget_at false s = Stays (contains-filter (λ (x : Entry). not (is_of id x)) entry (of.book h).entries (subst (λ (b : Book). Contains b.entries entry) e there) (ap (λ (b : Bool). not b) s))

-- nobody that the session knows by an ID has it
pub none-held : (h : History) (opened : Book) (id : List ℕ) (n : List Note) → Keeps h n → Standing opened n → is_some (client_of id (reading h).clients) ≡ false → is_held id n ≡ false
none-held h opened id n k t f = denied (is_held id n) (λ e. let c : (c : ℕ) × (id_in c n ≡ Some id) = t.held id e in differ (is-found h id c.0 (sym (k.id c.0) ∙ c.1)) f)
