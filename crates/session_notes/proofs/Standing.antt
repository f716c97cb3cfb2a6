-- What is kept under an ID stands in the book, from note to note.
use Rattle.std.proofs.Common.{◌≡◌, refl, ℕ, zero, suc, Bool, true, false, cond, not, ◌&&◌, ◌||◌, List, [], ◌∷◌, ◌++◌, eqb, sym, ap, subst, ◌∙◌, arith, inl, inr}
use Rattle.std.specs.Prelude.{Option, Some, None, is_some, find, ◌⊎◌, ◌≢◌}
use Rattle.std.specs.List.{Contains, list_all}
use Rattle.std.specs.Str.{bytes_eq}
use Rattle.std.specs.Cmp.Lexicographic.{same_text}
use Rattle.std.proofs.lemmas.Bool.Decides.{nat_tests}
use Rattle.sm_world.specs.declared.events.Order.{Order}
use Rattle.sm_world.specs.declared.events.Order.TheVariants.{Forget}
use Rattle.ice_values.specs.declared.property.Property.{Property}
use Rattle.xsmp_messages.specs.declared.message.XsmpMessage.{XsmpMessage}
use Rattle.xsmp_messages.specs.declared.message.XsmpMessage.TheVariants.{Die, RegisterClientReply, SaveComplete, SaveYourself, SaveYourselfDone, ShutdownCancelled}
use Rattle.checkpoint_records.specs.declared.records.Book.{Book}
use Rattle.checkpoint_records.specs.declared.records.Entry.{Entry}
use Rattle.session_model.specs.Books.{is_eligible}
use Rattle.session_model.specs.Reading.{has_that_id}
use Rattle.session_model.specs.Tables.{entry_of, is_of}
use Rattle.session_model.proofs.Names.{gone-had, own-case}
use Rattle.session_model.proofs.Ruled.{and-left, and-right, differ}
use Rattle.session_model.proofs.Ruly.{own_text}
use Rattle.session_notes.specs.Notes.{Note, Heard, Given, Gone, Ordered, Started, Wrote}
use Rattle.session_notes.specs.Watching.{is_to_save, was_asked}
use Rattle.session_notes.specs.Keeping.{book_in, id_in, snapshot_in, table_in}
use Rattle.session_notes.specs.Kept.{Stands, completed, is_held, is_lasting, kept_in, lasting, opened_table, or_table}
use Rattle.session_notes.proofs.Tests.{and-after, contains-first, contains-later, own}

-- Lists of tables

abbrev Tables : Type 0
Tables = List (List Property)

pub contains-front : {A : Type 0} (y : A) (xs ys : List A) → Contains xs y → Contains (xs ++ ys) y
contains-front y [] ys (k, l, e) = absurd (omega (arith, l))
contains-front y (x ∷ xs) ys (zero, l, e) = (zero, omega arith, e)
contains-front y (x ∷ xs) ys (suc k, l, e) = contains-later x y (xs ++ ys) (contains-front y xs ys (k, omega (arith, l), e))

pub contains-back : {A : Type 0} (y : A) (xs ys : List A) → Contains ys y → Contains (xs ++ ys) y
contains-back y [] ys h = h
contains-back y (x ∷ xs) ys h = contains-later x y (xs ++ ys) (contains-back y xs ys h)

no-items : {A : Type 0} (x : A) (xs : List A) → x ∷ xs ≢ []
no-items x xs e = grind arith

all-has : (test : List Property → Bool) (table : List Property) (tables : Tables) → Contains tables table → list_all test tables ≡ true → test table ≡ true
all-has test table [] (k, l, e) a = absurd (omega (arith, l))
all-has test table (first ∷ tables) (zero, l, e) a = ap test (sym e) ∙ and-left (test first) (list_all test tables) a
all-has test table (first ∷ tables) (suc k, l, e) a = all-has test table tables (k, omega (arith, l), e) (and-right (test first) (list_all test tables) a)

-- one of them, if any, stands in the book
abbrev pub Holding : Book → List ℕ → Tables → Type 0
Holding book id tables = tables ≢ [] → Stands book id tables

-- this is one of them, if there are any, and the rules let it into a book
abbrev IsAmong : List Property → Tables → Type 0
IsAmong table tables = tables ≢ [] → Contains tables table × (is_eligible table ≡ true)

none-holds : (book : Book) (id : List ℕ) → Holding book id []
none-holds book id some = absurd (some refl)

none-among : (table : List Property) → IsAmong table []
none-among table some = absurd (some refl)

-- a test decides which tables there are
by-test : (P : Tables → Type 0) (b : Bool) (x y : Tables) → (b ≡ true → P x) → (b ≡ false → P y) → P (cond b x y)
by-test P true x y p q = p refl
by-test P false x y p q = q refl

-- One table more

holds-or : (book : Book) (id : List ℕ) (table : List Property) (tables : Tables) → Holding book id tables → Holding book id (or_table table tables)
holds-or book id table [] h = none-holds book id
holds-or book id table (first ∷ tables) h = by-test (Holding book id) (is_eligible table) (first ∷ tables ++ table ∷ []) []
    (λ e some. let s : Stands book id (first ∷ tables) = h (no-items first tables) in record { table = s.table; one = contains-front s.table (first ∷ tables) (table ∷ []) s.one; entry = s.entry })
    (λ e. none-holds book id)

among-or : (one table : List Property) (tables : Tables) → IsAmong one tables → IsAmong one (or_table table tables)
among-or one table [] h = none-among one
among-or one table (first ∷ tables) h = by-test (IsAmong one) (is_eligible table) (first ∷ tables ++ table ∷ []) []
    (λ e some. let s : Contains (first ∷ tables) one × (is_eligible one ≡ true) = h (no-items first tables) in (contains-front one (first ∷ tables) (table ∷ []) s.0, s.1))
    (λ e. none-among one)

among-new : (table : List Property) (tables : Tables) → IsAmong table (or_table table tables)
among-new table [] = none-among table
among-new table (first ∷ tables) = by-test (IsAmong table) (is_eligible table) (first ∷ tables ++ table ∷ []) []
    (λ e some. (contains-back table (first ∷ tables) (table ∷ []) (contains-first table []), e)) (λ e. none-among table)

-- Those that last

holds-lasting : (book : Book) (id : List ℕ) (tables : Tables) → Holding book id tables → Holding book id (lasting tables)
holds-lasting book id tables h = by-test (Holding book id) (list_all is_lasting tables) tables [] (λ e. h) (λ e. none-holds book id)

among-lasting : (table : List Property) (tables : Tables) → IsAmong table tables → IsAmong table (lasting tables)
among-lasting table tables h = by-test (IsAmong table) (list_all is_lasting tables) tables [] (λ e. h) (λ e. none-among table)

all-lasting : (tables : Tables) → list_all is_lasting (lasting tables) ≡ true
all-lasting tables = by-test (λ x. list_all is_lasting x ≡ true) (list_all is_lasting tables) tables [] (λ e. e) (λ e. refl)

-- A save is complete

holds-completed : (book : Book) (id : List ℕ) (o : Option (List Property)) (tables : Tables) → ((table : List Property) → o ≡ Some table → is_eligible table ≡ true → Contains book.entries (record { id = id; table = table }))
    → Holding book id tables → Holding book id (completed o tables)
holds-completed book id None tables f h = h
holds-completed book id (Some table) tables f h = by-test (Holding book id) (is_eligible table) (table ∷ []) []
    (λ e some. record { table = table; one = contains-first table []; entry = f table refl e }) (λ e. none-holds book id)

some-table : (x y : List Property) → Some x ≡ Some y → x ≡ y
some-table x y e = cc

among-completed : (table : List Property) (o : Option (List Property)) (tables : Tables) → o ≡ Some table → IsAmong table (completed o tables)
among-completed table None tables e = absurd (grind arith)
among-completed table (Some other) tables e = by-test (IsAmong table) (is_eligible other) (other ∷ []) []
    (λ k some. let s : other ≡ table = some-table other table e in (subst (λ (x : List Property). Contains (other ∷ []) x) s (contains-first other []), ap (λ (x : List Property). is_eligible x) (sym s) ∙ k)) (λ k. none-among table)

-- What a note asks

-- no connection has this ID
abbrev pub NobodyHas : List ℕ → List Note → Type 0
NobodyHas id n = (c : ℕ) → id_in c n ≡ Some id → ⊥

-- the save of this client stands, where it was a success and may be kept
abbrev pub Completes : Book → ℕ → List Note → Type 0
Completes opened c n = (id : List ℕ) (table : List Property) → id_in c n ≡ Some id → snapshot_in opened c n ≡ Some table → is_eligible table ≡ true → Contains (book_in opened n).entries (record { id = id; table = table })

-- what becomes of an entry of the book that stands as another is written
pub data Fate (opened written : Book) (n : List Note) (id : List ℕ) (table : List Property) : Type 0 where
  Stays : Contains written.entries (record { id = id; table = table }) → Fate opened written n id table
  -- its client has saved with success, and its snapshot takes its place
  Gives : (c : ℕ) (saved : List Property) → id_in c n ≡ Some id → snapshot_in opened c n ≡ Some saved → (is_eligible saved ≡ true → Contains written.entries (record { id = id; table = saved })) → Fate opened written n id table
  -- its client isn't there, and its hint doesn't let it stay
  Leaves : NobodyHas id n → is_lasting table ≡ false → Fate opened written n id table
  -- it was forgotten
  Goes : kept_in opened id n ≡ [] → Fate opened written n id table

abbrev pub Fates : Book → Book → List Note → Type 0
Fates opened written n = (id : List ℕ) (table : List Property) → Contains (book_in opened n).entries (record { id = id; table = table }) → Fate opened written n id table

abbrev pub Asks : Book → Note → List Note → Type 0
Asks opened (Given c (RegisterClientReply id)) n = (id_in c n ≡ None) × NobodyHas id n
Asks opened (Given c (SaveYourself kind shutdown style fast)) n = is_some (id_in c n) ≡ true
Asks opened (Given c SaveComplete) n = Completes opened c n
Asks opened (Given c Die) n = is_to_save c n ≡ true → Completes opened c n
Asks opened (Wrote written) n = Fates opened written n
Asks opened note n = Unit {0}

-- What holds at each moment

pub record Standing (opened : Book) (n : List Note) : Type 0 where
  pub holds : (id : List ℕ) → Holding (book_in opened n) id (kept_in opened id n)
  -- what a client has told is among the tables of its ID
  pub told : (c : ℕ) (id : List ℕ) (table : List Property) → id_in c n ≡ Some id → snapshot_in opened c n ≡ Some table → IsAmong table (kept_in opened id n)
  -- where nobody is there, they last
  pub alone : (id : List ℕ) → NobodyHas id n → list_all is_lasting (kept_in opened id n) ≡ true
  pub held : (id : List ℕ) → is_held id n ≡ true → (c : ℕ) × (id_in c n ≡ Some id)
  -- nobody has another's ID, and who was asked to save has one
  pub own_ids : (c d : ℕ) (id : List ℕ) → id_in c n ≡ Some id → id_in d n ≡ Some id → c ≡ d
  pub asked : (c : ℕ) → was_asked c n ≡ true → is_some (id_in c n) ≡ true

-- Tests

has-id : (id : List ℕ) (o : Option (List ℕ)) → has_that_id id o ≡ true → o ≡ Some id
has-id id None e = absurd (grind arith)
has-id id (Some other) e = ap (λ (x : List ℕ). Some x) (sym (same_text id other (sym e)))

id-has : (id : List ℕ) (o : Option (List ℕ)) → o ≡ Some id → has_that_id id o ≡ true
id-has id o e = ap (λ (x : Option (List ℕ)). has_that_id id x) e ∙ own_text id

no-some : {A : Type 0} (x : A) → None ≡ Some x → ⊥
no-some x e = grind arith

-- where the test of a connection's ID fails, it isn't named by it
others-have : (id : List ℕ) (o : Option (List ℕ)) → has_that_id id o ≡ false → o ≡ Some id → ⊥
others-have id o f e = differ (id-has id o e) f

same-conn : (c d : ℕ) → eqb c d ≡ true → c ≡ d
same-conn c d e = grind (arith, nat_tests)

-- what isn't gone was there
gone-or : {A : Type 0} (b : Bool) (x : A) (o : Option A) → cond b None o ≡ Some x → o ≡ Some x
gone-or true x o e = absurd (grind arith)
gone-or false x o e = e

-- who isn't gone
not-gone : {A : Type 0} (b : Bool) (x : A) (o : Option A) → (b ≡ true → ⊥) → o ≡ Some x → cond b None o ≡ Some x
not-gone true x o f e = absurd (f refl)
not-gone false x o f e = e

-- A message that is heard

heard-done : (opened : Book) (c : ℕ) (n : List Note) → Standing opened n → Standing opened (Heard c (SaveYourselfDone true) ∷ n)
heard-done opened c n s = record {
  holds = λ id. by-test (Holding (book_in opened n) id) (has_that_id id (id_in c n) && was_asked c n) (or_table (table_in opened c n) (kept_in opened id n)) (kept_in opened id n)
      (λ e. holds-or (book_in opened n) id (table_in opened c n) (kept_in opened id n) (s.holds id)) (λ e. s.holds id);
  told = told_now;
  alone = λ id none. by-test (λ x. list_all is_lasting x ≡ true) (has_that_id id (id_in c n) && was_asked c n) (or_table (table_in opened c n) (kept_in opened id n)) (kept_in opened id n)
      (λ e. absurd (none c (has-id id (id_in c n) (and-left (has_that_id id (id_in c n)) (was_asked c n) e)))) (λ e. s.alone id none);
  held = s.held;
  own_ids = s.own_ids;
  asked = s.asked;
} where
  more : (d : ℕ) (id : List ℕ) (table : List Property) → IsAmong table (kept_in opened id n) → IsAmong table (kept_in opened id (Heard c (SaveYourselfDone true) ∷ n))
  more d id table a = by-test (IsAmong table) (has_that_id id (id_in c n) && was_asked c n) (or_table (table_in opened c n) (kept_in opened id n)) (kept_in opened id n)
      (λ e. among-or table (table_in opened c n) (kept_in opened id n) a) (λ e. a)

  told_at : (d : ℕ) (id : List ℕ) (table : List Property) (b w : Bool) → eqb c d ≡ b → was_asked d n ≡ w → id_in d n ≡ Some id → cond (b && w) (Some (table_in opened d n)) (snapshot_in opened d n) ≡ Some table
      → IsAmong table (kept_in opened id (Heard c (SaveYourselfDone true) ∷ n))
  told_at d id table false w e a i k = more d id table (s.told d id table i k)
  told_at d id table true false e a i k = more d id table (s.told d id table i k)
  told_at d id table true true e a i k =
      let same : c ≡ d = same-conn c d e in
      let test : (has_that_id id (id_in c n) && was_asked c n) ≡ true = ap (λ (x : ℕ). has_that_id id (id_in x n) && was_asked x n) same ∙ ap (λ (x : Bool). x && was_asked d n) (id-has id (id_in d n) i) ∙ a in
      let new : IsAmong table (or_table (table_in opened c n) (kept_in opened id n)) =
      subst (λ (x : List Property). IsAmong x (or_table (table_in opened c n) (kept_in opened id n))) (ap (λ (x : ℕ). table_in opened x n) same ∙ some-table (table_in opened d n) table k) (among-new (table_in opened c n) (kept_in opened id n)) in
      subst (λ (x : Bool). IsAmong table (cond x (or_table (table_in opened c n) (kept_in opened id n)) (kept_in opened id n))) (sym test) new

  told_now : (d : ℕ) (id : List ℕ) (table : List Property) → id_in d n ≡ Some id → snapshot_in opened d (Heard c (SaveYourselfDone true) ∷ n) ≡ Some table → IsAmong table (kept_in opened id (Heard c (SaveYourselfDone true) ∷ n))
  told_now d id table i k = told_at d id table (eqb c d) (was_asked d n) refl refl i k

standing-heard : (opened : Book) (c : ℕ) (m : XsmpMessage) (n : List Note) → Standing opened n → Standing opened (Heard c m ∷ n)
standing-heard opened c (SaveYourselfDone true) n s = heard-done opened c n s
standing-heard opened c (SaveYourselfDone false) n s = record { holds = s.holds; told = s.told; alone = s.alone; held = s.held; own_ids = s.own_ids; asked = s.asked }
standing-heard opened c m n s = record { holds = s.holds; told = s.told; alone = s.alone; held = s.held; own_ids = s.own_ids; asked = s.asked }

-- A client that was never asked to save has no snapshot

not-asked : (b w : Bool) (x o : Option (List Property)) → w ≡ false → o ≡ None → cond (b && w) x o ≡ None
not-asked b true x o e k = absurd (grind arith)
not-asked true false x o e k = k
not-asked false false x o e k = k

not-named : (b w : Bool) (o : Option (List Property)) → (not b && w) ≡ false → (w ≡ false → o ≡ None) → cond b None o ≡ None
not-named true w o e k = refl
not-named false w o e k = k e

no-snapshot : (opened : Book) (c : ℕ) (n : List Note) → was_asked c n ≡ false → snapshot_in opened c n ≡ None
no-snapshot opened c [] e = refl
no-snapshot opened c (Heard d (SaveYourselfDone true) ∷ n) e = not-asked (eqb d c) (was_asked c n) (Some (table_in opened c n)) (snapshot_in opened c n) e (no-snapshot opened c n e)
no-snapshot opened c (Heard d (SaveYourselfDone false) ∷ n) e = no-snapshot opened c n e
no-snapshot opened c (Given d (SaveYourself kind shutdown style fast) ∷ n) e =
    not-named (eqb d c) (was_asked c n) (snapshot_in opened c n) (none-too (eqb d c) (was_asked c n) e) (λ k. no-snapshot opened c n k) where
      none-too : (b w : Bool) → (b || w) ≡ false → (not b && w) ≡ false
      none-too true w k = absurd (grind arith)
      none-too false w k = k
no-snapshot opened c (Given d ShutdownCancelled ∷ n) e = not-named (eqb d c) (was_asked c n) (snapshot_in opened c n) e (λ k. no-snapshot opened c n k)
no-snapshot opened c (Gone d ∷ n) e = not-named (eqb d c) (was_asked c n) (snapshot_in opened c n) e (λ k. no-snapshot opened c n k)
no-snapshot opened c (note ∷ n) e = no-snapshot opened c n e

-- A message that is sent

given-reply : (opened : Book) (c : ℕ) (new : List ℕ) (n : List Note) → id_in c n ≡ None → NobodyHas new n → Standing opened n → Standing opened (Given c (RegisterClientReply new) ∷ n)
given-reply opened c new n none free s = record {
  holds = s.holds;
  told = λ d id table i k. told_at d id table (own-at d id i) k;
  alone = λ id nobody. s.alone id (λ d i. nobody d (still d id i));
  held = λ id e. held_at id (bytes_eq id new) refl e;
  own_ids = λ d e id i j. own_at d e id (own-at d id i) (own-at e id j);
  asked = λ d e. asked_at d (eqb c d) (s.asked d e);
} where
  own-at : (d : ℕ) (id : List ℕ) → cond (eqb c d) (Some new) (id_in d n) ≡ Some id → ((eqb c d ≡ true) × (new ≡ id)) ⊎ (id_in d n ≡ Some id)
  own-at d id i = own-case (eqb c d) new id (id_in d n) i

  -- who has an ID is another
  is_other : (d : ℕ) (id : List ℕ) → id_in d n ≡ Some id → eqb c d ≡ true → ⊥
  is_other d id i e = no-some id (sym none ∙ ap (λ (x : ℕ). id_in x n) (same-conn c d e) ∙ i)

  other_at : (d : ℕ) (id : List ℕ) (b : Bool) → (b ≡ true → ⊥) → id_in d n ≡ Some id → cond b (Some new) (id_in d n) ≡ Some id
  other_at d id true f i = absurd (f refl)
  other_at d id false f i = i

  still : (d : ℕ) (id : List ℕ) → id_in d n ≡ Some id → cond (eqb c d) (Some new) (id_in d n) ≡ Some id
  still d id i = other_at d id (eqb c d) (is_other d id i) i

  unasked : (b : Bool) → was_asked c n ≡ b → b ≡ false
  unasked true e = absurd (no-id (id_in c n) none (s.asked c e)) where
    no-id : (o : Option (List ℕ)) → o ≡ None → is_some o ≡ true → ⊥
    no-id None e k = grind arith
    no-id (Some x) e k = grind arith
  unasked false e = refl

  told_at : (d : ℕ) (id : List ℕ) (table : List Property) → ((eqb c d ≡ true) × (new ≡ id)) ⊎ (id_in d n ≡ Some id) → snapshot_in opened d n ≡ Some table → IsAmong table (kept_in opened id n)
  told_at d id table (inl x) k = absurd (no-some table (sym (no-snapshot opened c n (unasked (was_asked c n) refl)) ∙ ap (λ (y : ℕ). snapshot_in opened y n) (same-conn c d x.0) ∙ k))
  told_at d id table (inr i) k = s.told d id table i k

  held_at : (id : List ℕ) (b : Bool) → bytes_eq id new ≡ b → (b || is_held id n) ≡ true → (d : ℕ) × (cond (eqb c d) (Some new) (id_in d n) ≡ Some id)
  held_at id true t e = (c, ap (λ (b : Bool). cond b (Some new) (id_in c n)) (own c) ∙ ap (λ (x : List ℕ). Some x) (sym (same_text id new (sym t))))
  held_at id false t e = let d : (d : ℕ) × (id_in d n ≡ Some id) = s.held id e in (d.0, still d.0 id d.1)

  own_at : (d e : ℕ) (id : List ℕ) → ((eqb c d ≡ true) × (new ≡ id)) ⊎ (id_in d n ≡ Some id) → ((eqb c e ≡ true) × (new ≡ id)) ⊎ (id_in e n ≡ Some id) → d ≡ e
  own_at d e id (inl x) (inl y) = sym (same-conn c d x.0) ∙ same-conn c e y.0
  own_at d e id (inl x) (inr j) = absurd (free e (j ∙ ap (λ (t : List ℕ). Some t) (sym x.1)))
  own_at d e id (inr i) (inl y) = absurd (free d (i ∙ ap (λ (t : List ℕ). Some t) (sym y.1)))
  own_at d e id (inr i) (inr j) = s.own_ids d e id i j

  asked_at : (d : ℕ) (b : Bool) → is_some (id_in d n) ≡ true → is_some (cond b (Some new) (id_in d n)) ≡ true
  asked_at d true e = refl
  asked_at d false e = e

-- a save is complete, where the test says so
given-completed : (opened : Book) (c : ℕ) (n : List Note) (t : Bool) → (t ≡ true → Completes opened c n) → Standing opened n → (id : List ℕ)
    → Holding (book_in opened n) id (cond (has_that_id id (id_in c n) && t) (completed (snapshot_in opened c n) (kept_in opened id n)) (kept_in opened id n))
given-completed opened c n t f s id = by-test (Holding (book_in opened n) id) (has_that_id id (id_in c n) && t) (completed (snapshot_in opened c n) (kept_in opened id n)) (kept_in opened id n)
    (λ e. holds-completed (book_in opened n) id (snapshot_in opened c n) (kept_in opened id n) (λ table k l. f (and-right (has_that_id id (id_in c n)) t e) id table (has-id id (id_in c n) (and-left (has_that_id id (id_in c n)) t e)) k l) (s.holds id))
    (λ e. s.holds id)

told-completed : (opened : Book) (c : ℕ) (n : List Note) (t : Bool) → Standing opened n → (d : ℕ) (id : List ℕ) (table : List Property) → id_in d n ≡ Some id → snapshot_in opened d n ≡ Some table
    → IsAmong table (cond (has_that_id id (id_in c n) && t) (completed (snapshot_in opened c n) (kept_in opened id n)) (kept_in opened id n))
told-completed opened c n t s d id table i k = by-test (IsAmong table) (has_that_id id (id_in c n) && t) (completed (snapshot_in opened c n) (kept_in opened id n)) (kept_in opened id n)
    (λ e. among-completed table (snapshot_in opened c n) (kept_in opened id n) (ap (λ (x : ℕ). snapshot_in opened x n) (s.own_ids c d id (has-id id (id_in c n) (and-left (has_that_id id (id_in c n)) t e)) i) ∙ k))
    (λ e. s.told d id table i k)

alone-completed : (opened : Book) (c : ℕ) (n : List Note) (t : Bool) → Standing opened n → (id : List ℕ) → NobodyHas id n
    → list_all is_lasting (cond (has_that_id id (id_in c n) && t) (completed (snapshot_in opened c n) (kept_in opened id n)) (kept_in opened id n)) ≡ true
alone-completed opened c n t s id none = by-test (λ x. list_all is_lasting x ≡ true) (has_that_id id (id_in c n) && t) (completed (snapshot_in opened c n) (kept_in opened id n)) (kept_in opened id n)
    (λ e. absurd (none c (has-id id (id_in c n) (and-left (has_that_id id (id_in c n)) t e)))) (λ e. s.alone id none)

and-true : (b : Bool) → (b && true) ≡ b
and-true true = refl
and-true false = refl

given-complete : (opened : Book) (c : ℕ) (n : List Note) → Completes opened c n → Standing opened n → Standing opened (Given c SaveComplete ∷ n)
given-complete opened c n f s = record {
  holds = λ id. subst (λ (b : Bool). Holding (book_in opened n) id (cond b (completed (snapshot_in opened c n) (kept_in opened id n)) (kept_in opened id n))) (and-true (has_that_id id (id_in c n))) (given-completed opened c n true (λ e. f) s id);
  told = λ d id table i k. subst (λ (b : Bool). IsAmong table (cond b (completed (snapshot_in opened c n) (kept_in opened id n)) (kept_in opened id n))) (and-true (has_that_id id (id_in c n))) (told-completed opened c n true s d id table i k);
  alone = λ id none. subst (λ (b : Bool). list_all is_lasting (cond b (completed (snapshot_in opened c n) (kept_in opened id n)) (kept_in opened id n)) ≡ true) (and-true (has_that_id id (id_in c n))) (alone-completed opened c n true s id none);
  held = s.held;
  own_ids = s.own_ids;
  asked = s.asked;
}

given-die : (opened : Book) (c : ℕ) (n : List Note) → (is_to_save c n ≡ true → Completes opened c n) → Standing opened n → Standing opened (Given c Die ∷ n)
given-die opened c n f s = record {
  holds = given-completed opened c n (is_to_save c n) f s;
  told = told-completed opened c n (is_to_save c n) s;
  alone = alone-completed opened c n (is_to_save c n) s;
  held = s.held;
  own_ids = s.own_ids;
  asked = s.asked;
}

standing-given : (opened : Book) (c : ℕ) (m : XsmpMessage) (n : List Note) → Asks opened (Given c m) n → Standing opened n → Standing opened (Given c m ∷ n)
standing-given opened c (RegisterClientReply id) n a s = given-reply opened c id n a.0 a.1 s
standing-given opened c (SaveYourself kind shutdown style fast) n a s = record {
  holds = s.holds;
  told = λ d id table i k. s.told d id table i (gone-or (eqb c d) table (snapshot_in opened d n) k);
  alone = s.alone;
  held = s.held;
  own_ids = s.own_ids;
  asked = λ d e. asked_at d (eqb c d) refl e;
} where
  asked_at : (d : ℕ) (b : Bool) → eqb c d ≡ b → (b || was_asked d n) ≡ true → is_some (id_in d n) ≡ true
  asked_at d true k e = ap (λ (x : ℕ). is_some (id_in x n)) (sym (same-conn c d k)) ∙ a
  asked_at d false k e = s.asked d e
standing-given opened c SaveComplete n a s = given-complete opened c n a s
standing-given opened c Die n a s = given-die opened c n a s
standing-given opened c ShutdownCancelled n a s = record {
  holds = s.holds;
  told = λ d id table i k. s.told d id table i (gone-or (eqb c d) table (snapshot_in opened d n) k);
  alone = s.alone;
  held = s.held;
  own_ids = s.own_ids;
  asked = λ d e. s.asked d (and-after (eqb c d) (was_asked d n) e);
}
standing-given opened c m n a s = record { holds = s.holds; told = s.told; alone = s.alone; held = s.held; own_ids = s.own_ids; asked = s.asked }

-- A connection is gone

pub holds-gone : (opened book : Book) (c : ℕ) (n : List Note) (id : List ℕ) → Holding book id (kept_in opened id n) → Holding book id (kept_in opened id (Gone c ∷ n))
holds-gone opened book c n id h = by-test (Holding book id) (has_that_id id (id_in c n)) (lasting (kept_in opened id n)) (kept_in opened id n) (λ e. holds-lasting book id (kept_in opened id n) h) (λ e. h)

standing-gone : (opened : Book) (c : ℕ) (n : List Note) → Standing opened n → Standing opened (Gone c ∷ n)
standing-gone opened c n s = record {
  holds = λ id. holds-gone opened (book_in opened n) c n id (s.holds id);
  told = λ d id table i k. by-test (IsAmong table) (has_that_id id (id_in c n)) (lasting (kept_in opened id n)) (kept_in opened id n)
      (λ e. among-lasting table (kept_in opened id n) (was_told d id table i k)) (λ e. was_told d id table i k);
  alone = λ id none. by-test (λ x. list_all is_lasting x ≡ true) (has_that_id id (id_in c n)) (lasting (kept_in opened id n)) (kept_in opened id n)
      (λ e. all-lasting (kept_in opened id n)) (λ e. s.alone id (λ d i. none d (stays_there d id e i)));
  held = λ id e. held_at id (has_that_id id (id_in c n)) refl e;
  own_ids = λ d e id i j. s.own_ids d e id (gone-had (eqb c d) id (id_in d n) i) (gone-had (eqb c e) id (id_in e n) j);
  asked = λ d e. asked_at d (eqb c d) e;
} where
  was_told : (d : ℕ) (id : List ℕ) (table : List Property) → cond (eqb c d) None (id_in d n) ≡ Some id → cond (eqb c d) None (snapshot_in opened d n) ≡ Some table → IsAmong table (kept_in opened id n)
  was_told d id table i k = s.told d id table (gone-had (eqb c d) id (id_in d n) i) (gone-or (eqb c d) table (snapshot_in opened d n) k)

  -- who has an ID that the one who leaves hasn't
  stays_there : (d : ℕ) (id : List ℕ) → has_that_id id (id_in c n) ≡ false → id_in d n ≡ Some id → cond (eqb c d) None (id_in d n) ≡ Some id
  stays_there d id f i = not-gone (eqb c d) id (id_in d n) (λ e. others-have id (id_in c n) f (ap (λ (x : ℕ). id_in x n) (same-conn c d e) ∙ i)) i

  held_at : (id : List ℕ) (b : Bool) → has_that_id id (id_in c n) ≡ b → (not b && is_held id n) ≡ true → (d : ℕ) × (cond (eqb c d) None (id_in d n) ≡ Some id)
  held_at id true t e = absurd (grind arith)
  held_at id false t e = let d : (d : ℕ) × (id_in d n ≡ Some id) = s.held id e in (d.0, stays_there d.0 id t d.1)

  asked_at : (d : ℕ) (b : Bool) → (not b && was_asked d n) ≡ true → is_some (cond b None (id_in d n)) ≡ true
  asked_at d true e = absurd (grind arith)
  asked_at d false e = s.asked d e

-- An order

pub holds-ordered : (opened book : Book) (order : Order) (n : List Note) (id : List ℕ) → Holding book id (kept_in opened id n) → Holding book id (kept_in opened id (Ordered order ∷ n))
holds-ordered opened book (Forget other) n id h = by-test (Holding book id) (bytes_eq id other && not (is_held id n)) [] (kept_in opened id n) (λ e. none-holds book id) (λ e. h)
holds-ordered opened book order n id h = h

standing-ordered : (opened : Book) (order : Order) (n : List Note) → Standing opened n → Standing opened (Ordered order ∷ n)
standing-ordered opened (Forget other) n s = record {
  holds = λ id. holds-ordered opened (book_in opened n) (Forget other) n id (s.holds id);
  told = λ d id table i k. by-test (IsAmong table) (bytes_eq id other && not (is_held id n)) [] (kept_in opened id n) (λ e. none-among table) (λ e. s.told d id table i k);
  alone = λ id none. by-test (λ x. list_all is_lasting x ≡ true) (bytes_eq id other && not (is_held id n)) [] (kept_in opened id n) (λ e. refl) (λ e. s.alone id none);
  held = s.held;
  own_ids = s.own_ids;
  asked = s.asked;
}
standing-ordered opened order n s = record { holds = s.holds; told = s.told; alone = s.alone; held = s.held; own_ids = s.own_ids; asked = s.asked }

-- A book is written

standing-wrote : (opened written : Book) (n : List Note) → Fates opened written n → Standing opened n → Standing opened (Wrote written ∷ n)
standing-wrote opened written n f s = record { holds = λ id some. fate_at id (s.holds id some) some; told = s.told; alone = s.alone; held = s.held; own_ids = s.own_ids; asked = s.asked } where
  by_fate : (id : List ℕ) (table : List Property) → Contains (kept_in opened id n) table → kept_in opened id n ≢ [] → Fate opened written n id table → Stands written id (kept_in opened id n)
  by_fate id table one some (Stays there) = record { table = table; one = one; entry = there }
  by_fate id table one some (Gives c saved i k there) =
      let told : Contains (kept_in opened id n) saved × (is_eligible saved ≡ true) = s.told c id saved i k some in
      record { table = saved; one = told.0; entry = there told.1 }
  by_fate id table one some (Leaves none l) = absurd (differ (all-has is_lasting table (kept_in opened id n) one (s.alone id none)) l)
  by_fate id table one some (Goes e) = absurd (some e)

  fate_at : (id : List ℕ) → Stands (book_in opened n) id (kept_in opened id n) → kept_in opened id n ≢ [] → Stands written id (kept_in opened id n)
  fate_at id t some = by_fate id t.table t.one some (f id t.table t.entry)

-- the entries of a book stay where only its pending commands change
pub fates-same : (opened written : Book) (n : List Note) → (book_in opened n).entries ≡ written.entries → Fates opened written n
fates-same opened written n e id table there = Stays (subst (λ (xs : List Entry). Contains xs (record { id = id; table = table })) e there)

-- Each note

pub standing-step : (opened : Book) (note : Note) (n : List Note) → Asks opened note n → Standing opened n → Standing opened (note ∷ n)
standing-step opened (Heard c m) n a s = standing-heard opened c m n s
standing-step opened (Given c m) n a s = standing-given opened c m n a s
standing-step opened (Gone c) n a s = standing-gone opened c n s
standing-step opened (Wrote written) n a s = standing-wrote opened written n a s
standing-step opened (Started reason command) n a s = record { holds = s.holds; told = s.told; alone = s.alone; held = s.held; own_ids = s.own_ids; asked = s.asked }
standing-step opened (Ordered order) n a s = standing-ordered opened order n s

-- what is said ends nothing that stands
pub holds-heard : (opened book : Book) (c : ℕ) (m : XsmpMessage) (n : List Note) (id : List ℕ) → Holding book id (kept_in opened id n) → Holding book id (kept_in opened id (Heard c m ∷ n))
holds-heard opened book c (SaveYourselfDone true) n id h = by-test (Holding book id) (has_that_id id (id_in c n) && was_asked c n) (or_table (table_in opened c n) (kept_in opened id n)) (kept_in opened id n)
    (λ e. holds-or book id (table_in opened c n) (kept_in opened id n) h) (λ e. h)
holds-heard opened book c (SaveYourselfDone false) n id h = h
holds-heard opened book c m n id h = h

-- A book is opened

found-stands : (id : List ℕ) (entries all : List Entry) → ((entry : Entry) → Contains entries entry → Contains all entry) → (entry : Entry) → find (is_of id) entries ≡ Some entry → Contains all (record { id = id; table = entry.table })
found-stands id [] all f entry e = absurd (grind arith)
found-stands id (first ∷ entries) all f entry e = found_at (is_of id first) refl e (λ k. found-stands id entries all (λ x h. f x (contains-later first x entries h)) entry k) where
  same : (x y : Entry) → Some x ≡ Some y → x ≡ y
  same x y k = cc

  found_at : (b : Bool) → is_of id first ≡ b → cond b (Some first) (find (is_of id) entries) ≡ Some entry → (find (is_of id) entries ≡ Some entry → Contains all (record { id = id; table = entry.table })) → Contains all (record { id = id; table = entry.table })
  found_at true t k g =
      let s : first ≡ entry = same first entry k in
      let i : id ≡ first.id = same_text id first.id (sym t) in
      subst (λ (x : Entry). Contains all (record { id = id; table = x.table })) s (subst (λ (x : List ℕ). Contains all (record { id = x; table = first.table })) (sym i) (f first (contains-first first entries)))
  found_at false t k g = g k

pub holds-opened : (book : Book) (id : List ℕ) → Holding book id (opened_table (entry_of id book))
holds-opened book id = opened_at (entry_of id book) refl where
  opened_at : (o : Option Entry) → entry_of id book ≡ o → Holding book id (opened_table o)
  opened_at None e = none-holds book id
  opened_at (Some entry) e = holds-lasting book id (entry.table ∷ []) (λ some. record { table = entry.table; one = contains-first entry.table []; entry = found-stands id book.entries book.entries (λ x h. h) entry e })

alone-opened : (o : Option Entry) → list_all is_lasting (opened_table o) ≡ true
alone-opened None = refl
alone-opened (Some entry) = all-lasting (entry.table ∷ [])

pub standing-first : (book : Book) → Standing book []
standing-first book = record {
  holds = holds-opened book;
  told = λ c id table i k. absurd (no-some id i);
  alone = λ id none. alone-opened (entry_of id book);
  held = λ id e. absurd (grind arith);
  own_ids = λ c d id i j. absurd (no-some id i);
  asked = λ c e. absurd (grind arith);
}
