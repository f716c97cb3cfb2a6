-- Which DiscardCommand a table has.
use Rattle.std.proofs.Common.{◌≡◌, refl, ℕ, Bool, true, false, cond, not, ◌||◌, List, [], ◌∷◌, filter, sym, ap, ◌∙◌, arith, inl, inr}
use Rattle.std.specs.Prelude.{Option, Some, None, codes, find, ◌⊎◌}
use Rattle.std.specs.List.{AllByRecursion, list_any, cons_option}
use Rattle.std.specs.Str.{bytes_eq}
use Rattle.std.specs.Cmp.Lexicographic.{same_text}
use Rattle.owned_lists.specs.declared.commands.Command.{Command}
use Rattle.ice_values.specs.declared.property.Property.{Property}
use Rattle.xsmp_properties.specs.Tables.{is_named, find_property, set_all, without_names}
use Rattle.checkpoint_records.specs.declared.records.Book.{Book}
use Rattle.checkpoint_records.specs.declared.records.Entry.{Entry}
use Rattle.checkpoint_records.specs.Books.{all_entries, same_command, discards, entries_in, names}
use Rattle.checkpoint_records.proofs.DistinctLaws.{all_front}
use Rattle.discard_ledger.specs.Discards.{discard_of, is_among}
use Rattle.session_model.specs.Tables.{is_full, is_same, is_of, first_table, set_table, table_in}
use Rattle.session_model.proofs.Sound.{or-true, or-either}
use Rattle.session_model.proofs.Ruled.{differ}
use Rattle.session_model.proofs.Pending.{command_equiv}
use Rattle.session_model.proofs.DiscardLaws.{last_named, find-all, last-either, tells, same-tells}
use Rattle.session_notes.specs.Keeping.{sets_discard}
use Rattle.session_notes.proofs.Tests.{or-none}

-- Tables

-- a list that doesn't set the command brings none
pub set-clear : (command : Command) (list items : List Property) → sets_discard command list ≡ false → is_same command (discard_of items) ≡ false → is_same command (discard_of (set_all items list)) ≡ false
set-clear command list items s c =
    same-tells command (set_all items list) ∙ ap (λ (o : Option Property). tells command o) (find-all (codes "DiscardCommand") list items) ∙ clear (last-either (codes "DiscardCommand") list (find_property (codes "DiscardCommand") items)) where
      clear : (last_named (codes "DiscardCommand") list (find_property (codes "DiscardCommand") items) ≡ last_named (codes "DiscardCommand") list None)
          ⊎ (last_named (codes "DiscardCommand") list (find_property (codes "DiscardCommand") items) ≡ find_property (codes "DiscardCommand") items)
          → tells command (last_named (codes "DiscardCommand") list (find_property (codes "DiscardCommand") items)) ≡ false
      clear (inl k) =
          ap (λ (o : Option Property). tells command o) k ∙ sym (ap (λ (o : Option Property). tells command o) (find-all (codes "DiscardCommand") list [])) ∙ sym (same-tells command (set_all [] list)) ∙ s
      clear (inr k) = ap (λ (o : Option Property). tells command o) k ∙ sym (same-tells command items) ∙ c

pub table-clear : (command : Command) (list items : List Property) → sets_discard command list ≡ false → is_same command (discard_of items) ≡ false → is_same command (discard_of (set_table list items)) ≡ false
table-clear command list items s c = table-at (is_full (set_all items list)) where
  table-at : (b : Bool) → is_same command (discard_of (cond b items (set_all items list))) ≡ false
  table-at true = c
  table-at false = set-clear command list items s c

-- what is deleted brings no command
find-kept : (test : Property → Bool) (name : List ℕ) (items : List Property) → ((p q : Property) → p.name ≡ q.name → test p ≡ test q) → (find_property name (filter test items) ≡ find_property name items) ⊎ (find_property name (filter test items) ≡ None)
find-kept test name [] t = inl refl
find-kept test name (p ∷ items) t = kept-at (test p) refl (find-kept test name items t) where
  none : (qs : List Property) → test p ≡ false → is_named name p ≡ true → find_property name (filter test qs) ≡ None
  none [] e n = refl
  none (q ∷ qs) e n = none-at (test q) refl (none qs e n) where
    none-at : (b : Bool) → test q ≡ b → find_property name (filter test qs) ≡ None → find_property name (cond b (q ∷ filter test qs) (filter test qs)) ≡ None
    none-at false k r = r
    none-at true k r = named-at (is_named name q) refl where
      named-at : (b : Bool) → is_named name q ≡ b → cond b (Some q) (find_property name (filter test qs)) ≡ None
      named-at false j = r
      named-at true j =
          let x : p.name ≡ q.name = sym (same_text name p.name (sym n)) ∙ same_text name q.name (sym j) in
          absurd (clash (test p) (test q) (t p q x) e k) where
            clash : (a b : Bool) → a ≡ b → a ≡ false → b ≡ true → ⊥
            clash a b e f g = grind arith

  kept-at : (b : Bool) → test p ≡ b → (find_property name (filter test items) ≡ find_property name items) ⊎ (find_property name (filter test items) ≡ None)
      → (find_property name (cond b (p ∷ filter test items) (filter test items)) ≡ cond (is_named name p) (Some p) (find_property name items)) ⊎ (find_property name (cond b (p ∷ filter test items) (filter test items)) ≡ None)
  kept-at true e (inl k) = inl (ap (λ (o : Option Property). cond (is_named name p) (Some p) o) k)
  kept-at true e (inr k) = here (is_named name p) k where
    here : (b : Bool) → find_property name (filter test items) ≡ None → (cond b (Some p) (find_property name (filter test items)) ≡ cond b (Some p) (find_property name items)) ⊎ (cond b (Some p) (find_property name (filter test items)) ≡ None)
    here true k = inl refl
    here false k = inr k
  kept-at false e (inr k) = inr k
  kept-at false e (inl k) = gone (is_named name p) refl where
    gone : (b : Bool) → is_named name p ≡ b → (find_property name (filter test items) ≡ cond b (Some p) (find_property name items)) ⊎ (find_property name (filter test items) ≡ None)
    gone true n = inr (none items e n)
    gone false n = inl k

pub without-clear : (command : Command) (gone : List (List ℕ)) (items : List Property) → is_same command (discard_of items) ≡ false → is_same command (discard_of (without_names gone items)) ≡ false
without-clear command gone items c =
    same-tells command (without_names gone items) ∙ clear (find-kept (λ p. not (list_any (λ name. is_named name p) gone)) (codes "DiscardCommand") items (λ p q e. ap (λ (x : List ℕ). not (list_any (λ name. bytes_eq name x) gone)) e)) where
      clear : (find_property (codes "DiscardCommand") (without_names gone items) ≡ find_property (codes "DiscardCommand") items) ⊎ (find_property (codes "DiscardCommand") (without_names gone items) ≡ None)
          → tells command (find_property (codes "DiscardCommand") (without_names gone items)) ≡ false
      clear (inl k) = ap (λ (o : Option Property). tells command o) k ∙ sym (same-tells command items) ∙ c
      clear (inr k) = ap (λ (o : Option Property). tells command o) k

-- Books

or-joined : (x y : Bool) → x ≡ false → y ≡ false → (x || y) ≡ false
or-joined true y e f = e
or-joined false y e f = f

any-cons : (command : Command) (o : Option Command) (xs : List Command) → list_any (same_command command) (cons_option o xs) ≡ (is_same command o || list_any (same_command command) xs)
any-cons command None xs = refl
any-cons command (Some other) xs = refl

-- a book names no command that is no entry's
pub names-none : (command : Command) (entries : List Entry) → AllByRecursion (λ entry. is_same command (discard_of entry.table) ≡ false) entries → list_any (same_command command) (discards entries) ≡ false
names-none command [] a = refl
names-none command (entry ∷ entries) a =
    any-cons command (discard_of entry.table) (discards entries) ∙ or-joined (is_same command (discard_of entry.table)) (list_any (same_command command) (discards entries)) a.0 (names-none command entries a.1)

pub none-names : (command : Command) (entries : List Entry) → list_any (same_command command) (discards entries) ≡ false → AllByRecursion (λ entry. is_same command (discard_of entry.table) ≡ false) entries
none-names command [] e = tt
none-names command (entry ∷ entries) e =
    let p : (is_same command (discard_of entry.table) ≡ false) × (list_any (same_command command) (discards entries) ≡ false) =
    or-none (is_same command (discard_of entry.table)) (list_any (same_command command) (discards entries)) (sym (any-cons command (discard_of entry.table) (discards entries)) ∙ e) in
    (p.0, none-names command entries p.1)

-- the table with which an ID begins
pub first-clear : (command : Command) (book : Book) (id : List ℕ) → names book command ≡ false → is_same command (discard_of (first_table book id)) ≡ false
first-clear command book id e = found book.entries (all_front (λ (entry : Entry). is_same command (discard_of entry.table) ≡ false) book.entries (entries_in book.others) (none-names command (all_entries book) e)) where
  found : (entries : List Entry) → AllByRecursion (λ entry. is_same command (discard_of entry.table) ≡ false) entries → is_same command (discard_of (table_in (find (is_of id) entries))) ≡ false
  found [] a = same-tells command []
  found (entry ∷ entries) a = found-at (is_of id entry) (found entries a.1) where
    found-at : (b : Bool) → is_same command (discard_of (table_in (find (is_of id) entries))) ≡ false → is_same command (discard_of (table_in (cond b (Some entry) (find (is_of id) entries)))) ≡ false
    found-at true k = a.0
    found-at false k = k

-- Commands that are the same

pub same-by : (a b : Command) (o : Option Command) → same_command a b ≡ true → is_same a o ≡ is_same b o
same-by a b None s = refl
same-by a b (Some c) s = command_equiv.congr a b c s

pub among-by : (a b : Command) (list : List Command) → same_command a b ≡ true → is_among a list ≡ is_among b list
among-by a b [] s = refl
among-by a b (c ∷ list) s = ap (λ (x : Bool). x || is_among a list) (command_equiv.congr a b c s) ∙ ap (λ (x : Bool). same_command b c || x) (among-by a b list s)

-- a command that passes a test which the same ones pass
pub among-kept : (gone list : List Command) (command : Command) → is_among command gone ≡ false → is_among command list ≡ true → is_among command (filter (λ c. not (is_among c gone)) list) ≡ true
among-kept gone [] command n e = e
among-kept gone (c ∷ list) command n e = kept-at (same_command command c) (is_among c gone) refl refl e (among-kept gone list command n) where
  kept-at : (b a : Bool) → same_command command c ≡ b → is_among c gone ≡ a → (b || is_among command list) ≡ true → (is_among command list ≡ true → is_among command (filter (λ x. not (is_among x gone)) list) ≡ true)
      → is_among command (cond (not a) (c ∷ filter (λ x. not (is_among x gone)) list) (filter (λ x. not (is_among x gone)) list)) ≡ true
  kept-at true true s t f g = absurd (differ (among-by command c gone s ∙ t) n)
  kept-at true false s t f g = ap (λ (x : Bool). x || is_among command (filter (λ x. not (is_among x gone)) list)) s
  kept-at false true s t f g = g f
  kept-at false false s t f g = ap (λ (x : Bool). same_command command c || x) (g f) ∙ or-true (same_command command c)

-- a command that is kept was there, and isn't among those that are gone
pub kept-among : (gone list : List Command) (command : Command) → is_among command (filter (λ c. not (is_among c gone)) list) ≡ true → (is_among command list ≡ true) × (is_among command gone ≡ false)
kept-among gone [] command e = absurd (grind arith)
kept-among gone (c ∷ list) command e = kept-at (is_among c gone) refl e (kept-among gone list command) where
  kept-at : (a : Bool) → is_among c gone ≡ a → is_among command (cond (not a) (c ∷ filter (λ x. not (is_among x gone)) list) (filter (λ x. not (is_among x gone)) list)) ≡ true
      → (is_among command (filter (λ x. not (is_among x gone)) list) ≡ true → (is_among command list ≡ true) × (is_among command gone ≡ false)) → ((same_command command c || is_among command list) ≡ true) × (is_among command gone ≡ false)
  kept-at true t f g = let k : (is_among command list ≡ true) × (is_among command gone ≡ false) = g f in (ap (λ (x : Bool). same_command command c || x) k.0 ∙ or-true (same_command command c), k.1)
  kept-at false t f g =
      or-either (same_command command c) (is_among command (filter (λ x. not (is_among x gone)) list))
      (λ s. (ap (λ (x : Bool). x || is_among command list) s, among-by command c gone s ∙ t))
      (λ s. let k : (is_among command list ≡ true) × (is_among command gone ≡ false) = g s in (ap (λ (x : Bool). same_command command c || x) k.0 ∙ or-true (same_command command c), k.1)) f
