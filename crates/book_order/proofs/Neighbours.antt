-- Each way in which a session makes the next book keeps the order of the one before it.
use Rattle.std.proofs.Common.{◌≡◌, ℕ, Bool, true, false, cond, not, List, [], ◌∷◌, ◌++◌, refl, sym, ap, ◌∙◌, subst, append_assoc}
use Rattle.std.proofs.lemmas.List.{append-nil}
use Rattle.std.proofs.lemmas.List.Elements.{filter-append}
use Rattle.std.proofs.lemmas.List.Folds.{list_any-append}
use Rattle.std.specs.Prelude.{filter, if◌then◌else◌}
use Rattle.std.specs.List.{AllByRecursion, IsDistinct}
use Rattle.std.specs.Str.{bytes_eq}
use lib.Pointwise.{bytes_decides}
use Rattle.owned_lists.specs.declared.commands.Command.{Command}
use Rattle.checkpoint_changes.specs.Plain.{KeepOrder, KeepsOrder, equal_command}
use Rattle.checkpoint_changes.proofs.EqualLaws.{command_decides}
use Rattle.checkpoint_records.specs.Books.{discards, entries_in, same_command}
use Rattle.checkpoint_records.specs.Rules.{KeepsRules, ids_of}
use Rattle.checkpoint_records.specs.declared.records.Book.{Book}
use Rattle.checkpoint_records.specs.declared.records.Entry.{Entry}
use Rattle.discard_ledger.specs.Discards.{each_once, is_among, with_command, with_commands, without_commands}
use Rattle.round_agreement.specs.Agreement.{Agreement}
use Rattle.session_model.specs.Books.{book_forgetting, next_book, next_entries, raised, with_entries}
use Rattle.session_model.specs.Moves.{History}
use Rattle.session_model.specs.Reading.{Store, reading}
use Rattle.session_model.specs.Readings as of
use Rattle.session_model.specs.Tables.{is_of}
use Rattle.session_model.proofs.Pending.{all-more, command_equiv, distinct-filter}
use Rattle.book_order.proofs.Beside.{chosen_differ, order_beside}
use Rattle.book_order.proofs.Entries.{order_next_entries}
use Rattle.book_order.proofs.Filters.{either_false, order_chosen, order_filter, order_same}

-- Commands that come behind others, each once

more_apart : (c : Command) (kept xs : List Command) → AllByRecursion (λ x. is_among x kept ≡ false) xs → AllByRecursion (λ x. same_command c x ≡ false) xs → AllByRecursion (λ x. is_among x (kept ++ c ∷ []) ≡ false) xs
more_apart c kept [] one two = tt
more_apart c kept (x ∷ xs) one two = (
  list_any-append (same_command x) kept (c ∷ []) ∙ either_false (is_among x kept) (is_among x (c ∷ [])) one.0 (either_false (same_command x c) false (sym (command_equiv.symm c x) ∙ two.0) refl),
  more_apart c kept xs one.1 two.1,
)

-- where none is there yet, and no two are the same, all of them come
all_come : (xs kept : List Command) → AllByRecursion (λ x. is_among x kept ≡ false) xs → IsDistinct same_command xs → with_commands kept xs ≡ kept ++ xs
unfolding IsDistinct
all_come [] kept apart differ = sym (append-nil kept)
all_come (c ∷ xs) kept apart differ =
    ap (λ (b : Bool). with_commands (if b then kept else kept ++ c ∷ []) xs) apart.0
    ∙ (all_come xs (kept ++ c ∷ []) (more_apart c kept xs apart.1 differ.0) differ.1 ∙ append_assoc kept (c ∷ []) xs)

none_yet : (xs : List Command) → AllByRecursion (λ x. is_among x [] ≡ false) xs
none_yet [] = tt
none_yet (x ∷ xs) = (refl, none_yet xs)

with-append : (kept xs ys : List Command) → with_commands kept (xs ++ ys) ≡ with_commands (with_commands kept xs) ys
with-append kept [] ys = refl
with-append kept (x ∷ xs) ys = with-append (with_command kept x) xs ys

one_behind : (kept : List Command) (c : Command) (b : Bool) → (added : List Command) × ((if b then kept else kept ++ c ∷ []) ≡ kept ++ added)
one_behind kept c true = ([], sym (append-nil kept))
one_behind kept c false = (c ∷ [], refl)

-- those that are there stay in front
behind : (kept ys : List Command) → (added : List Command) × (with_commands kept ys ≡ kept ++ added)
behind kept [] = ([], sym (append-nil kept))
behind kept (y ∷ ys) =
    let one = one_behind kept y (is_among y kept) in
    let rest = behind (with_command kept y) ys in
    (one.0 ++ rest.0, rest.1 ∙ (ap (λ cs. cs ++ rest.0) one.1 ∙ append_assoc kept one.0 rest.0))

-- The pending commands

-- what was pending stays but for those that the new entries tell, and others come behind
pending_parts : (gone pending more : List Command) → IsDistinct same_command pending → (added : List Command) × (each_once (without_commands gone (pending ++ more)) ≡ without_commands gone pending ++ added)
pending_parts gone pending more differ =
    let front : List Command = without_commands gone pending in
    let first : with_commands [] front ≡ front = all_come front [] (none_yet front) (distinct-filter same_command (λ c. not (is_among c gone)) pending differ) in
    let rest = behind front (without_commands gone more) in (
      rest.0,
      ap (with_commands []) (filter-append (λ c. not (is_among c gone)) pending more)
          ∙ (with-append [] front (without_commands gone more) ∙ (ap (λ cs. with_commands cs (without_commands gone more)) first ∙ rest.1)),
    )

order_parts : (gone pending new added : List Command) → new ≡ without_commands gone pending ++ added → AllByRecursion (λ c. is_among c gone ≡ false) new → KeepsOrder equal_command pending new
order_parts gone pending new added is none =
    subst (λ (cs : List Command). KeepsOrder equal_command pending cs) (sym is)
    (order_filter equal_command command_decides (λ c. not (is_among c gone)) pending added
    (all-more (λ c. is_among c gone ≡ false) (λ c. not (is_among c gone) ≡ true) (λ c e. ap not e) (without_commands gone pending ++ added)
    (subst (λ (cs : List Command). AllByRecursion (λ c. is_among c gone ≡ false) cs) is none)))

order_pending : (store : Store) (entries : List Entry) → IsDistinct same_command store.book.pending → KeepsRules (with_entries store entries) → KeepsOrder equal_command store.book.pending (with_entries store entries).pending
order_pending store entries differ rules =
    let more : List Command = discards store.book.entries ++ store.strays in
    let named : List Command = discards (entries ++ entries_in store.book.others) in
    let parts = pending_parts named store.book.pending more differ in
    order_parts named store.book.pending (with_entries store entries).pending parts.0
    (ap (λ cs. each_once (without_commands named cs)) (append_assoc store.book.pending (discards store.book.entries) store.strays) ∙ parts.1) rules.none_named

-- The books

pub order_next : (h : History) (round : Agreement) → KeepsRules (of.book h) → KeepsRules (next_book (reading h) round) → KeepOrder (of.book h) (next_book (reading h) round)
order_next h round rules next =
    order_beside (of.book h) (next_book (reading h) round) rules next refl refl (order_next_entries h round (chosen_differ (of.book h) rules)) (order_pending (reading h).store (next_entries (reading h) round) rules.commands_differ next)

other_ids : (id : List ℕ) (entries : List Entry) → ids_of (filter (λ entry. not (is_of id entry)) entries) ≡ filter (λ other. not (bytes_eq id other)) (ids_of entries)
other_ids id [] = refl
other_ids id (entry ∷ entries) = by (not (bytes_eq id entry.id)) (other_ids id entries)
  where
    by : (b : Bool) → ids_of (filter (λ e. not (is_of id e)) entries) ≡ filter (λ other. not (bytes_eq id other)) (ids_of entries)
        → ids_of (cond b (entry ∷ filter (λ e. not (is_of id e)) entries) (filter (λ e. not (is_of id e)) entries)) ≡ cond b (entry.id ∷ filter (λ other. not (bytes_eq id other)) (ids_of entries)) (filter (λ other. not (bytes_eq id other)) (ids_of entries))
    by true rest = ap (λ (ids : List (List ℕ)). entry.id ∷ ids) rest
    by false rest = rest

pub order_forgetting : (store : Store) (id : List ℕ) → KeepsRules store.book → KeepsRules (book_forgetting store id) → KeepOrder store.book (book_forgetting store id)
order_forgetting store id rules next =
    order_beside store.book (book_forgetting store id) rules next refl refl
    (subst (λ (ids : List (List ℕ)). KeepsOrder bytes_eq (ids_of store.book.entries) ids) (sym (other_ids id store.book.entries)) (order_chosen bytes_eq bytes_decides (λ other. not (bytes_eq id other)) (ids_of store.book.entries)))
    (order_pending store (filter (λ entry. not (is_of id entry)) store.book.entries) rules.commands_differ next)

-- commands that were tried are taken out
pub order_without : (book : Book) (gone : List Command) → KeepsRules book → KeepsRules (record book { pending = without_commands gone book.pending }) → KeepOrder book (record book { pending = without_commands gone book.pending })
order_without book gone rules next =
    order_beside book (record book { pending = without_commands gone book.pending }) rules next refl refl (order_same bytes_eq bytes_decides (ids_of book.entries)) (order_chosen equal_command command_decides (λ c. not (is_among c gone)) book.pending)

pub order_raised : (book : Book) → KeepsRules book → KeepsRules (raised book) → KeepOrder book (raised book)
order_raised book rules next = order_beside book (raised book) rules next refl refl (order_same bytes_eq bytes_decides (ids_of book.entries)) (order_same equal_command command_decides book.pending)
