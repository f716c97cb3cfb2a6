-- A session in a list of sessions, as it is found, taken out and put back.
use Rattle.std.proofs.Common.{◌≡◌, ℕ, ◌+◌, ◌<◌, ◌≤◌, Bool, true, false, cond, List, length, drop, get_or, Option, Some, None, sym, ap, ap₂, ◌∙◌}
use Rattle.std.specs.Prelude.{find, option_and_then, option_map}
use Rattle.std.proofs.lemmas.List.{drop_all}
use Rattle.owned_lists.specs.declared.commands.Command.{Command}
use Rattle.checkpoint_records.specs.Books.{chosen_from, entries_in, entries_of, others_than, sessions, stored}
use Rattle.checkpoint_records.specs.declared.records.Book.{Book}
use Rattle.checkpoint_records.specs.declared.records.Entry.{Entry}
use Rattle.checkpoint_records.specs.declared.records.Named.{Named}
use Rattle.checkpoint_changes.specs.Changes.{applied, has_entry, session_with, sessions_with, sessions_without, with_entries_at, with_entry, with_sessions, without, without_at}
use Rattle.checkpoint_changes.specs.declared.changes.Change.TheVariants.{Put, Remove, Unpend}
use Rattle.checkpoint_changes.proofs.ApplyLaws.{next_item}

-- ---- the session that has an ID

abbrev found_of : List ℕ → Named → List Named → Bool → Option (List ℕ)
found_of id x rest b = option_map (λ (session : Named). session.name) (cond b (Some x) (find (λ (session : Named). has_entry id session.entries) rest))

pub with_here : (id : List ℕ) (all : List Named) (i : ℕ) (x : Named) (items : List Entry) (name : List ℕ) → i < length all → x ≡ get_or all i x → items ≡ x.entries → has_entry id items ≡ true → name ≡ x.name → session_with id (drop i all) ≡ session_with id all
    → Some name ≡ session_with id all
with_here id all i x items name lt is is_items has is_name so_far =
    let e : has_entry id x.entries ≡ true = ap (has_entry id) (sym is_items) ∙ has in
    ap (λ (n : List ℕ). Some n) is_name ∙ sym (ap (session_with id) (next_item i all x lt is) ∙ ap (found_of id x (drop (i + 1) all)) e) ∙ so_far

pub with_later : (id : List ℕ) (all : List Named) (i : ℕ) (x : Named) (items : List Entry) → i < length all → x ≡ get_or all i x → items ≡ x.entries → has_entry id items ≡ false → session_with id (drop i all) ≡ session_with id all
    → session_with id (drop (i + 1) all) ≡ session_with id all
with_later id all i x items lt is is_items lacks so_far =
    let e : has_entry id x.entries ≡ false = ap (has_entry id) (sym is_items) ∙ lacks in
    sym (ap (session_with id) (next_item i all x lt is) ∙ ap (found_of id x (drop (i + 1) all)) e) ∙ so_far

pub with_none : (id : List ℕ) (all : List Named) (i : ℕ) → length all ≤ i → session_with id (drop i all) ≡ session_with id all → None ≡ session_with id all
with_none id all i past so_far = ap (session_with id) (sym (drop_all i all past)) ∙ so_far

-- ---- the sessions without an entry

abbrev left_at : List ℕ → List Named → Option (List ℕ) → Option (List Named)
left_at id all found = option_and_then (λ (name : List ℕ). option_map (λ (entries : List Entry). with_entries_at name entries all) (without id (entries_of name all))) found

pub none_found : (id : List ℕ) (all slice : List Named) → slice ≡ all → None ≡ session_with id slice → None ≡ sessions_without id all
none_found id all slice is none = ap (left_at id all) (none ∙ ap (session_with id) is)

at_name : (id name text : List ℕ) (all slice : List Named) (entries : List Entry) → slice ≡ all → Some name ≡ session_with id slice → text ≡ name → entries ≡ entries_of text all
    → sessions_without id all ≡ option_map (λ (es : List Entry). with_entries_at name es all) (without id entries)
at_name id name text all slice entries is found is_text is_entries =
    ap (left_at id all) (sym (found ∙ ap (session_with id) is)) ∙ ap (λ (es : List Entry). option_map (λ (l : List Entry). with_entries_at name l all) (without id es)) (sym (is_entries ∙ ap (λ (n : List ℕ). entries_of n all) is_text))

pub none_gone : (id name text : List ℕ) (all slice : List Named) (entries : List Entry) → slice ≡ all → Some name ≡ session_with id slice → text ≡ name → entries ≡ entries_of text all → None ≡ without id entries → None ≡ sessions_without id all
none_gone id name text all slice entries is found is_text is_entries none =
    ap (option_map (λ (es : List Entry). with_entries_at name es all)) none ∙ sym (at_name id name text all slice entries is found is_text is_entries)

pub some_gone : (id name text : List ℕ) (all slice : List Named) (entries left : List Entry) (others after : List Named) → slice ≡ all → Some name ≡ session_with id slice → text ≡ name → entries ≡ entries_of text all → others ≡ others_than text all
    → Some left ≡ without id entries → after ≡ stored name left others → Some after ≡ sessions_without id all
some_gone id name text all slice entries left others after is found is_text is_entries is_others gone is_after =
    ap (λ (l : List Named). Some l) (is_after ∙ ap (stored name left) (is_others ∙ ap (λ (n : List ℕ). others_than n all) is_text))
    ∙ ap (option_map (λ (es : List Entry). with_entries_at name es all)) gone ∙ sym (at_name id name text all slice entries is found is_text is_entries)

-- ---- the sessions with an entry

abbrev put_at : List ℕ → Entry → List Named → Bool → Option (List Named)
put_at name entry all b = cond b None (Some (with_entries_at name (with_entry entry (entries_of name all)) all))

pub stands_elsewhere : (name : List ℕ) (entry : Entry) (all others slice : List Named) (text id : List ℕ) → text ≡ name → id ≡ entry.id → others ≡ others_than text all → slice ≡ others → has_entry id (entries_in slice) ≡ true → None ≡ sessions_with name entry all
stands_elsewhere name entry all others slice text id is_text is_id is_others is_slice has =
    let e : has_entry entry.id (entries_in (others_than name all)) ≡ true =
    ap₂ (λ (i : List ℕ) (l : List Named). has_entry i (entries_in l)) (sym is_id) (sym (is_slice ∙ is_others ∙ ap (λ (n : List ℕ). others_than n all) is_text)) ∙ has in
    sym (ap (put_at name entry all) e)

pub put_in_place : (name : List ℕ) (entry : Entry) (all others slice after : List Named) (entries changed : List Entry) (text id : List ℕ) → text ≡ name → id ≡ entry.id → entries ≡ entries_of text all → others ≡ others_than text all → slice ≡ others
    → has_entry id (entries_in slice) ≡ false → changed ≡ with_entry entry entries → after ≡ stored name changed others → Some after ≡ sessions_with name entry all
put_in_place name entry all others slice after entries changed text id is_text is_id is_entries is_others is_slice lacks is_changed is_after =
    let here : others ≡ others_than name all = is_others ∙ ap (λ (n : List ℕ). others_than n all) is_text in
    let own : entries ≡ entries_of name all = is_entries ∙ ap (λ (n : List ℕ). entries_of n all) is_text in
    let e : has_entry entry.id (entries_in (others_than name all)) ≡ false = ap₂ (λ (i : List ℕ) (l : List Named). has_entry i (entries_in l)) (sym is_id) (sym (is_slice ∙ here)) ∙ lacks in
    ap (λ (l : List Named). Some l) (is_after ∙ ap₂ (stored name) (is_changed ∙ ap (with_entry entry) own) here) ∙ sym (ap (put_at name entry all) e)

-- ---- books

module _ (book : Book) (all : List Named) (is_all : all ≡ sessions book) where
  pub removed_none : (id : List ℕ) → None ≡ sessions_without id all → None ≡ applied book (Remove id)
  removed_none id none = ap (option_map (with_sessions book)) (none ∙ ap (sessions_without id) is_all)

  pub removed_some : (id name : List ℕ) (after : List Named) (next : Book) → Some after ≡ sessions_without id all → name ≡ book.name → next ≡ chosen_from name after book.pending book.epoch → Some next ≡ applied book (Remove id)
  removed_some id name after next some is_name is =
      ap (λ (b : Book). Some b) (is ∙ ap (λ (n : List ℕ). chosen_from n after book.pending book.epoch) is_name) ∙ ap (option_map (with_sessions book)) (some ∙ ap (sessions_without id) is_all)

  pub put_none : (session : List ℕ) (entry : Entry) → None ≡ sessions_with session entry all → None ≡ applied book (Put session entry)
  put_none session entry none = ap (option_map (with_sessions book)) (none ∙ ap (sessions_with session entry) is_all)

  pub put_some : (session : List ℕ) (entry : Entry) (name : List ℕ) (after : List Named) (next : Book) → Some after ≡ sessions_with session entry all → name ≡ book.name → next ≡ chosen_from name after book.pending book.epoch → Some next ≡ applied book (Put session entry)
  put_some session entry name after next some is_name is =
      ap (λ (b : Book). Some b) (is ∙ ap (λ (n : List ℕ). chosen_from n after book.pending book.epoch) is_name) ∙ ap (option_map (with_sessions book)) (some ∙ ap (sessions_with session entry) is_all)

abbrev pending_of : Book → Option (List Command) → Option Book
pending_of book found = option_map (λ (pending : List Command). record book { pending = pending }) found

pub unpended_none : (book : Book) (place : ℕ) → None ≡ without_at place book.pending → None ≡ applied book (Unpend place)
unpended_none book place none = ap (pending_of book) none

pub unpended_some : (book : Book) (place : ℕ) (pending : List Command) → Some pending ≡ without_at place book.pending → Some (record book { pending = pending }) ≡ applied book (Unpend place)
unpended_some book place pending some = ap (pending_of book) some
