-- The rules of a book that is put together from parts.
use Rattle.std.proofs.Common.{◌≡◌, ℕ, zero, suc, ◌+◌, ◌<◌, ◌≤◌, ◌^◌, Bool, true, false, cond, IsTrue, List, [], ◌∷◌, ◌++◌, length, drop, get_or, Option, Some, None, refl, sym, ap, ◌∙◌, subst, arith}
use Rattle.std.specs.Prelude.{option_map, option_and_then}
use Rattle.std.specs.List.{AllByRecursion, IsDistinct, list_any}
use Rattle.std.specs.Str.{bytes_eq}
use lib.Pointwise.{bytes_decides}
use Rattle.owned_lists.specs.declared.commands.Command.{Command}
use Rattle.ice_values.proofs.OptionLaws.{some_is, none_not_some}
use Rattle.std.proofs.lemmas.List.{map-append}
use Rattle.checkpoint_records.specs.Books.{all_entries, default_name, discards, entries_in, entries_of, others_than, same_command, sessions}
use Rattle.checkpoint_records.specs.Rules.{IsClientId, IsCommand, IsEntry, IsName, KeepsRules, ids_of}
use Rattle.checkpoint_records.specs.declared.head.Format.{Format}
use Rattle.checkpoint_records.specs.declared.head.Format.TheVariants.{Single, Several}
use Rattle.checkpoint_records.specs.declared.records.Book.{Book}
use Rattle.checkpoint_records.specs.declared.records.Entry.{Entry}
use Rattle.checkpoint_records.specs.declared.records.Named.{Named}
use Rattle.checkpoint_records.proofs.DistinctLaws.{all_append, all_behind, all_front, all_more, any_false, distinct_join, distinct_split}
use Rattle.checkpoint_records.proofs.NameLaws.{default_fits, turned}
use Rattle.checkpoint_changes.specs.Changes.{IsChange, MayBePut, applied, apply, has_entry, sessions_with, sessions_without, with_entries_at, with_entry, with_sessions, without, without_at}
use Rattle.checkpoint_changes.specs.Parts.{HasParts}
use Rattle.checkpoint_changes.specs.Together.{AreOfRuns, PutsIntoName}
use Rattle.checkpoint_changes.specs.declared.changes.Change.{Change}
use Rattle.checkpoint_changes.specs.declared.changes.Change.TheVariants.{Epoch, Pend, Put, Remove, Unpend}
use Rattle.checkpoint_changes.proofs.ApplyLaws.{next_item}
use Rattle.checkpoint_changes.proofs.SessionLaws.{AreIdsDistinct, IsFormed, all_formed, all_free, chosen_formed, formed_at, found_name, ids_free, in_book, in_session, puts, removes, without_front}

-- ---- all rules from the rules of parts

entries_of_runs : (epoch : ℕ) (entries : List Entry) → AllByRecursion (IsEntry 4294967295) entries → AreOfRuns epoch entries → AllByRecursion (IsEntry epoch) entries
entries_of_runs epoch [] h k = tt
entries_of_runs epoch (e ∷ entries) h k = (record { id = k.0; table = h.0.table }, entries_of_runs epoch entries h.1 k.1)

pub runs_of : (epoch : ℕ) (entries : List Entry) → AllByRecursion (IsEntry epoch) entries → AreOfRuns epoch entries
runs_of epoch [] h = tt
runs_of epoch (e ∷ entries) h = (h.0.id, runs_of epoch entries h.1)

pub whole_rules : (book : Book) → HasParts book → length (sessions book) ≤ 8 → length (all_entries book) ≤ 128 → length book.pending ≤ 320 → AreOfRuns book.epoch (all_entries book) → IsDistinct same_command book.pending
    → AllByRecursion (λ command. list_any (same_command command) (discards (all_entries book)) ≡ false) book.pending → KeepsRules book
whole_rules book parts few_sessions few_entries few_pending runs differ none_named = record {
  few_entries = few_entries;
  few_pending = few_pending;
  entries = entries_of_runs book.epoch (all_entries book) parts.entries runs;
  commands = parts.commands;
  ids_differ = parts.ids_differ;
  commands_differ = differ;
  none_named = none_named;
  called = subst IsName (sym parts.chosen) default_fits;
  stored = parts.stored;
  rising = parts.rising;
  apart = parts.apart;
  few_sessions = few_sessions;
}

-- ---- parts from rules

pub later_entries : (epoch : ℕ) (entries : List Entry) → epoch < 2 ^ 32 → AllByRecursion (IsEntry epoch) entries → AllByRecursion (IsEntry 4294967295) entries
later_entries epoch [] lt h = tt
later_entries epoch (e ∷ entries) lt h =
    (record { id = record { epoch = h.0.id.epoch; number = h.0.id.number; first = h.0.id.first; last = omega (arith, h.0.id.last, lt); fits = h.0.id.fits; is = h.0.id.is }; table = h.0.table }, later_entries epoch entries lt h.1)

pub parts_of : (book : Book) → KeepsRules book → book.name ≡ default_name → book.epoch < 2 ^ 32 → HasParts book
parts_of book rules chosen lt = record {
  entries = later_entries book.epoch (all_entries book) lt rules.entries;
  commands = rules.commands;
  ids_differ = rules.ids_differ;
  chosen = chosen;
  stored = rules.stored;
  rising = rules.rising;
  apart = rules.apart;
}

pub parts_formed : (book : Book) → HasParts book → IsFormed book
parts_formed book parts = record { called = subst IsName (sym parts.chosen) default_fits; stored = parts.stored; rising = parts.rising; apart = parts.apart }

-- ---- a change keeps the parts

pub without_all : (P : Entry → Type 0) (id : List ℕ) (entries left : List Entry) → without id entries ≡ Some left → AllByRecursion P entries → AllByRecursion P left
without_all P id [] left is h = absurd (none_not_some left is)
without_all P id (e ∷ entries) left is h = by (bytes_eq e.id id) (without id entries) is (λ rest r. without_all P id entries rest r h.1)
  where
    by : (b : Bool) (o : Option (List Entry)) → cond b (Some entries) (option_map (λ rest. e ∷ rest) o) ≡ Some left → ((rest : List Entry) → o ≡ Some rest → AllByRecursion P rest) → AllByRecursion P left
    by true o is more = subst (AllByRecursion P) (some_is entries left is) h.1
    by false None is more = absurd (none_not_some left is)
    by false (Some rest) is more = subst (AllByRecursion P) (some_is (e ∷ rest) left is) (h.0, more rest refl)

all_ids : (Q : List ℕ → Type 0) (entries : List Entry) → AllByRecursion Q (ids_of entries) → AllByRecursion (λ (e : Entry). Q e.id) entries
all_ids Q [] h = tt
all_ids Q (e ∷ entries) h = (h.0, all_ids Q entries h.1)

ids_all : (Q : List ℕ → Type 0) (entries : List Entry) → AllByRecursion (λ (e : Entry). Q e.id) entries → AllByRecursion Q (ids_of entries)
ids_all Q [] h = tt
ids_all Q (e ∷ entries) h = (h.0, ids_all Q entries h.1)

without_differ : (id : List ℕ) (entries left : List Entry) → without id entries ≡ Some left → IsDistinct bytes_eq (ids_of entries) → IsDistinct bytes_eq (ids_of left)
unfolding IsDistinct
without_differ id [] left is d = absurd (none_not_some left is)
without_differ id (e ∷ entries) left is d = by (bytes_eq e.id id) (without id entries) refl is (λ rest r. without_differ id entries rest r d.1)
  where
    by : (b : Bool) (o : Option (List Entry)) → without id entries ≡ o → cond b (Some entries) (option_map (λ rest. e ∷ rest) o) ≡ Some left → ((rest : List Entry) → o ≡ Some rest → IsDistinct bytes_eq (ids_of rest)) → IsDistinct bytes_eq (ids_of left)
    by true o same is more = subst (λ (l : List Entry). IsDistinct bytes_eq (ids_of l)) (some_is entries left is) d.1
    by false None same is more = absurd (none_not_some left is)
    by false (Some rest) same is more =
        subst (λ (l : List Entry). IsDistinct bytes_eq (ids_of l)) (some_is (e ∷ rest) left is)
        (ids_all (λ y. bytes_eq e.id y ≡ false) rest (without_all (λ x. bytes_eq e.id x.id ≡ false) id entries rest same (all_ids (λ y. bytes_eq e.id y ≡ false) entries d.0)), more rest refl)

pub put_each : (P : Entry → Type 0) (f : Entry) (entries : List Entry) → P f → AllByRecursion P entries → AllByRecursion P (with_entry f entries)
put_each P f [] p h = (p, tt)
put_each P f (e ∷ entries) p h = by (bytes_eq e.id f.id) (put_each P f entries p h.1)
  where
    by : (b : Bool) → AllByRecursion P (with_entry f entries) → AllByRecursion P (cond b (f ∷ entries) (e ∷ with_entry f entries))
    by true rest = (p, h.1)
    by false rest = (h.0, rest)

put_differ : (f : Entry) (entries : List Entry) → IsDistinct bytes_eq (ids_of entries) → IsDistinct bytes_eq (ids_of (with_entry f entries))
unfolding IsDistinct
put_differ f [] d = (tt, tt)
put_differ f (e ∷ entries) d = by (bytes_eq e.id f.id) refl (put_differ f entries d.1)
  where
    by : (b : Bool) → bytes_eq e.id f.id ≡ b → IsDistinct bytes_eq (ids_of (with_entry f entries)) → IsDistinct bytes_eq (ids_of (cond b (f ∷ entries) (e ∷ with_entry f entries)))
    by true same rest = (subst (λ (i : List ℕ). AllByRecursion (λ y. bytes_eq i y ≡ false) (ids_of entries)) ((bytes_decides e.id f.id).0 same) d.0, d.1)
    by false other rest =
        (ids_all (λ y. bytes_eq e.id y ≡ false) (with_entry f entries) (put_each (λ x. bytes_eq e.id x.id ≡ false) f entries other (all_ids (λ y. bytes_eq e.id y ≡ false) entries d.0)), rest)

pub at_all : (P : Command → Type 0) (n : ℕ) (commands left : List Command) → without_at n commands ≡ Some left → AllByRecursion P commands → AllByRecursion P left
at_all P n [] left is h = absurd (none_not_some left is)
at_all P zero (c ∷ commands) left is h = subst (AllByRecursion P) (some_is commands left is) h.1
at_all P (suc n) (c ∷ commands) left is h = by (without_at n commands) is (λ rest r. at_all P n commands rest r h.1)
  where
    by : (o : Option (List Command)) → option_map (λ rest. c ∷ rest) o ≡ Some left → ((rest : List Command) → o ≡ Some rest → AllByRecursion P rest) → AllByRecursion P left
    by None is more = absurd (none_not_some left is)
    by (Some rest) is more = subst (AllByRecursion P) (some_is (c ∷ rest) left is) (h.0, more rest refl)

unfoldable pub with_pending : Book → List Command → Book
with_pending book pending = record book { pending = pending }

-- an entry is put in front of others
pub put_front : (P : Entry → Type 0) (f : Entry) (entries others : List Entry) → P f → AllByRecursion P (entries ++ others) → AllByRecursion P (with_entry f entries ++ others)
put_front P f entries others p h = all_append P (with_entry f entries) others (put_each P f entries p (all_front P entries others h)) (all_behind P entries others h)

none_has : (id : List ℕ) (entries : List Entry) → has_entry id entries ≡ false → AllByRecursion (λ y. bytes_eq id y ≡ false) (ids_of entries)
none_has id [] e = tt
none_has id (x ∷ entries) e = (let h = any_false (bytes_eq x.id id) (has_entry id entries) e in (turned x.id id h.0, none_has id entries h.1))

pub put_apart : (f : Entry) (entries others : List Entry) → has_entry f.id others ≡ false → AreIdsDistinct (entries ++ others) → AreIdsDistinct (with_entry f entries ++ others)
put_apart f entries others nowhere d =
    let split : (xs : List Entry) → ids_of (xs ++ others) ≡ ids_of xs ++ ids_of others = λ xs. map-append (λ (e : Entry). e.id) xs others in
    let parts = distinct_split bytes_eq (ids_of entries) (ids_of others) (subst (IsDistinct bytes_eq) (split entries) d) in
    let apart : AllByRecursion (λ (e : Entry). AllByRecursion (λ y. bytes_eq e.id y ≡ false) (ids_of others)) entries = all_ids (λ id. AllByRecursion (λ y. bytes_eq id y ≡ false) (ids_of others)) entries parts.2 in
    let all = put_each (λ (e : Entry). AllByRecursion (λ y. bytes_eq e.id y ≡ false) (ids_of others)) f entries (none_has f.id others nowhere) apart in
    subst (IsDistinct bytes_eq) (sym (split (with_entry f entries)))
    (distinct_join bytes_eq (ids_of (with_entry f entries)) (ids_of others) (put_differ f entries parts.0) parts.1 (ids_all (λ id. AllByRecursion (λ y. bytes_eq id y ≡ false) (ids_of others)) (with_entry f entries) all))

-- the name of the session into which an entry is put
pub put_name : (format : Format) (name : List ℕ) → MayBePut format name → IsName name
put_name Single name is = subst IsName (sym is) default_fits
put_name Several name is = is

pub change_named : (format : Format) (change : Change) → IsChange format change → PutsIntoName change
change_named format (Epoch epoch) fits = tt
change_named format (Remove id) fits = tt
change_named format (Put name entry) fits = put_name format name fits.0
change_named format (Unpend place) fits = tt
change_named format (Pend command) fits = tt

-- the parts of a book whose sessions are others
sessions_parts : (book : Book) (name : List ℕ) (entries : List Entry) → HasParts book → IsName name
    → AllByRecursion (IsEntry 4294967295) (entries ++ entries_in (others_than name (sessions book))) → AreIdsDistinct (entries ++ entries_in (others_than name (sessions book)))
    → HasParts (with_sessions book (with_entries_at name entries (sessions book)))
sessions_parts book name entries parts is each distinct =
    let all = sessions book in
    let f = all_formed book (parts_formed book parts) in
    let formed = chosen_formed book.name (with_entries_at name entries all) book.pending book.epoch (parts_formed book parts).called (formed_at name entries all is f) in
    record {
      entries = in_book (AllByRecursion (IsEntry 4294967295)) (all_free (IsEntry 4294967295)) book name entries all is f each;
      commands = parts.commands;
      ids_differ = in_book AreIdsDistinct ids_free book name entries all is f distinct;
      chosen = parts.chosen;
      stored = formed.stored;
      rising = formed.rising;
      apart = formed.apart;
    }

pub parts_kept : (format : Format) (book : Book) (change : Change) (next : Book) → HasParts book → IsChange format change → applied book change ≡ Some next → HasParts next
unfolding with_pending
parts_kept format book (Epoch epoch) next parts fits is =
    subst HasParts (some_is (record book { epoch = epoch }) next is)
    (record { entries = parts.entries; commands = parts.commands; ids_differ = parts.ids_differ; chosen = parts.chosen; stored = parts.stored; rising = parts.rising; apart = parts.apart })
parts_kept format book (Remove id) next parts fits is = by (sessions_without id (sessions book)) refl is
  where
    by : (o : Option (List Named)) → sessions_without id (sessions book) ≡ o → option_map (with_sessions book) o ≡ Some next → HasParts next
    by None same e = absurd (none_not_some next e)
    by (Some after) same e =
        let all = sessions book in
        let formed = parts_formed book parts in
        let f = all_formed book formed in
        let r = removes id all after same in
        let others = entries_in (others_than r.name all) in
        let gone = without_front id (entries_of r.name all) r.left others r.gone in
        let each = without_all (IsEntry 4294967295) id (entries_of r.name all ++ others) (r.left ++ others) gone (in_session (AllByRecursion (IsEntry 4294967295)) (all_free (IsEntry 4294967295)) book r.name formed parts.entries) in
        let distinct = without_differ id (entries_of r.name all ++ others) (r.left ++ others) gone (in_session AreIdsDistinct ids_free book r.name formed parts.ids_differ) in
        subst HasParts (ap (with_sessions book) (sym r.is) ∙ some_is (with_sessions book after) next e) (sessions_parts book r.name r.left parts (found_name id r.name all r.called f.stored) each distinct)
parts_kept format book (Put name entry) next parts fits is = by (sessions_with name entry (sessions book)) refl is
  where
    by : (o : Option (List Named)) → sessions_with name entry (sessions book) ≡ o → option_map (with_sessions book) o ≡ Some next → HasParts next
    by None same e = absurd (none_not_some next e)
    by (Some after) same e =
        let all = sessions book in
        let formed = parts_formed book parts in
        let r = puts name entry all after same in
        let others = entries_in (others_than name all) in
        let each = put_front (IsEntry 4294967295) entry (entries_of name all) others fits.1 (in_session (AllByRecursion (IsEntry 4294967295)) (all_free (IsEntry 4294967295)) book name formed parts.entries) in
        let distinct = put_apart entry (entries_of name all) others r.nowhere (in_session AreIdsDistinct ids_free book name formed parts.ids_differ) in
        subst HasParts (ap (with_sessions book) (sym r.is) ∙ some_is (with_sessions book after) next e) (sessions_parts book name (with_entry entry (entries_of name all)) parts (put_name format name fits.0) each distinct)
parts_kept format book (Unpend place) next parts fits is = by (without_at place book.pending) refl is
  where
    by : (o : Option (List Command)) → without_at place book.pending ≡ o → option_map (λ pending. with_pending book pending) o ≡ Some next → HasParts next
    by None same e = absurd (none_not_some next e)
    by (Some left) same e =
        subst HasParts (some_is (with_pending book left) next e)
        (record { entries = parts.entries; commands = at_all IsCommand place book.pending left same parts.commands; ids_differ = parts.ids_differ; chosen = parts.chosen; stored = parts.stored; rising = parts.rising; apart = parts.apart })
parts_kept format book (Pend command) next parts fits is =
    subst HasParts (some_is (with_pending book (book.pending ++ command ∷ [])) next is)
    (record { entries = parts.entries; commands = all_more IsCommand book.pending command parts.commands fits; ids_differ = parts.ids_differ; chosen = parts.chosen; stored = parts.stored; rising = parts.rising; apart = parts.apart })

pub parts_after : (format : Format) (delta : List Change) (book next : Book) → HasParts book → AllByRecursion (IsChange format) delta → apply book delta ≡ Some next → HasParts next
parts_after format [] book next parts fits is = subst HasParts (some_is book next is) parts
parts_after format (change ∷ delta) book next parts fits is = by (applied book change) refl is (λ mid m r. parts_after format delta mid next m fits.1 r)
  where
    by : (o : Option Book) → applied book change ≡ o → option_and_then (λ b. apply b delta) o ≡ Some next → ((mid : Book) → HasParts mid → apply mid delta ≡ Some next → HasParts next) → HasParts next
    by None same is more = absurd (none_not_some next is)
    by (Some mid) same is more = more mid (parts_kept format book change mid parts fits.0 same) is

-- ---- the calls

pub runs_step : (epoch : ℕ) (entries : List Entry) (i : ℕ) (e : Entry) (id : List ℕ) → i < length entries → e ≡ get_or entries i e → id ≡ e.id → IsClientId epoch id
    → (AreOfRuns epoch (drop i entries) → AreOfRuns epoch entries) × (AreOfRuns epoch entries → AreOfRuns epoch (drop i entries)) → (AreOfRuns epoch (drop (i + 1) entries) → AreOfRuns epoch entries) × (AreOfRuns epoch entries → AreOfRuns epoch (drop (i + 1) entries))
runs_step epoch entries i e id lt is is_id of_run so_far =
    let parts : drop i entries ≡ e ∷ drop (i + 1) entries = next_item i entries e lt is in
    let here : IsClientId epoch e.id = subst (IsClientId epoch) is_id of_run in
    (λ rest. so_far.0 (subst (AreOfRuns epoch) (sym parts) (here, rest)), λ all. (subst (AreOfRuns epoch) parts (so_far.1 all)).1)

abbrev AreEachOfRuns : ℕ → List Named → Type 0
AreEachOfRuns epoch all = AllByRecursion (λ (s : Named). AreOfRuns epoch s.entries) all

all_of_runs : (epoch : ℕ) (all : List Named) → AreEachOfRuns epoch all → AreOfRuns epoch (entries_in all)
all_of_runs epoch [] h = tt
all_of_runs epoch (s ∷ all) h = all_append (λ (e : Entry). IsClientId epoch e.id) s.entries (entries_in all) h.0 (all_of_runs epoch all h.1)

each_of_runs : (epoch : ℕ) (all : List Named) → AreOfRuns epoch (entries_in all) → AreEachOfRuns epoch all
each_of_runs epoch [] h = tt
each_of_runs epoch (s ∷ all) h =
    (all_front (λ (e : Entry). IsClientId epoch e.id) s.entries (entries_in all) h, each_of_runs epoch all (all_behind (λ (e : Entry). IsClientId epoch e.id) s.entries (entries_in all) h))

pub runs_in_book : (epoch : ℕ) (entries items : List Entry) (others rest : List Named) (result : Bool) → items ≡ entries → rest ≡ others → AreOfRuns epoch items → (IsTrue result → AreEachOfRuns epoch rest) × (AreEachOfRuns epoch rest → IsTrue result)
    → (IsTrue result → AreOfRuns epoch (entries ++ entries_in others)) × (AreOfRuns epoch (entries ++ entries_in others) → IsTrue result)
runs_in_book epoch entries items others rest result is_items is_rest own each = (
  λ t. all_append (λ (e : Entry). IsClientId epoch e.id) entries (entries_in others) (subst (AreOfRuns epoch) is_items own) (all_of_runs epoch others (subst (AreEachOfRuns epoch) is_rest (each.0 t))),
  λ h. each.1 (subst (AreEachOfRuns epoch) (sym is_rest) (each_of_runs epoch others (all_behind (λ (e : Entry). IsClientId epoch e.id) entries (entries_in others) h))),
)

-- the entries of the chosen session
pub own_of_runs : (epoch : ℕ) (entries items : List Entry) (others : List Named) → items ≡ entries → AreOfRuns epoch (entries ++ entries_in others) → AreOfRuns epoch items
own_of_runs epoch entries items others is_items h = subst (AreOfRuns epoch) (sym is_items) (all_front (λ (e : Entry). IsClientId epoch e.id) entries (entries_in others) h)

abbrev AreUnnamed : List Command → List Command → Type 0
AreUnnamed named commands = AllByRecursion (λ command. list_any (same_command command) named ≡ false) commands

pub rules_decided : (book : Book) (result : Bool) (ps ds : List Command) → HasParts book → ps ≡ book.pending → ds ≡ discards (all_entries book) → length (sessions book) ≤ 8 → length (all_entries book) ≤ 128 → length book.pending ≤ 320
    → AreOfRuns book.epoch (all_entries book) → IsDistinct same_command ps → (IsTrue result → AreUnnamed ds ps) × (AreUnnamed ds ps → IsTrue result) → (IsTrue result → KeepsRules book) × (KeepsRules book → IsTrue result)
rules_decided book result ps ds parts is_ps is_ds few_sessions few_entries few_pending runs differ named = (
  λ t. whole_rules book parts few_sessions few_entries few_pending runs (subst (IsDistinct same_command) is_ps differ)
      (subst (AreUnnamed (discards (all_entries book))) is_ps (subst (λ (d : List Command). AreUnnamed d ps) is_ds (named.0 t))),
  λ k. named.1 (subst (λ (d : List Command). AreUnnamed d ps) (sym is_ds) (subst (AreUnnamed (discards (all_entries book))) (sym is_ps) k.none_named)),
)
