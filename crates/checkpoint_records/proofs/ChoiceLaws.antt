-- The rules of a book ask the same of its entries, in whatever order its sessions stand.
use Rattle.std.proofs.Common.{◌≡◌, ℕ, ◌≤◌, Bool, true, false, cond, List, [], ◌∷◌, ◌++◌, length, refl, sym, ap, ◌∙◌, subst, append_assoc, arith, length-append}
use Rattle.std.specs.Prelude.{codes}
use Rattle.std.specs.List.{AllByRecursion, IsDistinct, list_any}
use Rattle.std.specs.Str.{bytes_eq}
use Rattle.std.proofs.lemmas.List.{map-append}
use Rattle.std.proofs.lemmas.List.Elements.{filter_map-append}
use Rattle.owned_lists.specs.declared.commands.Command.{Command}
use Rattle.xsmp_properties.specs.Readers.{command_of}
use lib.Pointwise.{bytes_decides}
use Rattle.checkpoint_records.specs.Books.{all_entries, choose, chosen_from, discards, empty_book, entries_in, entries_of, is_before, names_of, others_than, same_command, sessions, stored, with_session}
use Rattle.checkpoint_records.specs.Parts.{AreEntries, ArePending}
use Rattle.checkpoint_records.specs.Rules.{AreRising, ids_of, IsEntry, IsName, IsStored, KeepsRules}
use Rattle.checkpoint_records.specs.declared.records.Entry.{Entry}
use Rattle.checkpoint_records.specs.declared.records.Named.{Named}
use Rattle.checkpoint_records.specs.declared.records.Book.{Book}
use Rattle.checkpoint_records.proofs.DistinctLaws.{all_swapped, all_turned, any_swapped, distinct_swapped}
use Rattle.checkpoint_records.proofs.NameLaws.{all_rising, all_stored, default_fits, not_same, put_back, turned}

-- ---- the entries of a session stand among those of the others

pub record IsAmong (some all others : List Entry) : Type 0 where
  pub front : List Entry
  pub behind : List Entry
  pub is : all ≡ front ++ (some ++ behind)
  pub left : others ≡ front ++ behind

among-with : (s : Named) (others : List Named) → IsAmong s.entries (entries_in (with_session s others)) (entries_in others)
among-with s [] = record { front = []; behind = []; is = refl; left = refl }
among-with s (o ∷ others) = by (is_before s.name o.name) (among-with s others)
  where
    by : (b : Bool) → IsAmong s.entries (entries_in (with_session s others)) (entries_in others) → IsAmong s.entries (entries_in (cond b (s ∷ o ∷ others) (o ∷ with_session s others))) (entries_in (o ∷ others))
    by true a = record { front = []; behind = entries_in (o ∷ others); is = refl; left = refl }
    by false a = record {
      front = o.entries ++ a.front;
      behind = a.behind;
      is = ap (λ (l : List Entry). o.entries ++ l) a.is ∙ sym (append_assoc o.entries a.front (s.entries ++ a.behind));
      left = ap (λ (l : List Entry). o.entries ++ l) a.left ∙ sym (append_assoc o.entries a.front a.behind);
    }

pub among_stored : (name : List ℕ) (entries : List Entry) (others : List Named) → IsAmong entries (entries_in (stored name entries others)) (entries_in others)
among_stored name [] others = record { front = []; behind = entries_in others; is = refl; left = refl }
among_stored name (e ∷ entries) others = among-with (record { name = name; entries = e ∷ entries }) others

-- ---- what is asked of entries in whatever order

-- The second list has what the rules ask of the first.
pub record Alike (xs ys : List Entry) : Type 0 where
  pub long : length ys ≡ length xs
  pub entries : (epoch : ℕ) → AreEntries epoch xs → AreEntries epoch ys
  pub named : (command : Command) → list_any (same_command command) (discards ys) ≡ list_any (same_command command) (discards xs)

pub discards_append : (xs ys : List Entry) → discards (xs ++ ys) ≡ discards xs ++ discards ys
discards_append xs ys = filter_map-append (λ (entry : Entry). command_of (codes "DiscardCommand") entry.table) xs ys

ids-append : (xs ys : List Entry) → ids_of (xs ++ ys) ≡ ids_of xs ++ ids_of ys
ids-append xs ys = map-append (λ (entry : Entry). entry.id) xs ys

discards-three : (xs ys zs : List Entry) → discards (xs ++ (ys ++ zs)) ≡ discards xs ++ (discards ys ++ discards zs)
discards-three xs ys zs = discards_append xs (ys ++ zs) ∙ ap (λ (l : List Command). discards xs ++ l) (discards_append ys zs)

ids-three : (xs ys zs : List Entry) → ids_of (xs ++ (ys ++ zs)) ≡ ids_of xs ++ (ids_of ys ++ ids_of zs)
ids-three xs ys zs = ids-append xs (ys ++ zs) ∙ ap (λ (l : List (List ℕ)). ids_of xs ++ l) (ids-append ys zs)

alike-swapped : (xs ys zs : List Entry) → Alike (xs ++ (ys ++ zs)) (ys ++ (xs ++ zs))
alike-swapped xs ys zs = record {
  long = omega (arith, length-append xs (ys ++ zs), length-append ys zs, length-append ys (xs ++ zs), length-append xs zs);
  entries = λ epoch are. record {
    each = all_swapped (IsEntry epoch) xs ys zs are.each;
    ids_differ = subst (IsDistinct bytes_eq) (sym (ids-three ys xs zs)) (distinct_swapped bytes_eq turned (ids_of xs) (ids_of ys) (ids_of zs) (subst (IsDistinct bytes_eq) (ids-three xs ys zs) are.ids_differ));
  };
  named = λ command.
      let test : Command → Bool = same_command command in
      ap (list_any test) (discards-three ys xs zs) ∙ any_swapped test (discards ys) (discards xs) (discards zs) ∙ sym (ap (list_any test) (discards-three xs ys zs));
}

-- the entries of a book, as its sessions stand and with the chosen ones in front
pub in_order : (name : List ℕ) (entries : List Entry) (others : List Named) → Alike (entries ++ entries_in others) (entries_in (stored name entries others))
in_order name entries others =
    let a = among_stored name entries others in
    subst (λ (l : List Entry). Alike (entries ++ l) (entries_in (stored name entries others))) (sym a.left) (subst (λ (l : List Entry). Alike (entries ++ (a.front ++ a.behind)) l) (sym a.is) (alike-swapped entries a.front a.behind))

pub in_front : (name : List ℕ) (entries : List Entry) (others : List Named) → Alike (entries_in (stored name entries others)) (entries ++ entries_in others)
in_front name entries others =
    let a = among_stored name entries others in
    subst (λ (l : List Entry). Alike (entries_in (stored name entries others)) (entries ++ l)) (sym a.left) (subst (λ (l : List Entry). Alike l (entries ++ (a.front ++ a.behind))) (sym a.is) (alike-swapped a.front entries a.behind))

pub alike_pending : (xs ys : List Entry) (pending : List Command) → Alike xs ys → ArePending (discards xs) pending → ArePending (discards ys) pending
alike_pending xs ys pending alike are = record {
  each = are.each;
  commands_differ = are.commands_differ;
  none_named = all_turned (λ c. list_any (same_command c) (discards xs) ≡ false) (λ c. list_any (same_command c) (discards ys) ≡ false) pending (λ c e. alike.named c ∙ e) are.none_named;
}

-- ---- the sessions in their order, and the book in which one is chosen

-- what the rules of a book ask of its sessions in their order
pub record KeepInOrder (all : List Named) (pending : List Command) (epoch : ℕ) : Type 0 where
  pub stored : AllByRecursion IsStored all
  pub rising : AreRising (names_of all)
  pub few : length all ≤ 8
  pub few_entries : length (entries_in all) ≤ 128
  pub few_pending : length pending ≤ 320
  pub entries : AreEntries epoch (entries_in all)
  pub pending_are : ArePending (discards (entries_in all)) pending

pub ordered : (book : Book) → KeepsRules book → KeepInOrder (sessions book) book.pending book.epoch
ordered book k =
    let alike = in_order book.name book.entries book.others in
    record {
      stored = all_stored book k;
      rising = all_rising book k;
      few = k.few_sessions;
      few_entries = omega (arith, alike.long, k.few_entries);
      few_pending = k.few_pending;
      entries = alike.entries book.epoch (record { each = k.entries; ids_differ = k.ids_differ });
      pending_are = alike_pending (all_entries book) (entries_in (sessions book)) book.pending alike (record { each = k.commands; commands_differ = k.commands_differ; none_named = k.none_named });
    }

pub others_stored : (name : List ℕ) (all : List Named) → AllByRecursion IsStored all → AllByRecursion IsStored (others_than name all)
others_stored name [] s = tt
others_stored name (x ∷ all) s = by (bytes_eq name x.name) (others_stored name all s.1)
  where
    by : (b : Bool) → AllByRecursion IsStored (others_than name all) → AllByRecursion IsStored (cond b all (x ∷ others_than name all))
    by true rest = s.1
    by false rest = (s.0, rest)

others-after : (P : List ℕ → Type 0) (name : List ℕ) (all : List Named) → AllByRecursion P (names_of all) → AllByRecursion P (names_of (others_than name all))
others-after P name [] h = tt
others-after P name (x ∷ all) h = by (bytes_eq name x.name) (others-after P name all h.1)
  where
    by : (b : Bool) → AllByRecursion P (names_of (others_than name all)) → AllByRecursion P (names_of (cond b all (x ∷ others_than name all)))
    by true rest = h.1
    by false rest = (h.0, rest)

pub others_rising : (name : List ℕ) (all : List Named) → AreRising (names_of all) → AreRising (names_of (others_than name all))
others_rising name [] r = tt
others_rising name (x ∷ all) r = by (bytes_eq name x.name) (others_rising name all r.1)
  where
    by : (b : Bool) → AreRising (names_of (others_than name all)) → AreRising (names_of (cond b all (x ∷ others_than name all)))
    by true rest = r.1
    by false rest = (others-after (λ later. is_before x.name later ≡ true) name all r.0, rest)

none-later : (name : List ℕ) (all : List Named) → AllByRecursion (λ later. is_before name later ≡ true) (names_of all) → list_any (λ (other : Named). bytes_eq name other.name) all ≡ false
none-later name [] h = refl
none-later name (x ∷ all) h = rw (not_same name x.name h.0) (none-later name all h.1)

pub others_apart : (name : List ℕ) (all : List Named) → AreRising (names_of all) → list_any (λ (other : Named). bytes_eq name other.name) (others_than name all) ≡ false
others_apart name [] r = refl
others_apart name (x ∷ all) r = by (bytes_eq name x.name) refl (others_apart name all r.1)
  where
    by : (b : Bool) → bytes_eq name x.name ≡ b → list_any (λ (other : Named). bytes_eq name other.name) (others_than name all) ≡ false → list_any (λ (other : Named). bytes_eq name other.name) (cond b all (x ∷ others_than name all)) ≡ false
    by true e rest =
        let same : name ≡ x.name = (bytes_decides name x.name).0 e in
        none-later name all (subst (λ (n : List ℕ). AllByRecursion (λ later. is_before n later ≡ true) (names_of all)) (sym same) r.0)
    by false e rest = rw e rest

pub chosen_keeps : (name : List ℕ) (all : List Named) (pending : List Command) (epoch : ℕ) → IsName name → KeepInOrder all pending epoch → KeepsRules (chosen_from name all pending epoch)
chosen_keeps name all pending epoch is k =
    let back : stored name (entries_of name all) (others_than name all) ≡ all = put_back name all k.stored k.rising in
    let alike : Alike (entries_in all) (entries_of name all ++ entries_in (others_than name all)) =
    subst (λ (l : List Named). Alike (entries_in l) (entries_of name all ++ entries_in (others_than name all))) back (in_front name (entries_of name all) (others_than name all)) in
    let entries = alike.entries epoch k.entries in
    let pending_are = alike_pending (entries_in all) (entries_of name all ++ entries_in (others_than name all)) pending alike k.pending_are in
    record {
      few_entries = omega (arith, alike.long, k.few_entries);
      few_pending = k.few_pending;
      entries = entries.each;
      commands = pending_are.each;
      ids_differ = entries.ids_differ;
      commands_differ = pending_are.commands_differ;
      none_named = pending_are.none_named;
      called = is;
      stored = others_stored name all k.stored;
      rising = others_rising name all k.rising;
      apart = others_apart name all k.rising;
      few_sessions = subst (λ (l : List Named). length l ≤ 8) (sym back) k.few;
    }

-- the empty book keeps the rules
pub empty_keeps : KeepsRules empty_book
unfolding IsDistinct
empty_keeps = record {
  few_entries = omega arith;
  few_pending = omega arith;
  entries = tt;
  commands = tt;
  ids_differ = tt;
  commands_differ = tt;
  none_named = tt;
  called = default_fits;
  stored = tt;
  rising = tt;
  apart = refl;
  few_sessions = omega arith;
}

pub empty_rules : (book : Book) → book ≡ empty_book → KeepsRules book
empty_rules book e = subst KeepsRules (sym e) empty_keeps

pub choices_keep_rules : (name : List ℕ) (book : Book) → IsName name → KeepsRules book → KeepsRules (choose name book)
choices_keep_rules name book is k = chosen_keeps name (sessions book) book.pending book.epoch is (ordered book k)
