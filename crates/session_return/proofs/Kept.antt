-- The laws of what is left.
use Rattle.std.proofs.Common.{◌≡◌, ◌≢◌, ℕ, ◌+◌, ◌≤◌, Bool, true, false, cond, not, ◌&&◌, ◌||◌, nat_lt, List, ◌++◌, refl, sym, ap, ap₂, ◌∙◌, subst, arith}
use Rattle.std.specs.Prelude.{nat_le}
use Rattle.std.specs.List.{AllByRecursion, Contains, All as AllOf, list_any}
use Rattle.std.specs.Str.{bytes_eq}
use Rattle.std.proofs.lemmas.Bool.{le-leb, leb-false, leb-true, lt-ltb, ltb-false, ltb-true}
use Rattle.std.proofs.lemmas.List.Elements.{All-contains_itself, All-filter}
use lib.Pointwise.{bytes_decides}
use Rattle.owned_lists.specs.declared.commands.Command.{Command}
use Rattle.checkpoint_records.specs.Books.{choose, default_name, discards, entries_in, entries_of, names, others_than, same_command, sessions, stored}
use Rattle.checkpoint_records.specs.Rules.{IsCommand, IsEntry, KeepsRules}
use Rattle.checkpoint_records.specs.declared.records.Book.{Book}
use Rattle.checkpoint_records.specs.declared.records.Entry.{Entry}
use Rattle.checkpoint_records.specs.declared.records.Named.{Named}
use Rattle.checkpoint_records.proofs.ChoiceLaws.{among_stored, in_order, ordered, others_apart, others_rising, others_stored}
use Rattle.checkpoint_records.proofs.DistinctLaws.{all_append, all_behind, all_front, all_turned, any_false}
use Rattle.checkpoint_records.proofs.NameLaws.{default_fits, put_back as back_in_place}
use Rattle.checkpoint_changes.specs.Changes.{with_entries_at}
use Rattle.checkpoint_changes.proofs.MapLaws.{stays_at}
use Rattle.checkpoint_changes.proofs.SessionLaws.{AreFormed, all_free, at_session, goes_in}
use Rattle.discard_ledger.specs.Discards.{is_among, without_commands}
use Rattle.session_return.specs.Returns.{MayComeBack, book_of, entries_back, epoch_behind, put_back, sessions_back}
use Rattle.session_return.specs.Laws.{there_and_back}
use Rattle.session_return.specs.declared.returns.Which.{Which}
use Rattle.session_return.specs.declared.returns.Which.TheVariants.{One, All}
use Rattle.session_return.proofs.Placed.{any_of_both, formed_back, formed_of, named_anyhow, put_in, sessions_are}
use Rattle.session_return.proofs.Sifted.{all_left, among_left, distinct_left, left_again, left_twice, no_more, passed}

-- the sessions that are left, and what they name
abbrev left_in : Which → Book → Book → List Named
left_in which kept present = sessions_back which (sessions kept) (sessions present)

abbrev named_in : List Named → List Command
named_in all = discards (entries_in all)

pub left_are : (which : Which) (kept present : Book) → KeepsRules kept → KeepsRules present → sessions (put_back which kept present) ≡ left_in which kept present
left_are which kept present k p = sessions_are (left_in which kept present) present.pending (epoch_behind present.epoch kept.epoch) (formed_back which kept present k p)

-- ---- sessions

pub differ : (a b : List ℕ) → a ≢ b → bytes_eq a b ≡ false
differ a b apart = by (bytes_eq a b) refl
  where
    by : (t : Bool) → bytes_eq a b ≡ t → bytes_eq a b ≡ false
    by true e = absurd (apart ((bytes_decides a b).0 e))
    by false e = e

pub others_stay : (name : List ℕ) (kept present : Book) → KeepsRules kept → KeepsRules present → ((choose name (put_back (One name) kept present)).entries ≡ (choose name kept).entries)
    × ((other : List ℕ) → other ≢ name → (choose other (put_back (One name) kept present)).entries ≡ (choose other present).entries)
others_stay name kept present k p =
    let are = left_are (One name) kept present k p in
    let entries : List Entry = entries_of name (sessions kept) in (
      ap (entries_of name) are ∙ (put_in name entries (sessions present) (formed_of present p)).0,
      λ other apart. ap (entries_of other) are ∙ stays_at other name entries (sessions present) (differ other name apart),
    )

pub all_back : (kept present : Book) → KeepsRules kept → sessions (put_back All kept present) ≡ sessions kept
all_back kept present k = sessions_are (sessions kept) present.pending (epoch_behind present.epoch kept.epoch) (formed_of kept k)

-- ---- epochs

both_true : (a b : Bool) → (a && b) ≡ true → b ≡ true
both_true true b e = e
both_true false b e = absurd (let t : false ≡ true = e in cc)

pub never_below : (present kept : ℕ) → (present ≤ epoch_behind present kept) × (kept ≤ epoch_behind present kept)
never_below present kept = by (nat_lt 0 present && nat_le kept present) refl
  where
    by : (b : Bool) → (nat_lt 0 present && nat_le kept present) ≡ b → (present ≤ cond b present (kept + 65536)) × (kept ≤ cond b present (kept + 65536))
    by true e = (omega arith, leb-true kept present (both_true (nat_lt 0 present) (nat_le kept present) e))
    by false e = (below (nat_lt 0 present) (nat_le kept present) refl refl e, omega arith)
      where
        below : (a b : Bool) → nat_lt 0 present ≡ a → nat_le kept present ≡ b → (a && b) ≡ false → present ≤ kept + 65536
        below true true e f g = absurd cc
        below true false e f g = omega (arith, leb-false kept present f)
        below false b e f g = omega (arith, ltb-false 0 present e)

one_of_two : (b : Bool) (x y : ℕ) → x ≡ y → cond b x y ≡ x
one_of_two true x y e = refl
one_of_two false x y e = sym e

pub epoch_again : (present kept : ℕ) → epoch_behind (epoch_behind present kept) kept ≡ epoch_behind present kept
epoch_again present kept = by (nat_lt 0 present && nat_le kept present) refl
  where
    by : (b : Bool) → (nat_lt 0 present && nat_le kept present) ≡ b → epoch_behind (cond b present (kept + 65536)) kept ≡ cond b present (kept + 65536)
    by true e = ap (λ (t : Bool). cond t present (kept + 65536)) e
    by false e = one_of_two (nat_lt 0 (kept + 65536) && nat_le kept (kept + 65536)) (kept + 65536) (kept + 65536) refl

-- an epoch that no leap was made from is one of a run, and none is made from it to itself
above_none : (present kept : ℕ) → epoch_behind present kept ≡ present → 1 ≤ present
above_none present kept same = by (nat_lt 0 present) refl
  where
    by : (b : Bool) → nat_lt 0 present ≡ b → 1 ≤ present
    by true e = omega (arith, ltb-true 0 present e)
    by false e = omega (arith, ltb-false 0 present e, ap (λ (b : Bool). cond (b && nat_le kept present) present (kept + 65536)) (sym e) ∙ same)

own_epoch : (epoch : ℕ) → 1 ≤ epoch → epoch_behind epoch epoch ≡ epoch
own_epoch epoch some = ap₂ (λ (a b : Bool). cond (a && b) epoch (epoch + 65536)) (lt-ltb 0 epoch (omega (arith, some))) (le-leb epoch epoch (omega arith))

-- ---- commands

double : (a : Bool) → a ≡ not (not a && true)
double true = refl
double false = refl

pub due_stays : (which : Which) (kept present : Book) (command : Command) → is_among command present.pending ≡ true
    → names (put_back which kept present) command ≡ not (is_among command (put_back which kept present).pending)
due_stays which kept present command pending =
    let all : List Named = left_in which kept present in
    let named : Bool = is_among command (named_in all) in
    named_anyhow (same_command command) default_name all ∙ double named ∙ ap (λ (b : Bool). not (not named && b)) (sym pending) ∙ ap not (sym (among_left command (named_in all) present.pending))

pub nothing_new : (which : Which) (kept present : Book) → AllOf (Contains present.pending) (put_back which kept present).pending
nothing_new which kept present = All-filter (λ (c : Command). not (is_among c (named_in (left_in which kept present)))) (Contains present.pending) present.pending (All-contains_itself present.pending)

not_true : (b : Bool) → not b ≡ true → b ≡ false
not_true true e = absurd (let t : false ≡ true = e in cc)
not_true false e = refl

-- what all sessions don't name, what comes back doesn't
back_unnamed : (which : Which) (kept present : Book) (command : Command) → is_among command (named_in (left_in which kept present)) ≡ false → is_among command (discards (entries_back which kept)) ≡ false
back_unnamed (One name) kept present command e =
    let test : Command → Bool = same_command command in
    let entries : List Entry = entries_of name (sessions kept) in
    let a = among_stored name entries (others_than name (sessions present)) in
    let parts : (list_any test (discards a.front) || list_any test (discards (entries ++ a.behind))) ≡ false = sym (any_of_both test a.front (entries ++ a.behind)) ∙ ap (λ (l : List Entry). list_any test (discards l)) (sym a.is) ∙ e in
    let rest = (any_false (list_any test (discards a.front)) (list_any test (discards (entries ++ a.behind))) parts).1 in
    (any_false (list_any test (discards entries)) (list_any test (discards a.behind)) (sym (any_of_both test entries a.behind) ∙ rest)).0
back_unnamed All kept present command e = sym ((in_order kept.name kept.entries kept.others).named command) ∙ e

unnamed_left : (all : List Named) (pending : List Command) → AllByRecursion (λ c. is_among c (named_in all) ≡ false) (without_commands (named_in all) pending)
unnamed_left all pending =
    all_turned (λ (c : Command). not (is_among c (named_in all)) ≡ true) (λ (c : Command). is_among c (named_in all) ≡ false) (without_commands (named_in all) pending) (λ c e. not_true (is_among c (named_in all)) e) (passed (λ (c : Command). not (is_among c (named_in all))) pending)

pub not_due : (which : Which) (kept present : Book) → AllByRecursion (λ command. is_among command (discards (entries_back which kept)) ≡ false) (put_back which kept present).pending
not_due which kept present =
    let all : List Named = left_in which kept present in
    all_turned (λ (c : Command). is_among c (named_in all) ≡ false) (λ (c : Command). is_among c (discards (entries_back which kept)) ≡ false) (put_back which kept present).pending (λ c e. back_unnamed which kept present c e) (unnamed_left all present.pending)

-- ---- the rules

pub later : (old new : ℕ) (entry : Entry) → old ≤ new → IsEntry old entry → IsEntry new entry
later old new entry le is = record {
  id = record { epoch = is.id.epoch; number = is.id.number; first = is.id.first; last = omega (arith, le, is.id.last); fits = is.id.fits; is = is.id.is };
  table = is.table;
}

-- the entries of a book are of runs up to a later epoch
entries_later : (epoch : ℕ) (book : Book) → KeepsRules book → book.epoch ≤ epoch → AllByRecursion (IsEntry epoch) (entries_in (sessions book))
entries_later epoch book rules le = all_turned (IsEntry book.epoch) (IsEntry epoch) (entries_in (sessions book)) (λ entry is. later book.epoch epoch entry le is) (ordered book rules).entries.each

left_entries : (epoch : ℕ) (which : Which) (kept present : Book) → KeepsRules kept → KeepsRules present → kept.epoch ≤ epoch → present.epoch ≤ epoch → AllByRecursion (IsEntry epoch) (entries_in (left_in which kept present))
left_entries epoch (One name) kept present k p le_k le_p =
    let P : Entry → Type 0 = IsEntry epoch in
    let Q : List Entry → Type 0 = AllByRecursion P in
    let entries : List Entry = entries_of name (sessions kept) in
    let others : List Named = others_than name (sessions present) in
    let back = all_front P entries (entries_in (others_than name (sessions kept))) (at_session Q (all_free P) name (sessions kept) (formed_of kept k) (entries_later epoch kept k le_k)) in
    let stay = all_behind P (entries_of name (sessions present)) (entries_in others) (at_session Q (all_free P) name (sessions present) (formed_of present p) (entries_later epoch present p le_p)) in
    goes_in Q (all_free P) entries (entries_in (stored name entries others)) (entries_in others) (among_stored name entries others) (all_append P entries (entries_in others) back stay)
left_entries epoch All kept present k p le_k le_p = entries_later epoch kept k le_k

pub rules_kept : (which : Which) (kept present : Book) → KeepsRules kept → KeepsRules present → MayComeBack which kept present → KeepsRules (put_back which kept present)
rules_kept which kept present k p may =
    let all : List Named = left_in which kept present in
    let gone : List Command = named_in all in
    let test : Command → Bool = λ c. not (is_among c gone) in
    let f = formed_back which kept present k p in
    let epoch : ℕ = epoch_behind present.epoch kept.epoch in
    let up = never_below present.epoch kept.epoch in
    let fewer = no_more test present.pending in
    let P : Entry → Type 0 = IsEntry epoch in
    record {
      few_entries = may.few_entries;
      few_pending = omega (arith, fewer, p.few_pending);
      entries = at_session (AllByRecursion P) (all_free P) default_name all f (left_entries epoch which kept present k p up.1 up.0);
      commands = all_left test IsCommand present.pending p.commands;
      ids_differ = may.ids_differ;
      commands_differ = distinct_left test same_command present.pending p.commands_differ;
      none_named = all_turned (λ (c : Command). is_among c gone ≡ false) (λ (c : Command). names (put_back which kept present) c ≡ false) (without_commands gone present.pending)
          (λ c e. named_anyhow (same_command c) default_name all ∙ e) (unnamed_left all present.pending);
      called = default_fits;
      stored = others_stored default_name all f.stored;
      rising = others_rising default_name all f.rising;
      apart = others_apart default_name all f.rising;
      few_sessions = may.few_sessions;
    }

-- ---- again, and back

sessions_again : (which : Which) (kept present : Book) → KeepsRules kept → KeepsRules present → sessions_back which (sessions kept) (left_in which kept present) ≡ left_in which kept present
sessions_again (One name) kept present k p = ap (stored name (entries_of name (sessions kept))) (put_in name (entries_of name (sessions kept)) (sessions present) (formed_of present p)).1
sessions_again All kept present k p = refl

pub same_again : (which : Which) (kept present : Book) → KeepsRules kept → KeepsRules present → put_back which kept (put_back which kept present) ≡ put_back which kept present
same_again which kept present k p =
    let all : List Named = left_in which kept present in
    let epoch : ℕ = epoch_behind present.epoch kept.epoch in
    let left : List Command = without_commands (named_in all) present.pending in
    let are : sessions_back which (sessions kept) (sessions (put_back which kept present)) ≡ all = ap (sessions_back which (sessions kept)) (left_are which kept present k p) ∙ sessions_again which kept present k p in
    ap₂ (λ (them : List Named) (e : ℕ). book_of them left e) are (epoch_again present.epoch kept.epoch) ∙ ap (λ (pending : List Command). record (put_back which kept present) { pending = pending }) (left_again (named_in all) present.pending)

module _ (name : List ℕ) (kept present : Book) (k : KeepsRules kept) (p : KeepsRules present) where
  abbrev once : List Named
  once = left_in (One name) kept present

  abbrev twice : List Named
  twice = sessions_back (One name) (sessions present) (sessions (put_back (One name) kept present))

  twice_are : twice ≡ sessions present
  twice_are =
      let f = formed_of present p in
      ap (with_entries_at name (entries_of name (sessions present))) (left_are (One name) kept present k p)
      ∙ ap (stored name (entries_of name (sessions present))) (put_in name (entries_of name (sessions kept)) (sessions present) f).1 ∙ back_in_place name (sessions present) f.stored f.rising

  -- what is pending is named by none of the sessions that were there
  free : AllByRecursion (λ c. is_among c (named_in (sessions present)) ≡ false) present.pending
  free = (ordered present p).pending_are.none_named

  own_named : (c : Command) → is_among c (named_in (sessions present)) ≡ false → is_among c (named_in once) ≡ is_among c (discards (choose name kept).entries)
  own_named c none =
      let test : Command → Bool = same_command c in
      let entries : List Entry = entries_of name (sessions kept) in
      let others : List Named = others_than name (sessions present) in
      let apart : list_any test (discards (entries_of name (sessions present) ++ entries_in others)) ≡ false = named_anyhow test name (sessions present) ∙ none in
      let unnamed = (any_false (list_any test (discards (entries_of name (sessions present)))) (list_any test (discards (entries_in others))) (sym (any_of_both test (entries_of name (sessions present)) (entries_in others)) ∙ apart)).1 in
      (in_order name entries others).named c ∙ any_of_both test entries (entries_in others) ∙ nothing_more (list_any test (discards entries)) (list_any test (discards (entries_in others))) unnamed
    where
      nothing_more : (a b : Bool) → b ≡ false → (a || b) ≡ a
      nothing_more true b e = refl
      nothing_more false b e = e

  pub back_pending : (there_and_back name kept present).pending ≡ without_commands (discards (choose name kept).entries) present.pending
  back_pending =
      left_twice (named_in once) (named_in twice) (discards (choose name kept).entries) present.pending
      (all_turned (λ (c : Command). is_among c (named_in (sessions present)) ≡ false) (λ (c : Command). (is_among c (named_in twice) ≡ false) × (is_among c (named_in once) ≡ is_among c (discards (choose name kept).entries))) present.pending
      (λ c none. (ap (λ (all : List Named). is_among c (named_in all)) twice_are ∙ none, own_named c none)) free)

  pub back_sessions : sessions (there_and_back name kept present) ≡ sessions present
  back_sessions =
      sessions_are twice (put_back (One name) kept present).pending (epoch_behind (put_back (One name) kept present).epoch present.epoch) (subst AreFormed (sym twice_are) (formed_of present p)) ∙ twice_are

  pub back_epoch : epoch_behind present.epoch kept.epoch ≡ present.epoch → (there_and_back name kept present).epoch ≡ present.epoch
  back_epoch same = ap (λ (e : ℕ). epoch_behind e present.epoch) same ∙ own_epoch present.epoch (above_none present.epoch kept.epoch same)
