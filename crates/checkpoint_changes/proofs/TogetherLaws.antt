-- A change that fits the parts of a book leaves a book whose parts fit together.
use Rattle.std.proofs.Common.{◌≡◌, ◌⊎◌, ℕ, zero, suc, ◌≤◌, inl, inr, Bool, true, false, cond, not, ◌||◌, ◌&&◌, IsTrue, List, [], ◌∷◌, ◌++◌, Option, Some, None, refl, sym, ap, ◌∙◌, subst, arith}
use Rattle.std.specs.Prelude.{codes, length, option_map, option_and_then}
use Rattle.std.specs.List.{AllByRecursion, IsDistinct, cons_option, list_any}
use Rattle.std.specs.Option.{option_map_or}
use Rattle.std.specs.Str.{bytes_eq}
use Rattle.std.specs.Cmp.Lexicographic.{pointwise}
use Rattle.std.proofs.lemmas.List.Folds.{list_any-append}
use lib.Pointwise.{pointwise_decides, bytes_decides}
use Rattle.owned_lists.specs.declared.commands.Command.{Command}
use Rattle.ice_values.specs.declared.property.Property.{Property}
use Rattle.ice_values.proofs.OptionLaws.{some_is, none_not_some}
use Rattle.xsmp_properties.specs.Readers.{are_words, command_of, command_with, directory_of, environment_of}
use Rattle.xsmp_properties.specs.Tables.{find_property}
use Rattle.checkpoint_records.specs.Books.{all_entries, discards, entries_in, entries_of, others_than, same_command, sessions}
use Rattle.checkpoint_records.specs.Rules.{IsClientId, IsName, KeepsRules}
use Rattle.checkpoint_records.specs.declared.records.Book.{Book}
use Rattle.checkpoint_records.specs.declared.records.Entry.{Entry}
use Rattle.checkpoint_records.specs.declared.records.Named.{Named}
use Rattle.checkpoint_records.proofs.DistinctLaws.{all_more, any_false, distinct_more}
use Rattle.checkpoint_records.proofs.PlaceLaws.{any_in_book}
use Rattle.checkpoint_changes.specs.Changes.{applied, sessions_with, sessions_without, with_entries_at, with_entry, with_sessions, without_at}
use Rattle.checkpoint_changes.specs.Parts.{HasParts}
use Rattle.checkpoint_changes.specs.Together.{AreOfRuns, FitBut, FitTogether, FitsIn, PutsIntoName, collides, discards_any, discards_by, doubts_after, has_words, is_doubted, last_byte}
use Rattle.checkpoint_changes.specs.declared.changes.Change.{Change}
use Rattle.checkpoint_changes.specs.declared.changes.Change.TheVariants.{Epoch, Pend, Put, Remove, Unpend}
use Rattle.checkpoint_changes.proofs.RuleLaws.{at_all, parts_formed, put_front, runs_of, whole_rules, with_pending, without_all}
use Rattle.checkpoint_changes.proofs.SessionLaws.{all_formed, all_free, found_name, in_book, in_session, puts, removes, without_front}

-- ---- tests of each item

any_none : {A : Type 0} (test : A → Bool) (items : List A) → list_any test items ≡ false → AllByRecursion (λ x. test x ≡ false) items
any_none test [] e = tt
any_none test (x ∷ items) e = let h = any_false (test x) (list_any test items) e in (h.0, any_none test items h.1)

none_any : {A : Type 0} (test : A → Bool) (items : List A) → AllByRecursion (λ x. test x ≡ false) items → list_any test items ≡ false
none_any test [] h = refl
none_any test (x ∷ items) h = rw (h.0, none_any test items h.1) refl

pub any_alike : {A : Type 0} (f g : A → Bool) (items : List A) → ((x : A) → f x ≡ g x) → list_any f items ≡ list_any g items
any_alike f g [] same = refl
any_alike f g (x ∷ items) same = rw (same x, any_alike f g items same) refl

pub any_nowhere : {A : Type 0} (test : A → Bool) (items : List A) → ((x : A) → test x ≡ false) → false ≡ list_any test items
any_nowhere test [] none = refl
any_nowhere test (x ∷ items) none = rw (none x) (any_nowhere test items none)

all_onward : {A : Type 0} (P Q : A → Type 0) (items : List A) → ((x : A) → P x → Q x) → AllByRecursion P items → AllByRecursion Q items
all_onward P Q [] on h = tt
all_onward P Q (x ∷ items) on h = (on x h.0, all_onward P Q items on h.1)

all_both : {A : Type 0} (P Q R : A → Type 0) (items : List A) → ((x : A) → P x → Q x → R x) → AllByRecursion P items → AllByRecursion Q items → AllByRecursion R items
all_both P Q R [] on h k = tt
all_both P Q R (x ∷ items) on h k = (on x h.0 k.0, all_both P Q R items on h.1 k.1)

-- ---- the DiscardCommand of an entry

pub discard_none : (command : Command) (entry : Entry) → find_property (codes "DiscardCommand") entry.table ≡ None → discards_by command entry ≡ false
discard_none command entry is = rw is refl

pub discard_some : (command : Command) (entry : Entry) (property : Property) → find_property (codes "DiscardCommand") entry.table ≡ Some property → discards_by command entry ≡ has_words property command
discard_some command entry property is = rw is (kind (bytes_eq (codes "LISTofARRAY8") property.kind))
  where
    both : (p w : Bool) → cond w p false ≡ (p && w)
    both true true = refl
    both true false = refl
    both false true = refl
    both false false = refl

    words : (w : Bool) → option_map_or (same_command command) (cond w (Some (record { words = property.values; directory = directory_of entry.table; environment = environment_of entry.table })) None) false ≡ cond w (pointwise bytes_eq command.words property.values) false
    words true = refl
    words false = refl

    none : (p : Bool) → false ≡ (p && false)
    none true = refl
    none false = refl

    kind : (b : Bool) → option_map_or (same_command command) (option_and_then (command_with entry.table) (cond b (Some property.values) None)) false ≡ (pointwise bytes_eq command.words property.values && (b && are_words property.values))
    kind true = words (are_words property.values) ∙ both (pointwise bytes_eq command.words property.values) (are_words property.values)
    kind false = none (pointwise bytes_eq command.words property.values)

pub ends_differ : (first second : List (List ℕ)) (m n : ℕ) → m ≡ last_byte first → n ≡ last_byte second → (m ≡ n → ⊥) → false ≡ pointwise bytes_eq first second
ends_differ first second m n is_m is_n other = by (pointwise bytes_eq first second) refl
  where
    by : (b : Bool) → pointwise bytes_eq first second ≡ b → false ≡ b
    by true same = absurd (other (is_m ∙ ap last_byte ((pointwise_decides bytes_decides first second).0 same) ∙ sym is_n))
    by false same = refl

-- ---- none of the entries names a command

any_discards : (command : Command) (entries : List Entry) → list_any (same_command command) (discards entries) ≡ list_any (discards_by command) entries
any_discards command [] = refl
any_discards command (e ∷ entries) = by (command_of (codes "DiscardCommand") e.table) (any_discards command entries)
  where
    by : (o : Option Command) → list_any (same_command command) (discards entries) ≡ list_any (discards_by command) entries
        → list_any (same_command command) (cons_option o (discards entries)) ≡ (option_map_or (same_command command) o false || list_any (discards_by command) entries)
    by None same = same
    by (Some d) same = ap (λ (b : Bool). same_command command d || b) same

-- none of the commands is named
abbrev AreUnnamed : List Entry → List Command → Type 0
AreUnnamed entries commands = AllByRecursion (λ (c : Command). list_any (same_command c) (discards entries) ≡ false) commands

named_by_none : (c : Command) (entries : List Entry) → list_any (same_command c) (discards entries) ≡ false → AllByRecursion (λ (e : Entry). discards_by c e ≡ false) entries
named_by_none c entries e = any_none (discards_by c) entries (sym (any_discards c entries) ∙ e)

none_names : (c : Command) (entries : List Entry) → AllByRecursion (λ (e : Entry). discards_by c e ≡ false) entries → list_any (same_command c) (discards entries) ≡ false
none_names c entries h = any_discards c entries ∙ none_any (discards_by c) entries h

-- none of the commands is one that the entry names
abbrev NamesNone : List Command → Entry → Type 0
NamesNone commands e = discards_any commands e ≡ false

-- or the entry is in doubt
abbrev IsFreeBut : List (List ℕ) → List Command → Entry → Type 0
IsFreeBut doubts commands e = (is_doubted doubts e ≡ true) ⊎ NamesNone commands e

all_alone : (entries : List Entry) → AllByRecursion (NamesNone []) entries
all_alone [] = tt
all_alone (e ∷ entries) = (refl, all_alone entries)

-- of each entry, and of each command
each_free : (entries : List Entry) (commands : List Command) → AreUnnamed entries commands → AllByRecursion (NamesNone commands) entries
each_free entries [] h = all_alone entries
each_free entries (c ∷ commands) h =
    all_both (λ (e : Entry). discards_by c e ≡ false) (NamesNone commands) (NamesNone (c ∷ commands)) entries (λ e here rest. rw (here, rest) refl) (named_by_none c entries h.0) (each_free entries commands h.1)

each_unnamed : (entries : List Entry) (commands : List Command) → AllByRecursion (NamesNone commands) entries → AreUnnamed entries commands
each_unnamed entries [] h = tt
each_unnamed entries (c ∷ commands) h = (
  none_names c entries (all_onward (NamesNone (c ∷ commands)) (λ (e : Entry). discards_by c e ≡ false) entries (λ e none. (any_false (discards_by c e) (discards_any commands e) none).0) h),
  each_unnamed entries commands (all_onward (NamesNone (c ∷ commands)) (NamesNone commands) entries (λ e none. (any_false (discards_by c e) (discards_any commands e) none).1) h),
)

-- a command goes, or comes
free_at : (doubts : List (List ℕ)) (n : ℕ) (commands left : List Command) → without_at n commands ≡ Some left → (e : Entry) → IsFreeBut doubts commands e → IsFreeBut doubts left e
free_at doubts n commands left is e (inl doubted) = inl doubted
free_at doubts n commands left is e (inr none) =
    inr (none_any (λ (c : Command). discards_by c e) left (at_all (λ (c : Command). discards_by c e ≡ false) n commands left is (any_none (λ (c : Command). discards_by c e) commands none)))

free_more : (doubts : List (List ℕ)) (commands : List Command) (c : Command) (e : Entry) → IsFreeBut doubts commands e → discards_by c e ≡ false → IsFreeBut doubts (commands ++ c ∷ []) e
free_more doubts commands c e (inl doubted) none = inl doubted
free_more doubts commands c e (inr free) none =
    inr (none_any (λ (d : Command). discards_by d e) (commands ++ c ∷ []) (all_more (λ (d : Command). discards_by d e ≡ false) commands c (any_none (λ (d : Command). discards_by d e) commands free) none))

-- one more is in doubt
still_doubted : (doubts : List (List ℕ)) (id : List ℕ) (commands : List Command) (e : Entry) → IsFreeBut doubts commands e → IsFreeBut (doubts ++ id ∷ []) commands e
still_doubted doubts id commands e (inl doubted) =
    inl (list_any-append (λ (i : List ℕ). bytes_eq i e.id) doubts (id ∷ []) ∙ ap (λ (b : Bool). b || list_any (λ (i : List ℕ). bytes_eq i e.id) (id ∷ [])) doubted)
still_doubted doubts id commands e (inr free) = inr free

last_doubted : (doubts : List (List ℕ)) (e : Entry) → is_doubted (doubts ++ e.id ∷ []) e ≡ true
last_doubted doubts e =
    list_any-append (λ (i : List ℕ). bytes_eq i e.id) doubts (e.id ∷ []) ∙ ap (λ (b : Bool). is_doubted doubts e || (b || false)) ((bytes_decides e.id e.id).1 refl) ∙ any_way (is_doubted doubts e)
  where
    any_way : (b : Bool) → (b || (true || false)) ≡ true
    any_way true = refl
    any_way false = refl

settled : (doubts : List (List ℕ)) (commands : List Command) (e : Entry) → IsFreeBut doubts commands e → collides doubts commands e ≡ false → NamesNone commands e
settled doubts commands e (inl doubted) none = ap (λ (b : Bool). b && discards_any commands e) (sym doubted) ∙ none
settled doubts commands e (inr free) none = free

-- ---- each change

later_id : (early late : ℕ) (id : List ℕ) → early ≤ late → IsClientId early id → IsClientId late id
later_id early late id le is = record { epoch = is.epoch; number = is.number; first = is.first; last = omega (arith, is.last, le); fits = is.fits; is = is.is }

at_differ : (n : ℕ) (commands left : List Command) → without_at n commands ≡ Some left → IsDistinct same_command commands → IsDistinct same_command left
unfolding IsDistinct
at_differ n [] left is d = absurd (none_not_some left is)
at_differ zero (c ∷ commands) left is d = subst (λ (l : List Command). IsDistinct same_command l) (some_is commands left is) d.1
at_differ (suc n) (c ∷ commands) left is d = by (without_at n commands) refl is (λ rest r. at_differ n commands rest r d.1)
  where
    by : (o : Option (List Command)) → without_at n commands ≡ o → option_map (λ rest. c ∷ rest) o ≡ Some left → ((rest : List Command) → o ≡ Some rest → IsDistinct same_command rest) → IsDistinct same_command left
    by None same is more = absurd (none_not_some left is)
    by (Some rest) same is more =
        subst (λ (l : List Command). IsDistinct same_command l) (some_is (c ∷ rest) left is)
        (at_all (λ (k : Command). same_command c k ≡ false) n commands rest same d.0, more rest refl)

pub fit_of : (book : Book) → KeepsRules book → FitBut [] book
fit_of book rules = record {
  runs = runs_of book.epoch (all_entries book) rules.entries;
  commands_differ = rules.commands_differ;
  free = all_onward (NamesNone book.pending) (IsFreeBut [] book.pending) (all_entries book) (λ e none. inr none) (each_free (all_entries book) book.pending rules.none_named);
}

-- where no entry in doubt names a pending command
pub fit_together : (doubts : List (List ℕ)) (book : Book) → FitBut doubts book → list_any (collides doubts book.pending) (all_entries book) ≡ false → FitTogether book
fit_together doubts book fit none = record {
  runs = fit.runs;
  commands_differ = fit.commands_differ;
  none_named =
      each_unnamed (all_entries book) book.pending
      (all_both (IsFreeBut doubts book.pending) (λ (e : Entry). collides doubts book.pending e ≡ false) (NamesNone book.pending) (all_entries book) (settled doubts book.pending) fit.free (any_none (collides doubts book.pending) (all_entries book) none));
}

pub rules_of : (book : Book) → HasParts book → FitTogether book → length (sessions book) ≤ 8 → length (all_entries book) ≤ 128 → length book.pending ≤ 320 → KeepsRules book
rules_of book parts fit few_sessions few_entries few_pending = whole_rules book parts few_sessions few_entries few_pending fit.runs fit.commands_differ fit.none_named

-- a book whose sessions are others
sessions_fit : (doubts : List (List ℕ)) (book : Book) (name : List ℕ) (entries : List Entry) → HasParts book → IsDistinct same_command book.pending → IsName name
    → AreOfRuns book.epoch (entries ++ entries_in (others_than name (sessions book))) → AllByRecursion (IsFreeBut doubts book.pending) (entries ++ entries_in (others_than name (sessions book)))
    → FitBut doubts (with_sessions book (with_entries_at name entries (sessions book)))
sessions_fit doubts book name entries parts differ is runs free =
    let all = sessions book in
    let f = all_formed book (parts_formed book parts) in
    record {
      runs = in_book (AreOfRuns book.epoch) (all_free (λ (e : Entry). IsClientId book.epoch e.id)) book name entries all is f runs;
      commands_differ = differ;
      free = in_book (AllByRecursion (IsFreeBut doubts book.pending)) (all_free (IsFreeBut doubts book.pending)) book name entries all is f free;
    }

-- an entry is put, which comes into doubt or names nothing
put_fit : (before doubts : List (List ℕ)) (book : Book) (name : List ℕ) (entry : Entry) (after : List Named) (next : Book) → HasParts book → IsName name → FitBut before book → IsClientId book.epoch entry.id
    → ((e : Entry) → IsFreeBut before book.pending e → IsFreeBut doubts book.pending e) → IsFreeBut doubts book.pending entry → sessions_with name entry (sessions book) ≡ Some after → with_sessions book after ≡ next → FitBut doubts next
put_fit before doubts book name entry after next parts named fit of_run onward free same is =
    let all = sessions book in
    let formed = parts_formed book parts in
    let r = puts name entry all after same in
    let others = entries_in (others_than name all) in
    let runs = put_front (λ (x : Entry). IsClientId book.epoch x.id) entry (entries_of name all) others of_run (in_session (AreOfRuns book.epoch) (all_free (λ (x : Entry). IsClientId book.epoch x.id)) book name formed fit.runs) in
    let before_put = in_session (AllByRecursion (IsFreeBut before book.pending)) (all_free (IsFreeBut before book.pending)) book name formed fit.free in
    let each = put_front (IsFreeBut doubts book.pending) entry (entries_of name all) others free (all_onward (IsFreeBut before book.pending) (IsFreeBut doubts book.pending) (entries_of name all ++ others) onward before_put) in
    subst (FitBut doubts) (ap (with_sessions book) (sym r.is) ∙ is) (sessions_fit doubts book name (with_entry entry (entries_of name all)) parts fit.commands_differ named runs each)

pub still_fit : (doubts : List (List ℕ)) (book : Book) (change : Change) (next : Book) → HasParts book → PutsIntoName change → FitBut doubts book → FitsIn book change → applied book change ≡ Some next → FitBut (doubts_after book change doubts) next
unfolding with_pending
still_fit doubts book (Epoch epoch) next parts named fit (inl later) is =
    subst (FitBut doubts) (some_is (record book { epoch = epoch }) next is) (record {
      runs = all_onward (λ (e : Entry). IsClientId book.epoch e.id) (λ (e : Entry). IsClientId epoch e.id) (all_entries book) (λ e of_run. later_id book.epoch epoch e.id later of_run) fit.runs;
      commands_differ = fit.commands_differ;
      free = fit.free;
    })
still_fit doubts book (Epoch epoch) next parts named fit (inr runs) is =
    subst (FitBut doubts) (some_is (record book { epoch = epoch }) next is) (record { runs = runs; commands_differ = fit.commands_differ; free = fit.free })
still_fit doubts book (Remove id) next parts named fit fits is = by (sessions_without id (sessions book)) refl is
  where
    by : (o : Option (List Named)) → sessions_without id (sessions book) ≡ o → option_map (with_sessions book) o ≡ Some next → FitBut doubts next
    by None same e = absurd (none_not_some next e)
    by (Some after) same e =
        let all = sessions book in
        let formed = parts_formed book parts in
        let f = all_formed book formed in
        let r = removes id all after same in
        let others = entries_in (others_than r.name all) in
        let gone = without_front id (entries_of r.name all) r.left others r.gone in
        let runs = without_all (λ (x : Entry). IsClientId book.epoch x.id) id (entries_of r.name all ++ others) (r.left ++ others) gone
        (in_session (AreOfRuns book.epoch) (all_free (λ (x : Entry). IsClientId book.epoch x.id)) book r.name formed fit.runs) in
        let free = without_all (IsFreeBut doubts book.pending) id (entries_of r.name all ++ others) (r.left ++ others) gone
        (in_session (AllByRecursion (IsFreeBut doubts book.pending)) (all_free (IsFreeBut doubts book.pending)) book r.name formed fit.free) in
        subst (FitBut doubts) (ap (with_sessions book) (sym r.is) ∙ some_is (with_sessions book after) next e) (sessions_fit doubts book r.name r.left parts fit.commands_differ (found_name id r.name all r.called f.stored) runs free)
still_fit doubts book (Put name entry) next parts named fit fits is = by (sessions_with name entry (sessions book)) refl is
  where
    doubt : (after : List Named) → sessions_with name entry (sessions book) ≡ Some after → with_sessions book after ≡ next → (b : Bool) → discards_any book.pending entry ≡ b → FitBut (cond b (doubts ++ entry.id ∷ []) doubts) next
    doubt after same e true some =
        put_fit doubts (doubts ++ entry.id ∷ []) book name entry after next parts named fit fits (still_doubted doubts entry.id book.pending) (inl (last_doubted doubts entry)) same e
    doubt after same e false none = put_fit doubts doubts book name entry after next parts named fit fits (λ x free. free) (inr none) same e

    by : (o : Option (List Named)) → sessions_with name entry (sessions book) ≡ o → option_map (with_sessions book) o ≡ Some next → FitBut (doubts_after book (Put name entry) doubts) next
    by None same e = absurd (none_not_some next e)
    by (Some after) same e = doubt after same (some_is (with_sessions book after) next e) (discards_any book.pending entry) refl
still_fit doubts book (Unpend place) next parts named fit fits is = by (without_at place book.pending) refl is
  where
    by : (o : Option (List Command)) → without_at place book.pending ≡ o → option_map (λ pending. with_pending book pending) o ≡ Some next → FitBut doubts next
    by None same e = absurd (none_not_some next e)
    by (Some left) same e =
        subst (FitBut doubts) (some_is (with_pending book left) next e) (record {
          runs = fit.runs;
          commands_differ = at_differ place book.pending left same fit.commands_differ;
          free = all_onward (IsFreeBut doubts book.pending) (IsFreeBut doubts left) (all_entries book) (free_at doubts place book.pending left same) fit.free;
        })
still_fit doubts book (Pend command) next parts named fit fits is =
    subst (FitBut doubts) (some_is (with_pending book (book.pending ++ command ∷ [])) next is) (record {
      runs = fit.runs;
      commands_differ = distinct_more same_command book.pending command fit.commands_differ fits.0;
      free =
          all_both (IsFreeBut doubts book.pending) (λ (e : Entry). discards_by command e ≡ false) (IsFreeBut doubts (book.pending ++ command ∷ [])) (all_entries book) (free_more doubts book.pending command) fit.free
          (any_none (discards_by command) (all_entries book) fits.1);
    })

-- ---- the calls

-- whether a command is the DiscardCommand of an entry of the chosen session, or of another
pub any_chosen : (test : Entry → Bool) (entries items : List Entry) (others : List Named) (result : Bool) → items ≡ entries → result ≡ list_any test items → true ≡ list_any test items → result ≡ list_any test (entries ++ entries_in others)
any_chosen test entries items others result is_items is some =
    is ∙ sym some ∙ ap (λ (b : Bool). b || list_any test (entries_in others)) (some ∙ ap (list_any test) is_items) ∙ sym (list_any-append test entries (entries_in others))

pub any_other : (test : Entry → Bool) (entries items : List Entry) (others rest : List Named) (result : Bool) → items ≡ entries → rest ≡ others → false ≡ list_any test items → result ≡ list_any (λ (s : Named). list_any test s.entries) rest
    → result ≡ list_any test (entries ++ entries_in others)
any_other test entries items others rest result is_items is_rest none is =
    is ∙ ap (λ (b : Bool). b || list_any (λ (s : Named). list_any test s.entries) rest) none ∙ any_in_book test entries items others rest is_items is_rest

not_true : (b : Bool) → IsTrue (not b) → b ≡ false
not_true true t = (let e : false ≡ true = t in absurd cc)
not_true false t = refl

pub pend_fits : (book : Book) (command : Command) (pending : List Command) (among discarded : Bool) → pending ≡ book.pending → among ≡ list_any (λ other. same_command other command) pending → among ≡ false → discarded ≡ list_any (discards_by command) (all_entries book)
    → IsTrue (not discarded) → FitsIn book (Pend command)
pend_fits book command pending among discarded is_pending is_among new is_discarded t =
    (ap (list_any (λ (other : Command). same_command other command)) (sym is_pending) ∙ sym is_among ∙ new, sym is_discarded ∙ not_true discarded t)

not_false : (b : Bool) → b ≡ false → IsTrue (not b)
not_false true e = absurd cc
not_false false e = refl

-- no entry names a pending command
pub none_discards : (book : Book) (result : Bool) → result ≡ list_any (discards_any book.pending) (all_entries book) → (IsTrue (not result) → AreUnnamed (all_entries book) book.pending) × (AreUnnamed (all_entries book) book.pending → IsTrue (not result))
none_discards book result is = (
  λ t. each_unnamed (all_entries book) book.pending (any_none (discards_any book.pending) (all_entries book) (sym is ∙ not_true result t)),
  λ h. not_false result (is ∙ none_any (discards_any book.pending) (all_entries book) (each_free (all_entries book) book.pending h)),
)
