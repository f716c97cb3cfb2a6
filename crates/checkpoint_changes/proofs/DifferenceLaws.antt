-- The steps in which a delta of two books is made.
use Rattle.std.proofs.Common.{◌≡◌, ℕ, ◌+◌, ◌<◌, ◌≤◌, ◌^◌, Bool, true, false, cond, List, [], ◌∷◌, ◌++◌, length, map, drop, get_or, Some, refl, sym, ap, ap₂, ◌∙◌, subst, append_assoc, arith}
use Rattle.std.specs.Prelude.{◌==◌, flat_map, if◌then◌else◌}
use Rattle.std.proofs.lemmas.Grind.{flat_map-append}
use Rattle.std.specs.List.{AllByRecursion, IsDistinct}
use Rattle.std.specs.Str.{bytes_eq}
use Rattle.std.proofs.lemmas.Bool.{eqb-true}
use Rattle.std.proofs.lemmas.List.{append-nil, drop_all}
use Rattle.owned_lists.specs.declared.commands.Command.{Command}
use Rattle.checkpoint_records.specs.Books.{chosen_from, entries_in, entries_of, others_than, same_command, sessions}
use Rattle.checkpoint_records.specs.Rules.{IsCommand, IsEntry, IsName, IsStored, KeepsRules, ids_of}
use Rattle.checkpoint_records.specs.declared.records.Book.{Book}
use Rattle.checkpoint_records.specs.declared.records.Entry.{Entry}
use Rattle.checkpoint_records.specs.declared.head.Format.TheVariants.{Several}
use Rattle.checkpoint_records.specs.declared.records.Named.{Named}
use Rattle.checkpoint_records.proofs.ChoiceLaws.{ordered}
use Rattle.checkpoint_records.proofs.DistinctLaws.{all_append, all_behind, all_front, all_turned, distinct_split}
use Rattle.checkpoint_records.proofs.SpellLaws.{id_short}
use Rattle.checkpoint_records.proofs.NameLaws.{all_rising, all_stored, chosen_stays}
use Rattle.checkpoint_changes.specs.Changes.{IsChange, apply, has_entry, with_sessions}
use Rattle.checkpoint_changes.specs.Differences.{TurnsPending, all_gone, all_placed, changed_entry, delta_between, gone, pending_changes, placed}
use Rattle.checkpoint_changes.specs.Plain.{IsPlain, KeepOrder, KeepsOrder, epoch_in, equal_command, equal_entry, missing_from, pended_in, put_in, removed_in, unpended_in}
use Rattle.checkpoint_changes.specs.declared.changes.Change.{Change}
use Rattle.checkpoint_changes.specs.declared.changes.Change.TheVariants.{Epoch, Pend, Put, Remove, Unpend}
use Rattle.checkpoint_changes.proofs.DeltaLaws.{apply_more, pending_lead}
use Rattle.checkpoint_changes.proofs.ApplyLaws.{next_item}
use Rattle.checkpoint_changes.proofs.EqualLaws.{commands_apart}
use Rattle.checkpoint_changes.proofs.PlainBooks.{Keeps, Orders, all_gone_plain, all_placed_plain}
use Rattle.checkpoint_changes.proofs.PlainLaws.{gone_bring, pended_plain, pending_brings, pending_stay, placed_bring, unpended_plain}
use Rattle.checkpoint_changes.proofs.MapLaws.{own_entries}
use Rattle.checkpoint_changes.proofs.RuleLaws.{later_entries}
use Rattle.checkpoint_changes.proofs.SessionLaws.{AreFormed, AreIdsDistinct, at_session, ids_free}
use Rattle.checkpoint_changes.proofs.WalkLaws.{both_hold, has_own, ids_more, session_distinct, sessions_lead}

-- ---- what goes of a session

stays_first : (e f : Entry) (old new : List Entry) → bytes_eq e.id f.id ≡ true → gone (e ∷ old) (f ∷ new) ≡ gone old new
stays_first e f old new same = rw same refl

goes_first : (e : Entry) (old new : List Entry) → ((f : Entry) (others : List Entry) → new ≡ f ∷ others → bytes_eq e.id f.id ≡ false) → gone (e ∷ old) new ≡ Remove e.id ∷ gone old new
goes_first e old [] other = refl
goes_first e old (f ∷ new) other = (let none = other f new refl in rw none refl)

pub kept_on : (old left : List Entry) (i : ℕ) (e f : Entry) (others : List Entry) (id : List ℕ) (delta whole : List Change) → i < length old → e ≡ get_or old i e → id ≡ e.id → left ≡ f ∷ others → bytes_eq id f.id ≡ true
    → delta ++ gone (drop i old) left ≡ whole → delta ++ gone (drop (i + 1) old) others ≡ whole
kept_on old left i e f others id delta whole lt is is_id is_left same so_far =
    let same_id : bytes_eq e.id f.id ≡ true = ap (λ (k : List ℕ). bytes_eq k f.id) (sym is_id) ∙ same in
    ap (λ (l : List Change). delta ++ l) (sym (stays_first e f (drop (i + 1) old) others same_id) ∙ ap₂ gone (sym (next_item i old e lt is)) (sym is_left)) ∙ so_far

pub gone_on : (old left : List Entry) (i : ℕ) (e : Entry) (id out : List ℕ) (delta mid whole : List Change) → i < length old → e ≡ get_or old i e → id ≡ e.id → out ≡ e.id → ((f : Entry) (others : List Entry) → left ≡ f ∷ others → bytes_eq id f.id ≡ false)
    → mid ≡ delta ++ Remove out ∷ [] → delta ++ gone (drop i old) left ≡ whole → mid ++ gone (drop (i + 1) old) left ≡ whole
gone_on old left i e id out delta mid whole lt is is_id is_out other is_mid so_far =
    let none : (f : Entry) (others : List Entry) → left ≡ f ∷ others → bytes_eq e.id f.id ≡ false = λ f others parts. ap (λ (k : List ℕ). bytes_eq k f.id) (sym is_id) ∙ other f others parts in
    ap (λ (l : List Change). l ++ gone (drop (i + 1) old) left) (is_mid ∙ ap (λ (k : List ℕ). delta ++ Remove k ∷ []) is_out) ∙ append_assoc delta (Remove e.id ∷ []) (gone (drop (i + 1) old) left)
    ∙ ap (λ (l : List Change). delta ++ l) (sym (goes_first e (drop (i + 1) old) left none) ∙ ap (λ (l : List Entry). gone l left) (sym (next_item i old e lt is))) ∙ so_far

pub gone_all : (old left : List Entry) (i : ℕ) (delta whole : List Change) → length old ≤ i → delta ++ gone (drop i old) left ≡ whole → delta ≡ whole
gone_all old left i delta whole all so_far = sym (append-nil delta) ∙ ap (λ (l : List Entry). delta ++ gone l left) (sym (drop_all i old all)) ∙ so_far

-- ---- what comes into a session

changes_first : (name : List ℕ) (e f : Entry) (old new : List Entry) → bytes_eq e.id f.id ≡ true → placed name (e ∷ old) (f ∷ new) ≡ changed_entry name e f ++ placed name old new
changes_first name e f old new same = rw same refl

passes_first : (name : List ℕ) (e : Entry) (old new : List Entry) → ((f : Entry) (others : List Entry) → new ≡ f ∷ others → bytes_eq e.id f.id ≡ false) → placed name (e ∷ old) new ≡ placed name old new
passes_first name e old [] other = sym (none_placed name old)
  where
    none_placed : (n : List ℕ) (xs : List Entry) → placed n xs [] ≡ []
    none_placed n [] = refl
    none_placed n (x ∷ xs) = refl
passes_first name e old (f ∷ new) other = (let none = other f new refl in rw none refl)

pub changed_on : (name : List ℕ) (old left : List Entry) (i : ℕ) (e f : Entry) (others : List Entry) (id : List ℕ) (delta mid whole : List Change) → i < length old → e ≡ get_or old i e → id ≡ e.id → left ≡ f ∷ others → bytes_eq id f.id ≡ true
    → mid ≡ delta ++ changed_entry name e f → delta ++ placed name (drop i old) left ≡ whole → mid ++ placed name (drop (i + 1) old) others ≡ whole
changed_on name old left i e f others id delta mid whole lt is is_id is_left same is_mid so_far =
    let same_id : bytes_eq e.id f.id ≡ true = ap (λ (k : List ℕ). bytes_eq k f.id) (sym is_id) ∙ same in
    ap (λ (l : List Change). l ++ placed name (drop (i + 1) old) others) is_mid ∙ append_assoc delta (changed_entry name e f) (placed name (drop (i + 1) old) others)
    ∙ ap (λ (l : List Change). delta ++ l) (sym (changes_first name e f (drop (i + 1) old) others same_id) ∙ ap₂ (placed name) (sym (next_item i old e lt is)) (sym is_left)) ∙ so_far

pub passed_on : (name : List ℕ) (old left : List Entry) (i : ℕ) (e : Entry) (id : List ℕ) (delta whole : List Change) → i < length old → e ≡ get_or old i e → id ≡ e.id → ((f : Entry) (others : List Entry) → left ≡ f ∷ others → bytes_eq id f.id ≡ false)
    → delta ++ placed name (drop i old) left ≡ whole → delta ++ placed name (drop (i + 1) old) left ≡ whole
passed_on name old left i e id delta whole lt is is_id other so_far =
    let none : (f : Entry) (others : List Entry) → left ≡ f ∷ others → bytes_eq e.id f.id ≡ false = λ f others parts. ap (λ (k : List ℕ). bytes_eq k f.id) (sym is_id) ∙ other f others parts in
    ap (λ (l : List Change). delta ++ l) (sym (passes_first name e (drop (i + 1) old) left none) ∙ ap (λ (l : List Entry). placed name l left) (sym (next_item i old e lt is))) ∙ so_far

pub placed_all : (name : List ℕ) (old left : List Entry) (i : ℕ) (delta final whole : List Change) → length old ≤ i → delta ++ placed name (drop i old) left ≡ whole → final ≡ delta ++ map (λ entry. Put name entry) left → final ≡ whole
placed_all name old left i delta final whole all so_far is = is ∙ ap (λ (l : List Entry). delta ++ placed name l left) (sym (drop_all i old all)) ∙ so_far

-- ---- pending commands

chosen_command : (n : ℕ) (c d : Command) (old new : List Command) → equal_command c d ≡ true → pending_changes n (c ∷ old) (d ∷ new) ≡ pending_changes (n + 1) old new
chosen_command n c d old new same = ap (λ (b : Bool). cond b (pending_changes (n + 1) old new) (Unpend n ∷ pending_changes n old (d ∷ new))) same

gone_command : (n : ℕ) (c : Command) (old new : List Command) → ((d : Command) (others : List Command) → new ≡ d ∷ others → equal_command c d ≡ false) → pending_changes n (c ∷ old) new ≡ Unpend n ∷ pending_changes n old new
gone_command n c old [] other = refl
gone_command n c old (d ∷ new) other = ap (λ (b : Bool). cond b (pending_changes (n + 1) old new) (Unpend n ∷ pending_changes n old (d ∷ new))) (other d new refl)

pub stays_more : (n : ℕ) (old left : List Command) (i : ℕ) (c : Command) (others : List Command) (delta whole : List Change) → i < length old → c ≡ get_or old i c → (next : Command) × (left ≡ next ∷ others) × (equal_command c next ≡ true)
    → delta ++ pending_changes n (drop i old) left ≡ whole → delta ++ pending_changes (n + 1) (drop (i + 1) old) others ≡ whole
stays_more n old left i c others delta whole lt is found so_far =
    ap (λ (l : List Change). delta ++ l) (sym (chosen_command n c found.0 (drop (i + 1) old) others found.2) ∙ ap₂ (pending_changes n) (sym (next_item i old c lt is)) (sym found.1)) ∙ so_far

pub goes_more : (n : ℕ) (old left : List Command) (i : ℕ) (c : Command) (delta mid whole : List Change) → i < length old → c ≡ get_or old i c → ((d : Command) (others : List Command) → left ≡ d ∷ others → equal_command c d ≡ false)
    → mid ≡ delta ++ Unpend n ∷ [] → delta ++ pending_changes n (drop i old) left ≡ whole → mid ++ pending_changes n (drop (i + 1) old) left ≡ whole
goes_more n old left i c delta mid whole lt is other is_mid so_far =
    ap (λ (l : List Change). l ++ pending_changes n (drop (i + 1) old) left) is_mid ∙ append_assoc delta (Unpend n ∷ []) (pending_changes n (drop (i + 1) old) left)
    ∙ ap (λ (l : List Change). delta ++ l) (sym (gone_command n c (drop (i + 1) old) left other) ∙ ap (λ (l : List Command). pending_changes n l left) (sym (next_item i old c lt is))) ∙ so_far

pends_fit : (new : List Command) → AllByRecursion IsCommand new → AllByRecursion (IsChange Several) (map (λ command. Pend command) new)
pends_fit [] h = tt
pends_fit (d ∷ new) h = (h.0, pends_fit new h.1)

pending_fit : (n : ℕ) (old new : List Command) → n + length old ≤ 320 → AllByRecursion IsCommand new → AllByRecursion (IsChange Several) (pending_changes n old new)
pending_fit n [] new few h = pends_fit new h
pending_fit n (c ∷ old) [] few h = (omega (arith, few), pending_fit n old [] (omega (arith, few)) h)
pending_fit n (c ∷ old) (d ∷ new) few h = by (equal_command c d) (pending_fit (n + 1) old new (omega (arith, few)) h.1) (pending_fit n old (d ∷ new) (omega (arith, few)) h)
  where
    by : (b : Bool) → AllByRecursion (IsChange Several) (pending_changes (n + 1) old new) → AllByRecursion (IsChange Several) (pending_changes n old (d ∷ new)) → AllByRecursion (IsChange Several) (cond b (pending_changes (n + 1) old new) (Unpend n ∷ pending_changes n old (d ∷ new)))
    by true one two = one
    by false one two = (omega (arith, few), two)

pub pending_turned : (n : ℕ) (old new left : List Command) (i : ℕ) (start delta final : List Change) → length old ≤ 320 → AllByRecursion IsCommand new → IsDistinct same_command old → IsDistinct same_command new → length old ≤ i
    → delta ++ pending_changes n (drop i old) left ≡ start ++ pending_changes 0 old new → final ≡ delta ++ map (λ command. Pend command) left → (added : List Change) × (final ≡ start ++ added) × TurnsPending old new added
pending_turned n old new left i start delta final few fit d_old d_new all so_far is =
    let apart_old = commands_apart old d_old in
    let apart_new = commands_apart new d_new in (
      pending_changes 0 old new,
      is ∙ ap (λ (l : List Command). delta ++ pending_changes n l left) (sym (drop_all i old all)) ∙ so_far,
      record {
        is = refl;
        leads = λ book is_old. pending_lead 0 old new [] book refl is_old;
        changes = pending_fit 0 old new (omega (arith, few)) fit;
        epoch = pending_brings epoch_in (λ c. refl) (λ p. refl) 0 old new;
        removed = pending_brings removed_in (λ c. refl) (λ p. refl) 0 old new;
        put = pending_brings put_in (λ c. refl) (λ p. refl) 0 old new;
        unpended = λ k. unpended_plain 0 old new apart_old (pending_stay old new apart_old k);
        pended = λ k. pended_plain 0 old new apart_new (pending_stay old new apart_old k);
      },
    )

-- ---- the changes fit

abbrev pub epoch_change : ℕ → ℕ → List Change
epoch_change old new = if old == new then [] else (Epoch new ∷ [])

gone_fit : (old new : List Entry) → AllByRecursion (IsEntry 4294967295) old → AllByRecursion (IsChange Several) (gone old new)
gone_fit [] new h = tt
gone_fit (e ∷ old) [] h = (id_short 4294967295 e.id h.0.id, gone_fit old [] h.1)
gone_fit (e ∷ old) (f ∷ new) h = by (bytes_eq e.id f.id) (gone_fit old new h.1) (gone_fit old (f ∷ new) h.1)
  where
    by : (b : Bool) → AllByRecursion (IsChange Several) (gone old new) → AllByRecursion (IsChange Several) (gone old (f ∷ new)) → AllByRecursion (IsChange Several) (cond b (gone old new) (Remove e.id ∷ gone old (f ∷ new)))
    by true one two = one
    by false one two = (id_short 4294967295 e.id h.0.id, two)

puts_fit : (name : List ℕ) (new : List Entry) → IsName name → AllByRecursion (IsEntry 4294967295) new → AllByRecursion (IsChange Several) (map (λ entry. Put name entry) new)
puts_fit name [] is h = tt
puts_fit name (f ∷ new) is h = ((is, h.0), puts_fit name new is h.1)

placed_fit : (name : List ℕ) (old new : List Entry) → IsName name → AllByRecursion (IsEntry 4294967295) new → AllByRecursion (IsChange Several) (placed name old new)
placed_fit name [] new is h = puts_fit name new is h
placed_fit name (e ∷ old) [] is h = tt
placed_fit name (e ∷ old) (f ∷ new) is h = by (bytes_eq e.id f.id) (placed_fit name old new is h.1) (placed_fit name old (f ∷ new) is h)
  where
    one : (b : Bool) → AllByRecursion (IsChange Several) (cond b [] (Put name f ∷ []))
    one true = tt
    one false = ((is, h.0), tt)

    by : (b : Bool) → AllByRecursion (IsChange Several) (placed name old new) → AllByRecursion (IsChange Several) (placed name old (f ∷ new)) → AllByRecursion (IsChange Several) (cond b (changed_entry name e f ++ placed name old new) (placed name old (f ∷ new)))
    by true first second = all_append (IsChange Several) (changed_entry name e f) (placed name old new) (one (equal_entry e f)) first
    by false first second = second

all_gone_fit : (old new : List Named) → AllByRecursion (IsEntry 4294967295) (entries_in old) → AllByRecursion (IsChange Several) (all_gone old new)
all_gone_fit [] new h = tt
all_gone_fit (s ∷ old) new h =
    all_append (IsChange Several) (gone s.entries (entries_of s.name new)) (all_gone old new) (gone_fit s.entries (entries_of s.name new) (all_front (IsEntry 4294967295) s.entries (entries_in old) h))
    (all_gone_fit old new (all_behind (IsEntry 4294967295) s.entries (entries_in old) h))

all_placed_fit : (old new : List Named) → AllByRecursion IsStored new → AllByRecursion (IsEntry 4294967295) (entries_in new) → AllByRecursion (IsChange Several) (all_placed old new)
all_placed_fit old [] is h = tt
all_placed_fit old (s ∷ new) is h =
    all_append (IsChange Several) (placed s.name (entries_of s.name old) s.entries) (all_placed old new) (placed_fit s.name (entries_of s.name old) s.entries is.0.called (all_front (IsEntry 4294967295) s.entries (entries_in new) h))
    (all_placed_fit old new is.1 (all_behind (IsEntry 4294967295) s.entries (entries_in new) h))

epoch_fits : (old new : ℕ) → new < 2 ^ 32 → AllByRecursion (IsChange Several) (epoch_change old new)
epoch_fits old new lt = by (old == new)
  where
    by : (b : Bool) → AllByRecursion (IsChange Several) (cond b [] (Epoch new ∷ []))
    by true = tt
    by false = (lt, tt)

pub all_fit : (old new : Book) (ps qs : List Command) (none one two three four y : List Change) → KeepsRules old → KeepsRules new → old.epoch < 2 ^ 32 → new.epoch < 2 ^ 32 → none ≡ [] → one ≡ none ++ epoch_change old.epoch new.epoch
    → two ≡ one ++ all_gone (sessions old) (sessions new) → three ≡ two ++ all_placed (sessions old) (sessions new) → four ≡ three ++ y → TurnsPending ps qs y → AllByRecursion (IsChange Several) four
all_fit old new ps qs none one two three four y old_rules new_rules old_lt new_lt is_none is_one is_two is_three is_four pending =
    let P : Change → Type 0 = IsChange Several in
    let e : List Change = epoch_change old.epoch new.epoch in
    let a : List Change = all_gone (sessions old) (sessions new) in
    let b : List Change = all_placed (sessions old) (sessions new) in
    let h = ordered old old_rules in
    let k = ordered new new_rules in
    let first : AllByRecursion P one = subst (AllByRecursion P) (sym (is_one ∙ ap (λ (l : List Change). l ++ e) is_none)) (epoch_fits old.epoch new.epoch new_lt) in
    let second : AllByRecursion P two = subst (AllByRecursion P) (sym is_two) (all_append P one a first (all_gone_fit (sessions old) (sessions new) (later_entries old.epoch (entries_in (sessions old)) old_lt h.entries.each))) in
    let third : AllByRecursion P three = subst (AllByRecursion P) (sym is_three) (all_append P two b second (all_placed_fit (sessions old) (sessions new) k.stored (later_entries new.epoch (entries_in (sessions new)) new_lt k.entries.each))) in
    subst (AllByRecursion P) (sym is_four) (all_append P three y third pending.changes)

-- ---- the whole

pub all_between : (old new : Book) (ps qs : List Command) (none one two three four y : List Change) → ps ≡ old.pending → qs ≡ new.pending → none ≡ [] → one ≡ none ++ epoch_change old.epoch new.epoch
    → two ≡ one ++ all_gone (sessions old) (sessions new) → three ≡ two ++ all_placed (sessions old) (sessions new) → four ≡ three ++ y → TurnsPending ps qs y → four ≡ delta_between old new
all_between old new ps qs none one two three four y is_ps is_qs is_none is_one is_two is_three is_four pending =
    let e : List Change = epoch_change old.epoch new.epoch in
    let a : List Change = all_gone (sessions old) (sessions new) in
    let b : List Change = all_placed (sessions old) (sessions new) in
    let last : y ≡ pending_changes 0 old.pending new.pending = pending.is ∙ ap₂ (pending_changes 0) is_ps is_qs in
    let second : two ≡ e ++ a = is_two ∙ ap (λ (l : List Change). l ++ a) (is_one ∙ ap (λ (l : List Change). l ++ e) is_none) in
    is_four ∙ ap₂ (λ (l m : List Change). l ++ m) (is_three ∙ ap (λ (l : List Change). l ++ b) second) last
    ∙ append_assoc (e ++ a) b (pending_changes 0 old.pending new.pending) ∙ append_assoc e a (b ++ pending_changes 0 old.pending new.pending)

book_with : Book → ℕ → Book
book_with book epoch = record book { epoch = epoch }

epoch_leads : (old : Book) (epoch : ℕ) → apply old (epoch_change old.epoch epoch) ≡ Some (record old { epoch = epoch })
unfolding book_with
epoch_leads old epoch = by (old.epoch == epoch) refl
  where
    by : (b : Bool) → (old.epoch == epoch) ≡ b → apply old (cond b [] (Epoch epoch ∷ [])) ≡ Some (book_with old epoch)
    by true same = ap (λ (n : ℕ). Some (book_with old n)) (eqb-true old.epoch epoch same)
    by false other = refl

all_ids_differ : (book : Book) → KeepsRules book → AreIdsDistinct (entries_in (sessions book))
all_ids_differ book k = (ordered book k).entries.ids_differ

all_are_formed : (book : Book) → KeepsRules book → AreFormed (sessions book)
all_are_formed book k = record { stored = all_stored book k; rising = all_rising book k }

pub all_lead : (old new : Book) (ps qs : List Command) (none one two three four y : List Change) → KeepsRules old → KeepsRules new → old.name ≡ new.name → ps ≡ old.pending → qs ≡ new.pending → none ≡ [] → one ≡ none ++ epoch_change old.epoch new.epoch
    → two ≡ one ++ all_gone (sessions old) (sessions new) → three ≡ two ++ all_placed (sessions old) (sessions new) → four ≡ three ++ y → TurnsPending ps qs y → apply old four ≡ Some new
unfolding book_with
all_lead old new ps qs none one two three four y old_rules new_rules names is_ps is_qs is_none is_one is_two is_three is_four pending =
    let e : List Change = epoch_change old.epoch new.epoch in
    let a : List Change = all_gone (sessions old) (sessions new) in
    let b : List Change = all_placed (sessions old) (sessions new) in
    let first : one ≡ e = is_one ∙ ap (λ (l : List Change). l ++ e) is_none in
    let whole : four ≡ e ++ ((a ++ b) ++ y) =
    is_four ∙ ap (λ (l : List Change). l ++ y) (is_three ∙ ap (λ (l : List Change). l ++ b) (is_two ∙ ap (λ (l : List Change). l ++ a) first) ∙ append_assoc e a b) ∙ append_assoc e (a ++ b) y in
    let mid : Book = book_with old new.epoch in
    let next : Book = chosen_from old.name (sessions new) old.pending new.epoch in
    let same : with_sessions mid (sessions old) ≡ mid = ap (λ (x : Book). book_with x new.epoch) (chosen_stays old old_rules) in
    let led : apply mid (a ++ b) ≡ Some next = ap (λ (x : Book). apply x (a ++ b)) (sym same) ∙ sessions_lead mid (sessions old) (sessions new) (all_are_formed old old_rules) (all_are_formed new new_rules) (all_ids_differ old old_rules) (all_ids_differ new new_rules) in
    ap (apply old) whole ∙ apply_more e ((a ++ b) ++ y) old mid (epoch_leads old new.epoch) ∙ apply_more (a ++ b) y mid next led ∙ pending.leads next (sym is_ps)
    ∙ ap₂ (λ (n : List ℕ) (l : List Command). Some (chosen_from n (sessions new) l new.epoch)) names is_qs ∙ ap (λ (x : Book). Some x) (chosen_stays new new_rules)

-- ---- the delta is plain

gone_brings : {X : Type 0} (brings : Change → List X) → ((id : List ℕ) → brings (Remove id) ≡ []) → (some new : List Named) → flat_map brings (all_gone some new) ≡ []
gone_brings brings none [] new = refl
gone_brings {X} brings none (s ∷ some) new =
    flat_map-append brings (gone s.entries (entries_of s.name new)) (all_gone some new) ∙ ap₂ (λ (a b : List X). a ++ b) (gone_bring brings none s.entries (entries_of s.name new)) (gone_brings brings none some new)

placed_brings : {X : Type 0} (brings : Change → List X) → ((name : List ℕ) (entry : Entry) → brings (Put name entry) ≡ []) → (old some : List Named) → flat_map brings (all_placed old some) ≡ []
placed_brings brings none old [] = refl
placed_brings {X} brings none old (s ∷ some) =
    flat_map-append brings (placed s.name (entries_of s.name old) s.entries) (all_placed old some) ∙ ap₂ (λ (a b : List X). a ++ b) (placed_bring brings none s.name (entries_of s.name old) s.entries) (placed_brings brings none old some)

epoch_brings : {X : Type 0} (brings : Change → List X) → ((n : ℕ) → brings (Epoch n) ≡ []) → (old new : ℕ) → flat_map brings (epoch_change old new) ≡ []
epoch_brings {X} brings none old new = by (old == new)
  where
    by : (b : Bool) → flat_map brings (cond b [] (Epoch new ∷ [])) ≡ []
    by true = refl
    by false = rw (none new) refl

epoch_told : (old new : ℕ) → flat_map epoch_in (epoch_change old new) ≡ (if old == new then [] else (new ∷ []))
epoch_told old new = by (old == new)
  where
    by : (b : Bool) → flat_map epoch_in (cond b [] (Epoch new ∷ [])) ≡ cond b [] (new ∷ [])
    by true = refl
    by false = refl

four_parts : {X : Type 0} (brings : Change → List X) (e a b y : List Change) → flat_map brings (e ++ ((a ++ b) ++ y)) ≡ flat_map brings e ++ ((flat_map brings a ++ flat_map brings b) ++ flat_map brings y)
four_parts {X} brings e a b y =
    flat_map-append brings e ((a ++ b) ++ y) ∙ ap (λ (l : List X). flat_map brings e ++ l) (flat_map-append brings (a ++ b) y ∙ ap (λ (l : List X). l ++ flat_map brings y) (flat_map-append brings a b))

four_are : {X : Type 0} (e a b y : List X) (f c d z : List X) → e ≡ f → a ≡ c → b ≡ d → y ≡ z → e ++ ((a ++ b) ++ y) ≡ f ++ ((c ++ d) ++ z)
four_are e a b y f c d z is_e is_a is_b is_y = rw (is_e, is_a, is_b, is_y) refl

session_keeps : (old new : Book) (s : Named) → KeepOrder old new → entries_of s.name (sessions old) ≡ s.entries → IsDistinct bytes_eq (ids_of s.entries) → Orders (sessions new) s
session_keeps old new s k own d = record {
  distinct = d;
  order = subst (λ (es : List Entry). KeepsOrder bytes_eq (ids_of es) (ids_of (entries_of s.name (sessions new)))) own (k.entries s.name);
  stays = all_turned (λ (e : Entry). has_entry e.id ([] ++ s.entries) ≡ true) (λ (e : Entry). has_entry e.id (entries_in (others_than s.name (sessions new))) ≡ false) s.entries
      (λ e has. k.stays s.name e.id (ap (has_entry e.id) own ∙ has)) (has_own s.entries []);
}

part_distinct : (name : List ℕ) (all : List Named) → AreFormed all → AreIdsDistinct (entries_in all) → IsDistinct bytes_eq (ids_of (entries_of name all))
part_distinct name all f d =
    (distinct_split bytes_eq (ids_of (entries_of name all)) (ids_of (entries_in (others_than name all))) (subst (IsDistinct bytes_eq) (ids_more (entries_of name all) (entries_in (others_than name all))) (at_session AreIdsDistinct ids_free name all f d))).0

session_follows : (old new : Book) (s : Named) → KeepOrder old new → AreFormed (sessions old) → AreIdsDistinct (entries_in (sessions old)) → entries_of s.name (sessions new) ≡ s.entries → IsDistinct bytes_eq (ids_of s.entries) → Keeps (sessions old) s
session_follows old new s k f d own mine = record {
  old_distinct = part_distinct s.name (sessions old) f d;
  distinct = mine;
  order = subst (λ (es : List Entry). KeepsOrder bytes_eq (ids_of (entries_of s.name (sessions old))) (ids_of es)) own (k.entries s.name);
}

pub all_plain : (old new : Book) (ps qs : List Command) (none one two three four y : List Change) → KeepsRules old → KeepsRules new → ps ≡ old.pending → qs ≡ new.pending → none ≡ [] → one ≡ none ++ epoch_change old.epoch new.epoch
    → two ≡ one ++ all_gone (sessions old) (sessions new) → three ≡ two ++ all_placed (sessions old) (sessions new) → four ≡ three ++ y → TurnsPending ps qs y → KeepOrder old new → IsPlain old new four
all_plain old new ps qs none one two three four y old_rules new_rules is_ps is_qs is_none is_one is_two is_three is_four pending k =
    let e : List Change = epoch_change old.epoch new.epoch in
    let a : List Change = all_gone (sessions old) (sessions new) in
    let b : List Change = all_placed (sessions old) (sessions new) in
    let first : one ≡ e = is_one ∙ ap (λ (l : List Change). l ++ e) is_none in
    let whole : four ≡ e ++ ((a ++ b) ++ y) =
    is_four ∙ ap (λ (l : List Change). l ++ y) (is_three ∙ ap (λ (l : List Change). l ++ b) (is_two ∙ ap (λ (l : List Change). l ++ a) first) ∙ append_assoc e a b) ∙ append_assoc e (a ++ b) y in
    let f = all_are_formed old old_rules in
    let g = all_are_formed new new_rules in
    let d = all_ids_differ old old_rules in
    let c = all_ids_differ new new_rules in
    let orders = both_hold (λ (s : Named). entries_of s.name (sessions old) ≡ s.entries) (λ (s : Named). AreIdsDistinct s.entries) (Orders (sessions new)) (sessions old) (λ s own mine. session_keeps old new s k own mine) (own_entries (sessions old) f.rising) (session_distinct (sessions old) d) in
    let follows = both_hold (λ (s : Named). entries_of s.name (sessions new) ≡ s.entries) (λ (s : Named). AreIdsDistinct s.entries) (Keeps (sessions old)) (sessions new) (λ s own mine. session_follows old new s k f d own mine) (own_entries (sessions new) g.rising) (session_distinct (sessions new) c) in
    let ordered_pending : KeepsOrder equal_command ps qs = subst (λ (l : List Command). KeepsOrder equal_command l qs) (sym is_ps) (subst (λ (l : List Command). KeepsOrder equal_command old.pending l) (sym is_qs) k.pending) in
    record {
      epoch = ap (flat_map epoch_in) whole ∙ four_parts epoch_in e a b y
          ∙ four_are (flat_map epoch_in e) (flat_map epoch_in a) (flat_map epoch_in b) (flat_map epoch_in y) (flat_map epoch_in e) [] [] [] refl (gone_brings epoch_in (λ id. refl) (sessions old) (sessions new)) (placed_brings epoch_in (λ n x. refl) (sessions old) (sessions new)) pending.epoch
          ∙ append-nil (flat_map epoch_in e) ∙ epoch_told old.epoch new.epoch;
      removed = ap (flat_map removed_in) whole ∙ four_parts removed_in e a b y
          ∙ four_are (flat_map removed_in e) (flat_map removed_in a) (flat_map removed_in b) (flat_map removed_in y) [] (flat_map removed_in a) [] [] (epoch_brings removed_in (λ n. refl) old.epoch new.epoch) refl (placed_brings removed_in (λ n x. refl) (sessions old) (sessions new)) pending.removed
          ∙ append-nil (flat_map removed_in a ++ []) ∙ append-nil (flat_map removed_in a) ∙ all_gone_plain (sessions old) (sessions new) g orders;
      put = ap (flat_map put_in) whole ∙ four_parts put_in e a b y
          ∙ four_are (flat_map put_in e) (flat_map put_in a) (flat_map put_in b) (flat_map put_in y) [] [] (flat_map put_in b) [] (epoch_brings put_in (λ n. refl) old.epoch new.epoch) (gone_brings put_in (λ id. refl) (sessions old) (sessions new)) refl pending.put
          ∙ append-nil (flat_map put_in b) ∙ all_placed_plain (sessions old) (sessions new) f.rising follows;
      unpended = ap (λ (l : List Change). length (flat_map unpended_in l)) whole ∙ ap length (four_parts unpended_in e a b y
          ∙ four_are (flat_map unpended_in e) (flat_map unpended_in a) (flat_map unpended_in b) (flat_map unpended_in y) [] [] [] (flat_map unpended_in y) (epoch_brings unpended_in (λ n. refl) old.epoch new.epoch) (gone_brings unpended_in (λ id. refl) (sessions old) (sessions new)) (placed_brings unpended_in (λ n x. refl) (sessions old) (sessions new)) refl)
          ∙ pending.unpended ordered_pending ∙ ap₂ (λ (l m : List Command). length (missing_from equal_command l m)) is_qs is_ps;
      pended = ap (flat_map pended_in) whole ∙ four_parts pended_in e a b y
          ∙ four_are (flat_map pended_in e) (flat_map pended_in a) (flat_map pended_in b) (flat_map pended_in y) [] [] [] (flat_map pended_in y) (epoch_brings pended_in (λ n. refl) old.epoch new.epoch) (gone_brings pended_in (λ id. refl) (sessions old) (sessions new)) (placed_brings pended_in (λ n x. refl) (sessions old) (sessions new)) refl
          ∙ pending.pended ordered_pending ∙ ap₂ (λ (l m : List Command). missing_from equal_command l m) is_ps is_qs;
    }
