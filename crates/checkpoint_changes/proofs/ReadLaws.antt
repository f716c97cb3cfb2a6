-- Reading what stands behind a book.
use Rattle.std.proofs.Common.{◌≡◌, ℕ, ◌+◌, ◌-◌, ◌<◌, ◌≤◌, ◌^◌, inl, inr, true, false, List, [], ◌∷◌, ◌++◌, length, take, drop, Option, Some, None, refl, sym, ap, ◌∙◌, subst, append_assoc, arith, length-append}
use Rattle.std.specs.Prelude.{◌==◌, flat_map, option_and_then, option_map}
use Rattle.std.specs.List.{AllByRecursion}
use Rattle.std.proofs.lemmas.Bool.{eqb-true}
use Rattle.std.proofs.lemmas.List.{append-nil}
use Rattle.std.proofs.lemmas.Grind.{flat_map-append}
use Rattle.ice_values.specs.Cells.{Cells}
use Rattle.ice_values.proofs.CellLaws.{length-zeros, zeros-append}
use Rattle.ice_values.proofs.OptionLaws.{none_not_some, some_is}
use Rattle.checkpoint_records.specs.Books.{default_name, sessions}
use Rattle.owned_lists.specs.declared.commands.Command.{Command}
use Rattle.checkpoint_records.specs.declared.records.Named.{Named}
use Rattle.checkpoint_records.specs.Damage.{IsDamaged}
use Rattle.checkpoint_records.specs.Spelling.{Spells}
use Rattle.checkpoint_records.specs.Finding.{Finds}
use Rattle.checkpoint_records.specs.Rules.{KeepsRules}
use Rattle.checkpoint_records.specs.declared.records.Book.{Book}
use Rattle.checkpoint_records.proofs.FindLaws.{found_is, none_found}
use Rattle.checkpoint_changes.specs.Amendments.{told_length, Amended, Amends, Follow, ReadsOn, SlotDamaged, SlotLeads, StopsAt, all_bytes, amendment_bytes, delta_bytes, is_at_end}
use Rattle.checkpoint_records.specs.declared.head.Format.{Format}
use Rattle.checkpoint_changes.specs.Changes.{IsChange, applied, apply, change_cells, sessions_with, sessions_without, with_sessions, without_at}
use Rattle.checkpoint_changes.specs.Taking.{AppliesAll, TakesAmendment, framed}
use Rattle.checkpoint_changes.specs.declared.changes.Change.{Change}
use Rattle.checkpoint_changes.specs.declared.changes.Change.TheVariants.{Epoch, Pend, Put, Remove, Unpend}
use Rattle.checkpoint_changes.proofs.OnceLaws.{change_long, change_once, delta_once}
use Rattle.checkpoint_changes.proofs.TakeLaws.{FitsFrame, change_bytes}

module _ (format : Format) where
  -- ---- the changes of a delta

  -- these bytes are the changes of a delta
  abbrev pub AreChanges : List ℕ → List Change → Type 0
  AreChanges bytes delta = AllByRecursion (IsChange format) delta × (bytes ≡ delta_bytes (change_cells format) delta)

  -- What is left leads from this book where the whole leads from the first.
  pub record Remains (start : Book) (bytes : List ℕ) (book : Book) (left : List ℕ) : Type 0 where
    pub on : (delta : List Change) → AreChanges left delta → (whole : List Change) × AreChanges bytes whole × (apply start whole ≡ apply book delta)
    pub back : (whole : List Change) → AreChanges bytes whole → (delta : List Change) × AreChanges left delta × (apply start whole ≡ apply book delta)

  pub all_remains : (book : Book) (bytes : List ℕ) → Remains book bytes book bytes
  all_remains book bytes = record { on = λ delta are. (delta, are, refl); back = λ whole are. (whole, are, refl) }

  first_bytes : (change : Change) (delta : List Change) → delta_bytes (change_cells format) (change ∷ delta) ≡ (change_bytes format) change ++ delta_bytes (change_cells format) delta
  first_bytes change delta = zeros-append (change_cells format change) (flat_map (change_cells format) delta)

  some_bytes : (change : Change) (rest : List ℕ) → (change_bytes format) change ++ rest ≡ [] → ⊥
  some_bytes change rest is = omega (arith, ap length is, length-append (change_bytes format change) rest, length-zeros (change_cells format change), (change_long format) change)

  apply_first : (book : Book) (change : Change) (delta : List Change) (o : Option Book) → applied book change ≡ o → apply book (change ∷ delta) ≡ option_and_then (λ (next : Book). apply next delta) o
  apply_first book change delta o is = ap (option_and_then (λ (next : Book). apply next delta)) is

  module _ (left : List ℕ) (change : Change) (rest : List ℕ) (finds : Finds (change_bytes format) (IsChange format) left (Some (change, rest))) where
    -- each delta of the bytes begins with this change
    begins : (delta : List Change) → AreChanges left delta → (more : List Change) × AreChanges rest more × (delta ≡ change ∷ more)
    begins [] are = absurd (some_bytes change rest (sym finds.some.1 ∙ are.1))
    begins (d ∷ more) are =
        let e = found_is (change_bytes format) (IsChange format) left change d rest (delta_bytes (change_cells format) more) finds are.0.0 (are.1 ∙ first_bytes d more) in
        (more, (are.0.1, e.1), ap (λ (c : Change). c ∷ more) (sym e.0))

    pub one_less : (start : Book) (bytes : List ℕ) (book next : Book) → Remains start bytes book left → applied book change ≡ Some next → Remains start bytes next rest
    one_less start bytes book next remains is = record {
      on = λ delta are.
          let h = remains.on (change ∷ delta) ((finds.some.0, are.0), finds.some.1 ∙ ap (λ (l : List ℕ). (change_bytes format) change ++ l) are.1 ∙ sym (first_bytes change delta)) in
          (h.0, h.1, h.2 ∙ apply_first book change delta (Some next) is);
      back = λ whole are.
          let h = remains.back whole are in
          let b = begins h.0 h.1 in
          (b.0, b.1, h.2 ∙ ap (apply book) b.2 ∙ apply_first book change b.0 (Some next) is);
    }

    pub not_applied : (start : Book) (bytes : List ℕ) (book : Book) → Remains start bytes book left → applied book change ≡ None → AppliesAll format start bytes None
    not_applied start bytes book remains is = record {
      some = tt;
      none = λ whole changes whole_is.
          let h = remains.back whole (changes, whole_is) in
          let b = begins h.0 h.1 in
          h.2 ∙ ap (apply book) b.2 ∙ apply_first book change b.0 None is;
    }

    pub shorter : length rest < length left
    shorter = omega (arith, ap length finds.some.1, length-append (change_bytes format change) rest, length-zeros (change_cells format change), (change_long format) change)

  pub not_cut : (start : Book) (bytes : List ℕ) (book : Book) (left : List ℕ) → Remains start bytes book left → (left ≡ [] → ⊥) → Finds (change_bytes format) (IsChange format) left None → AppliesAll format start bytes None
  not_cut start bytes book left remains some none = record {
    some = tt;
    none = λ whole changes whole_is. let h = remains.back whole (changes, whole_is) in absurd (by h.0 h.1);
  }
    where
      by : (delta : List Change) → AreChanges left delta → ⊥
      by [] are = some are.1
      by (d ∷ more) are = none_found (change_bytes format) (IsChange format) left d (delta_bytes (change_cells format) more) none are.0.0 (are.1 ∙ first_bytes d more)

  pub all_applied : (start : Book) (bytes : List ℕ) (book : Book) (left : List ℕ) → Remains start bytes book left → left ≡ [] → AppliesAll format start bytes (Some book)
  all_applied start bytes book left remains empty =
      let h = remains.on [] (tt, empty) in
      record { some = (h.0, h.1.0, h.1.1, h.2); none = tt }

  -- ---- one amendment

  module _ (book : Book) (bytes : List ℕ) where
    pub no_frame : Finds framed FitsFrame bytes None → TakesAmendment format book bytes None
    no_frame none = record {
      some = tt;
      none = λ delta next after is amended. none_found framed FitsFrame bytes (delta_bytes (change_cells format) delta) after none amended.size is;
    }

    pub nothing_changed : (changes rest : List ℕ) → Finds framed FitsFrame bytes (Some (changes, rest)) → changes ≡ [] → KeepsRules book → book.epoch < 2 ^ 32 → TakesAmendment format book bytes (Some (book, rest))
    nothing_changed changes rest finds empty rules epoch = record {
      some = ([], record { changes = tt; size = omega arith; applied = refl; rules = rules; epoch = epoch }, finds.some.1 ∙ ap (λ (l : List ℕ). framed l ++ rest) empty);
      none = tt;
    }

    pub not_led : (changes rest : List ℕ) → Finds framed FitsFrame bytes (Some (changes, rest)) → AppliesAll format book changes None → TakesAmendment format book bytes None
    not_led changes rest finds none = record {
      some = tt;
      none = λ delta next after is amended.
          let e = found_is framed FitsFrame bytes changes (delta_bytes (change_cells format) delta) rest after finds amended.size is in
          none_not_some next (sym (none.none delta amended.changes e.0) ∙ amended.applied);
    }

    pub not_by_rules : (changes rest : List ℕ) (next : Book) → Finds framed FitsFrame bytes (Some (changes, rest)) → AppliesAll format book changes (Some next) → ¬ (KeepsRules next) → TakesAmendment format book bytes None
    not_by_rules changes rest next finds all broken = record {
      some = tt;
      none = λ delta other after is amended.
          let e = found_is framed FitsFrame bytes changes (delta_bytes (change_cells format) delta) rest after finds amended.size is in
          let same = delta_once (change_cells format) (IsChange format) (change_once format) (change_long format) all.some.0 delta all.some.1 amended.changes (sym all.some.2 ∙ e.0) in
          broken (subst KeepsRules (some_is other next (sym amended.applied ∙ ap (apply book) (sym same) ∙ all.some.3)) amended.rules);
    }

    pub is_amended : (changes rest : List ℕ) (next : Book) → Finds framed FitsFrame bytes (Some (changes, rest)) → AppliesAll format book changes (Some next) → KeepsRules next → next.epoch < 2 ^ 32 → TakesAmendment format book bytes (Some (next, rest))
    is_amended changes rest next finds all rules epoch = record {
      some = (
        all.some.0,
        record { changes = all.some.1; size = subst FitsFrame all.some.2 finds.some.0; applied = all.some.3; rules = rules; epoch = epoch },
        finds.some.1 ∙ ap (λ (l : List ℕ). framed l ++ rest) all.some.2,
      );
      none = tt;
    }

-- ---- the chosen session

-- a change leaves the name of the chosen session
same_name : (book next : Book) (change : Change) → applied book change ≡ Some next → next.name ≡ book.name
same_name book next (Epoch epoch) is = sym (ap (λ (b : Book). b.name) (some_is (record book { epoch = epoch }) next is))
same_name book next (Remove id) is = by (sessions_without id (sessions book)) is
  where
    by : (o : Option (List Named)) → option_map (with_sessions book) o ≡ Some next → next.name ≡ book.name
    by None e = absurd (none_not_some next e)
    by (Some all) e = sym (ap (λ (b : Book). b.name) (some_is (with_sessions book all) next e))
same_name book next (Put name entry) is = by (sessions_with name entry (sessions book)) is
  where
    by : (o : Option (List Named)) → option_map (with_sessions book) o ≡ Some next → next.name ≡ book.name
    by None e = absurd (none_not_some next e)
    by (Some all) e = sym (ap (λ (b : Book). b.name) (some_is (with_sessions book all) next e))
same_name book next (Unpend place) is = by (without_at place book.pending) is
  where
    by : (o : Option (List Command)) → option_map (λ (pending : List Command). record book { pending = pending }) o ≡ Some next → next.name ≡ book.name
    by None e = absurd (none_not_some next e)
    by (Some pending) e = sym (ap (λ (b : Book). b.name) (some_is (record book { pending = pending }) next e))
same_name book next (Pend command) is = sym (ap (λ (b : Book). b.name) (some_is (record book { pending = book.pending ++ command ∷ [] }) next is))

pub names_stay : (book next : Book) (delta : List Change) → apply book delta ≡ Some next → next.name ≡ book.name
names_stay book next [] is = sym (ap (λ (b : Book). b.name) (some_is book next is))
names_stay book next (change ∷ delta) is = by (applied book change) refl is (λ mid f. names_stay mid next delta f)
  where
    by : (o : Option Book) → applied book change ≡ o → option_and_then (λ (b : Book). apply b delta) o ≡ Some next → ((mid : Book) → apply mid delta ≡ Some next → next.name ≡ mid.name) → next.name ≡ book.name
    by None e f rest = absurd (none_not_some next f)
    by (Some mid) e f rest = rest mid f ∙ same_name book mid change e

pub amended_chosen : (format : Format) (book : Book) (delta : List Change) (next : Book) → Amended (change_cells format) (IsChange format) book delta next → book.name ≡ default_name → next.name ≡ default_name
amended_chosen format book delta next amended chosen = names_stay book next delta amended.applied ∙ chosen

-- ---- all amendments

module _ (cells : Change → Cells) (Fits : Change → Type 0) where
  pub amends_more : (first : Book) (deltas : List (List Change)) (book : Book) (delta : List Change) (next : Book) → Amends cells Fits first deltas book → Amended cells Fits book delta next → Amends cells Fits first (deltas ++ delta ∷ []) next
  amends_more first [] book delta next amends amended = (next, subst (λ (b : Book). Amended cells Fits b delta next) amends amended, refl)
  amends_more first (d ∷ deltas) book delta next amends amended = (amends.0, amends.1, amends_more amends.0 deltas book delta next amends.2 amended)

  all_more : (deltas : List (List Change)) (delta : List Change) (rest : List ℕ) → all_bytes cells deltas ++ (amendment_bytes cells delta ++ rest) ≡ all_bytes cells (deltas ++ delta ∷ []) ++ rest
  all_more deltas delta rest =
      sym (append_assoc (all_bytes cells deltas) (amendment_bytes cells delta) rest)
      ∙ ap (λ (l : List ℕ). (all_bytes cells deltas ++ l) ++ rest) (sym (append-nil (amendment_bytes cells delta)))
      ∙ ap (λ (l : List ℕ). l ++ rest) (sym (flat_map-append (amendment_bytes cells) deltas (delta ∷ [])))

  pub follow_more : (first : Book) (bytes : List ℕ) (deltas : List (List Change)) (book : Book) (left : List ℕ) (delta : List Change) (next : Book) (rest : List ℕ) → Follow cells Fits first bytes deltas book left → Amended cells Fits book delta next → left ≡ amendment_bytes cells delta ++ rest
      → Follow cells Fits first bytes (deltas ++ delta ∷ []) next rest
  follow_more first bytes deltas book left delta next rest follow amended is = record {
    amends = amends_more first deltas book delta next follow.amends amended;
    is = follow.is ∙ ap (λ (l : List ℕ). all_bytes cells deltas ++ l) is ∙ all_more deltas delta rest;
  }

  pub none_yet : (first : Book) (bytes : List ℕ) → Follow cells Fits first bytes [] first bytes
  none_yet first bytes = record { amends = refl; is = refl }

  size_of : (first : Book) (bytes : List ℕ) (deltas : List (List Change)) (book : Book) (left : List ℕ) → Follow cells Fits first bytes deltas book left → length bytes - length left ≡ length (all_bytes cells deltas)
  size_of first bytes deltas book left follow = omega (arith, ap length follow.is, length-append (all_bytes cells deltas) left)

  pub left_within : (first : Book) (bytes : List ℕ) (deltas : List (List Change)) (book : Book) (left : List ℕ) → Follow cells Fits first bytes deltas book left → length left ≤ length bytes
  left_within first bytes deltas book left follow = omega (arith, ap length follow.is, length-append (all_bytes cells deltas) left)

  pub less_left : (left : List ℕ) (delta : List Change) (rest : List ℕ) → left ≡ amendment_bytes cells delta ++ rest → length rest < length left
  less_left left delta rest is = omega (arith, ap length is, length-append (amendment_bytes cells delta) rest)

  pub read_whole : (first : Book) (bytes : List ℕ) (deltas : List (List Change)) (book : Book) (left : List ℕ) → Follow cells Fits first bytes deltas book left → is_at_end left ≡ true → ReadsOn cells Fits first bytes book (length bytes - length left)
  read_whole first bytes deltas book left follow ended = record { deltas = deltas; rest = left; follow = follow; ended = ended; size = size_of first bytes deltas book left follow }

  pub read_to : (first : Book) (bytes : List ℕ) (deltas : List (List Change)) (book : Book) (left : List ℕ) → Follow cells Fits first bytes deltas book left → is_at_end left ≡ false
      → ((delta : List Change) (next : Book) (after : List ℕ) → left ≡ amendment_bytes cells delta ++ after → ¬ (Amended cells Fits book delta next)) → StopsAt cells Fits first bytes (length bytes - length left)
  read_to first bytes deltas book left follow opened stuck = record { deltas = deltas; book = book; rest = left; follow = follow; opened = opened; size = size_of first bytes deltas book left follow; stuck = stuck }

-- ---- a slot

module _ (bytes : List ℕ) (n : ℕ) (front behind : List ℕ) (is_front : front ≡ take n bytes) (is_behind : behind ≡ drop n bytes) where
  pub front_damaged : (at : ℕ) → IsDamaged front at → SlotDamaged bytes n at
  front_damaged at damaged = inl (subst (λ (l : List ℕ). IsDamaged l at) is_front damaged)

  pub slot_leads : (format : Format) (first book : Book) (more : ℕ) → Spells format front first → ReadsOn (change_cells format) (IsChange format) first behind book more → SlotLeads bytes n book (told_length format more)
  slot_leads format first book more spells reads =
      (format, first, more, subst (λ (l : List ℕ). Spells format l first) is_front spells, subst (λ (l : List ℕ). ReadsOn (change_cells format) (IsChange format) first l book more) is_behind reads, refl)

  pub slot_stops : (format : Format) (first : Book) (more : ℕ) → Spells format front first → StopsAt (change_cells format) (IsChange format) first behind more → SlotDamaged bytes n (n + more)
  slot_stops format first more spells stops =
      inr (format, first, more, subst (λ (l : List ℕ). Spells format l first) is_front spells, subst (λ (l : List ℕ). StopsAt (change_cells format) (IsChange format) first l more) is_behind stops, refl)

-- ---- tests of what is left

pub some_left : (left : List ℕ) → false ≡ (length left == 0) → left ≡ [] → ⊥
some_left [] test is = (let t : false ≡ true = test in absurd cc)
some_left (b ∷ left) test is = omega (arith, ap length is)

pub none_left : (left : List ℕ) → true ≡ (length left == 0) → left ≡ []
none_left [] test = refl
none_left (b ∷ left) test = absurd (omega (arith, eqb-true (length (b ∷ left)) 0 (sym test)))
