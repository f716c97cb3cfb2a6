-- The bytes of a slot are read in one way only.
use Rattle.std.proofs.Common.{◌≡◌, ℕ, ◌+◌, ◌<◌, ◌≤◌, ◌^◌, ◌⊎◌, inl, inr, true, false, List, [], ◌∷◌, ◌++◌, length, take, drop, slice_index, Option, refl, sym, ap, ap₂, ◌∙◌, subst, append_assoc, arith, length-append}
use Rattle.std.specs.Prelude.{flat_map, Result, Ok, Err}
use Rattle.std.specs.List.{AllByRecursion}
use Rattle.std.proofs.lemmas.Bool.{le-ltb}
use Rattle.owned_lists.specs.declared.commands.Command.{Command}
use Rattle.ice_values.specs.Cells.{Cells, zeros}
use Rattle.ice_values.specs.Numbers.{card32}
use Rattle.ice_values.specs.Reading.{card_at}
use Rattle.ice_values.specs.Properties.{array8, IsArray8, array8_at}
use Rattle.ice_values.specs.declared.numbers.Endian.TheVariants.{Lsb}
use Rattle.ice_values.proofs.CellLaws.{length-zeros, zeros-append}
use Rattle.ice_values.proofs.FieldLaws.{card4}
use Rattle.ice_values.proofs.OptionLaws.{some_is}
use Rattle.ice_values.proofs.PropertyLaws.{array8_exact}
use Rattle.checkpoint_records.specs.Damage.{IsDamaged}
use Rattle.checkpoint_records.specs.Rules.{IsName}
use Rattle.checkpoint_records.specs.Spelling.{entry_cells}
use Rattle.checkpoint_records.specs.Parts.{HasEntrySpelling}
use Rattle.checkpoint_records.specs.declared.records.Book.{Book}
use Rattle.checkpoint_records.specs.declared.records.Entry.{Entry}
use Rattle.checkpoint_records.proofs.BookLaws.{one_book, stands_for_one}
use Rattle.checkpoint_records.proofs.OnceLaws.{command_once, entry_once}
use Rattle.checkpoint_records.proofs.OrderLaws.{AreOnce, exact_once}
use Rattle.checkpoint_records.proofs.SpellLaws.{command_fits, entry_fits}
use Rattle.checkpoint_changes.specs.Amendments.{told_length, Amended, Amends, Follow, ReadsOn, SlotDamaged, SlotLeads, SlotReads, StopsAt, all_bytes, amendment_bytes, delta_bytes, is_at_end}
use Rattle.checkpoint_records.specs.declared.head.Format.{Format}
use Rattle.checkpoint_records.specs.declared.head.Format.TheVariants.{Single, Several}
use Rattle.checkpoint_changes.specs.Changes.{IsChange, apply, change_cells, code_of, number_of, part_cells, put_cells}
use Rattle.checkpoint_changes.specs.declared.changes.Change.{Change}
use Rattle.checkpoint_changes.specs.declared.changes.Change.TheVariants.{Epoch, Pend, Put, Remove, Unpend}

-- ---- one change

abbrev IsNumber : ℕ → Type 0
IsNumber n = n < 2 ^ 32

pub number_once : AreOnce (card32 Lsb) IsNumber
number_once = exact_once (card32 Lsb) IsNumber (card_at Lsb 4) (card4 Lsb)

id_once : AreOnce (array8 Lsb) IsArray8
id_once = exact_once (array8 Lsb) IsArray8 (array8_at Lsb) (array8_exact Lsb)

pub code_fits : (format : Format) (change : Change) → IsNumber (code_of format change)
code_fits format (Epoch epoch) = omega arith
code_fits format (Remove id) = omega arith
code_fits Single (Put name entry) = omega arith
code_fits Several (Put name entry) = omega arith
code_fits format (Unpend place) = omega arith
code_fits format (Pend command) = omega arith

pub number_fits : (format : Format) (change : Change) → IsChange format change → IsNumber (number_of change)
number_fits format (Epoch epoch) fits = fits
number_fits format (Remove id) fits = omega arith
number_fits format (Put name entry) fits = omega arith
number_fits format (Unpend place) fits = fits
number_fits format (Pend command) fits = omega arith

short_name : (name : List ℕ) → IsName name → IsArray8 name
short_name name is = omega (arith, is.few)

named_once : (a b : List ℕ) (x y : Entry) (xs ys : List ℕ) → IsName a → IsName b → HasEntrySpelling x → HasEntrySpelling y → zeros (put_cells Several a x) ++ xs ≡ zeros (put_cells Several b y) ++ ys → (a ≡ b) × (x ≡ y) × (xs ≡ ys)
named_once a b x y xs ys name_a name_b fit_x fit_y is =
    let split : (n : List ℕ) (e : Entry) (l : List ℕ) → zeros (put_cells Several n e) ++ l ≡ zeros (array8 Lsb n) ++ (zeros (entry_cells e) ++ l) =
    λ n e l. ap (λ (k : List ℕ). k ++ l) (zeros-append (array8 Lsb n) (entry_cells e)) ∙ append_assoc (zeros (array8 Lsb n)) (zeros (entry_cells e)) l in
    let name = id_once a b (zeros (entry_cells x) ++ xs) (zeros (entry_cells y) ++ ys) (short_name a name_a) (short_name b name_b) (sym (split a x xs) ∙ is ∙ split b y ys) in
    let entry = entry_once x y xs ys fit_x fit_y name.1 in
    (name.0, entry.0, entry.1)

abbrev AreSamePart : Format → Change → Change → List ℕ → List ℕ → Type 0
AreSamePart format x y xs ys = IsChange format x → IsChange format y → code_of format x ≡ code_of format y → number_of x ≡ number_of y → zeros (part_cells format x) ++ xs ≡ zeros (part_cells format y) ++ ys → (x ≡ y) × (xs ≡ ys)

put_once : (format : Format) (a b : List ℕ) (x y : Entry) (xs ys : List ℕ) → AreSamePart format (Put a x) (Put b y) xs ys
put_once Single a b x y xs ys fit_x fit_y code number is =
    let e = entry_once x y xs ys (entry_fits 4294967295 x fit_x.1) (entry_fits 4294967295 y fit_y.1) is in
    (ap₂ (λ (n : List ℕ) (entry : Entry). Put n entry) (fit_x.0 ∙ sym fit_y.0) e.0, e.1)
put_once Several a b x y xs ys fit_x fit_y code number is =
    let e = named_once a b x y xs ys fit_x.0 fit_y.0 (entry_fits 4294967295 x fit_x.1) (entry_fits 4294967295 y fit_y.1) is in
    (ap₂ (λ (n : List ℕ) (entry : Entry). Put n entry) e.0 e.1, e.2)

part_once : (format : Format) (x y : Change) (xs ys : List ℕ) → AreSamePart format x y xs ys
part_once format (Epoch a) (Epoch b) xs ys fit_x fit_y code number is = (ap (λ (n : ℕ). Epoch n) number, is)
part_once format (Remove a) (Remove b) xs ys fit_x fit_y code number is = let e = id_once a b xs ys fit_x.0 fit_y.0 is in (ap (λ (id : List ℕ). Remove id) e.0, e.1)
part_once format (Put a x) (Put b y) xs ys fit_x fit_y code number is = put_once format a b x y xs ys fit_x fit_y code number is
part_once format (Unpend a) (Unpend b) xs ys fit_x fit_y code number is = (ap (λ (n : ℕ). Unpend n) number, is)
part_once format (Pend a) (Pend b) xs ys fit_x fit_y code number is = let e = command_once a b xs ys (command_fits a fit_x) (command_fits b fit_y) is in (ap (λ (command : Command). Pend command) e.0, e.1)
part_once Single x y xs ys fit_x fit_y code number is = absurd (omega (arith, code))
part_once Several x y xs ys fit_x fit_y code number is = absurd (omega (arith, code))

pub change_once : (format : Format) → AreOnce (change_cells format) (IsChange format)
change_once format x y xs ys fit_x fit_y is =
    let code = number_once (code_of format x) (code_of format y) (zeros (card32 Lsb (number_of x)) ++ (zeros (part_cells format x) ++ xs)) (zeros (card32 Lsb (number_of y)) ++ (zeros (part_cells format y) ++ ys)) (code_fits format x) (code_fits format y) is in
    let number = number_once (number_of x) (number_of y) (zeros (part_cells format x) ++ xs) (zeros (part_cells format y) ++ ys) (number_fits format x fit_x) (number_fits format y fit_y) code.1 in
    part_once format x y xs ys fit_x fit_y code.0 number.0 number.1

pub change_long : (format : Format) (change : Change) → 1 ≤ length (change_cells format change)
change_long format change = omega (arith, length-append (card32 Lsb (code_of format change) ++ card32 Lsb (number_of change)) (part_cells format change))

-- ---- fronts

pub same_front : (a b xs ys : List ℕ) → length a ≡ length b → a ++ xs ≡ b ++ ys → (a ≡ b) × (xs ≡ ys)
same_front [] [] xs ys len is = (refl, is)
same_front [] (y ∷ b) xs ys len is = absurd (omega (arith, len))
same_front (x ∷ a) [] xs ys len is = absurd (omega (arith, len))
same_front (x ∷ a) (y ∷ b) xs ys len is =
    let first : x ≡ y = ap (λ (l : List ℕ). slice_index l 0) is in
    let h = same_front a b xs ys (omega (arith, len)) (ap (drop 1) is) in
    (ap₂ (λ (z : ℕ) (l : List ℕ). z ∷ l) first h.0, h.1)

-- the amendments end here, or none of this book stands here
abbrev pub IsLast : (Change → Cells) → (Change → Type 0) → Book → List ℕ → Type 0
IsLast cells Fits book rest = (is_at_end rest ≡ true) ⊎ ((delta : List Change) (next : Book) (after : List ℕ) → rest ≡ amendment_bytes cells delta ++ after → ¬ (Amended cells Fits book delta next))

module _ (cells : Change → Cells) (Fits : Change → Type 0) (once : AreOnce cells Fits) (long : (change : Change) → 1 ≤ length (cells change)) where
  -- ---- one amendment

  pub delta_once : (d e : List Change) → AllByRecursion Fits d → AllByRecursion Fits e → delta_bytes cells d ≡ delta_bytes cells e → d ≡ e
  delta_once [] [] fit_d fit_e is = refl
  delta_once [] (y ∷ e) fit_d fit_e is = absurd (omega (arith, ap length is, length-zeros (cells y ++ flat_map cells e), length-append (cells y) (flat_map cells e), long y))
  delta_once (x ∷ d) [] fit_d fit_e is = absurd (omega (arith, ap length is, length-zeros (cells x ++ flat_map cells d), length-append (cells x) (flat_map cells d), long x))
  delta_once (x ∷ d) (y ∷ e) fit_d fit_e is =
      let h = once x y (delta_bytes cells d) (delta_bytes cells e) fit_d.0 fit_e.0 (sym (zeros-append (cells x) (flat_map cells d)) ∙ is ∙ zeros-append (cells y) (flat_map cells e)) in
      ap₂ (λ (z : Change) (l : List Change). z ∷ l) h.0 (delta_once d e fit_d.1 fit_e.1 h.1)

  amendment_once : (book : Book) (d e : List Change) (next other : Book) (xs ys : List ℕ) → Amended cells Fits book d next → Amended cells Fits book e other → amendment_bytes cells d ++ xs ≡ amendment_bytes cells e ++ ys
      → (d ≡ e) × (next ≡ other) × (xs ≡ ys)
  amendment_once book d e next other xs ys fit_d fit_e is =
      let size = number_once (length (delta_bytes cells d)) (length (delta_bytes cells e)) (delta_bytes cells d ++ xs) (delta_bytes cells e ++ ys) fit_d.size fit_e.size (ap (drop 4) is) in
      let front = same_front (delta_bytes cells d) (delta_bytes cells e) xs ys size.0 size.1 in
      let same = delta_once d e fit_d.changes fit_e.changes front.0 in
      (same, some_is next other (sym fit_d.applied ∙ ap (apply book) same ∙ fit_e.applied), front.1)

  pub not_at_end : (delta : List Change) (after : List ℕ) → is_at_end (amendment_bytes cells delta ++ after) ≡ false
  not_at_end delta after =
      let bytes : List ℕ = amendment_bytes cells delta ++ after in
      rw (le-ltb (length bytes) 8 (omega arith)) refl

  -- ---- all of them

  abbrev all-cons : (delta : List Change) (deltas : List (List Change)) (rest : List ℕ) → all_bytes cells (delta ∷ deltas) ++ rest ≡ amendment_bytes cells delta ++ (all_bytes cells deltas ++ rest)
  all-cons delta deltas rest = append_assoc (amendment_bytes cells delta) (all_bytes cells deltas) rest

  goes_on : (book : Book) (delta : List Change) (next : Book) (rest after : List ℕ) → IsLast cells Fits book rest → Amended cells Fits book delta next → rest ≡ amendment_bytes cells delta ++ after → ⊥
  goes_on book delta next rest after (inl ended) amended is = (let t : true ≡ false = sym ended ∙ ap is_at_end is ∙ not_at_end delta after in absurd cc)
  goes_on book delta next rest after (inr stuck) amended is = stuck delta next after is amended

  pub follow_once : (first : Book) (bytes : List ℕ) (deltas others : List (List Change)) (book last : Book) (rest left : List ℕ) → Follow cells Fits first bytes deltas book rest → Follow cells Fits first bytes others last left → IsLast cells Fits book rest → IsLast cells Fits last left
      → (deltas ≡ others) × (book ≡ last) × (rest ≡ left)
  follow_once first bytes [] [] book last rest left a b end_a end_b = (refl, a.amends ∙ sym b.amends, sym a.is ∙ b.is)
  follow_once first bytes [] (e ∷ others) book last rest left a b end_a end_b =
      absurd (goes_on first e b.amends.0 rest (all_bytes cells others ++ left) (subst (λ (x : Book). IsLast cells Fits x rest) a.amends end_a) b.amends.1 (sym a.is ∙ b.is ∙ all-cons e others left))
  follow_once first bytes (d ∷ deltas) [] book last rest left a b end_a end_b =
      absurd (goes_on first d a.amends.0 left (all_bytes cells deltas ++ rest) (subst (λ (x : Book). IsLast cells Fits x left) b.amends end_b) a.amends.1 (sym b.is ∙ a.is ∙ all-cons d deltas rest))
  follow_once first bytes (d ∷ deltas) (e ∷ others) book last rest left a b end_a end_b =
      let h = amendment_once first d e a.amends.0 b.amends.0 (all_bytes cells deltas ++ rest) (all_bytes cells others ++ left) a.amends.1 b.amends.1 (sym (all-cons d deltas rest) ∙ sym a.is ∙ b.is ∙ all-cons e others left) in
      let more = follow_once b.amends.0 (all_bytes cells deltas ++ rest) deltas others book last rest left
      (record { amends = subst (λ (x : Book). Amends cells Fits x deltas book) h.1 a.amends.2; is = refl })
      (record { amends = b.amends.2; is = h.2 }) end_a end_b in
      (ap₂ (λ (x : List Change) (l : List (List Change)). x ∷ l) h.0 more.0, more.1, more.2)

  -- ---- what is read on

  same_more : (deltas others : List (List Change)) (more less : ℕ) → deltas ≡ others → more ≡ length (all_bytes cells deltas) → less ≡ length (all_bytes cells others) → more ≡ less
  same_more deltas others more less same is_more is_less = is_more ∙ ap (λ (l : List (List Change)). length (all_bytes cells l)) same ∙ sym is_less

  pub reads_once : (first : Book) (bytes : List ℕ) (book last : Book) (more less : ℕ) → ReadsOn cells Fits first bytes book more → ReadsOn cells Fits first bytes last less → (book ≡ last) × (more ≡ less)
  reads_once first bytes book last more less a b =
      let h = follow_once first bytes a.deltas b.deltas book last a.rest b.rest a.follow b.follow (inl a.ended) (inl b.ended) in
      (h.1, same_more a.deltas b.deltas more less h.0 a.size b.size)

  pub stops_once : (first : Book) (bytes : List ℕ) (more less : ℕ) → StopsAt cells Fits first bytes more → StopsAt cells Fits first bytes less → more ≡ less
  stops_once first bytes more less a b =
      let h = follow_once first bytes a.deltas b.deltas a.book b.book a.rest b.rest a.follow b.follow (inr a.stuck) (inr b.stuck) in
      same_more a.deltas b.deltas more less h.0 a.size b.size

  pub reads_or_stops : (first : Book) (bytes : List ℕ) (book : Book) (more less : ℕ) → ReadsOn cells Fits first bytes book more → StopsAt cells Fits first bytes less → ⊥
  reads_or_stops first bytes book more less a b =
      let h = follow_once first bytes a.deltas b.deltas book b.book a.rest b.rest a.follow b.follow (inl a.ended) (inr b.stuck) in
      let t : true ≡ false = sym a.ended ∙ ap is_at_end h.2 ∙ b.opened in
      absurd cc

-- ---- a slot

same_place : (bytes : List ℕ) (m n : ℕ) → IsDamaged bytes m → IsDamaged bytes n → m ≡ n
same_place bytes m n a b = (let e : ◌≡◌ {A = Result Book ℕ} (Err m) (Err n) = stands_for_one bytes (Err m) (Err n) a b in cc)

told_alike : (f g : Format) (m n : ℕ) → f ≡ g → m ≡ n → told_length f m ≡ told_length g n
told_alike f g m n same more = rw (same, more) refl

leads_once : (bytes : List ℕ) (n : ℕ) (x y : Book) (a b : Option ℕ) → SlotLeads bytes n x a → SlotLeads bytes n y b → (x ≡ y) × (a ≡ b)
leads_once bytes n x y a b p q =
    let f = p.0 in
    let one = one_book (take n bytes) p.0 q.0 p.1 q.1 p.3 q.3 in
    let other : ReadsOn (change_cells f) (IsChange f) p.1 (drop n bytes) y q.2 = rw (one.0, one.1) q.4 in
    let e = reads_once (change_cells f) (IsChange f) (change_once f) (change_long f) p.1 (drop n bytes) x y p.2 q.2 p.4 other in
    (e.0, p.5 ∙ told_alike p.0 q.0 p.2 q.2 one.0 e.1 ∙ sym q.5)

leads_or_damaged : (bytes : List ℕ) (n : ℕ) (x : Book) (a : Option ℕ) (at : ℕ) → SlotLeads bytes n x a → SlotDamaged bytes n at → ⊥
leads_or_damaged bytes n x a at p (inl q) = q.no_book p.0 p.1 p.3
leads_or_damaged bytes n x a at p (inr q) =
    let f = p.0 in
    let one = one_book (take n bytes) p.0 q.0 p.1 q.1 p.3 q.3 in
    let other : StopsAt (change_cells f) (IsChange f) p.1 (drop n bytes) q.2 = rw (one.0, one.1) q.4 in
    reads_or_stops (change_cells f) (IsChange f) (change_once f) (change_long f) p.1 (drop n bytes) x p.2 q.2 p.4 other

damaged_once : (bytes : List ℕ) (n at other : ℕ) → SlotDamaged bytes n at → SlotDamaged bytes n other → at ≡ other
damaged_once bytes n at other (inl p) (inl q) = same_place (take n bytes) at other p q
damaged_once bytes n at other (inl p) (inr q) = absurd (p.no_book q.0 q.1 q.3)
damaged_once bytes n at other (inr p) (inl q) = absurd (q.no_book p.0 p.1 p.3)
damaged_once bytes n at other (inr p) (inr q) =
    let f = p.0 in
    let one = one_book (take n bytes) p.0 q.0 p.1 q.1 p.3 q.3 in
    let others : StopsAt (change_cells f) (IsChange f) p.1 (drop n bytes) q.2 = rw (one.0, one.1) q.4 in
    let e = stops_once (change_cells f) (IsChange f) (change_once f) (change_long f) p.1 (drop n bytes) p.2 q.2 p.4 others in
    p.5 ∙ ap (λ (k : ℕ). n + k) e ∙ sym q.5

abbrev Answer : Type 0
Answer = Result (Book × Option ℕ) ℕ

pub slot_reads_once : (bytes : List ℕ) (n : ℕ) (first second : Answer) → SlotReads bytes n first → SlotReads bytes n second → first ≡ second
slot_reads_once bytes n (Ok x) (Ok y) p q = (let e = leads_once bytes n x.0 y.0 x.1 y.1 p q in ap₂ (λ (b : Book) (o : Option ℕ). Ok (b, o)) e.0 e.1)
slot_reads_once bytes n (Ok x) (Err at) p q = absurd (leads_or_damaged bytes n x.0 x.1 at p q)
slot_reads_once bytes n (Err at) (Ok y) p q = absurd (leads_or_damaged bytes n y.0 y.1 at q p)
slot_reads_once bytes n (Err at) (Err other) p q = ap (λ (k : ℕ). Err k) (damaged_once bytes n at other p q)
