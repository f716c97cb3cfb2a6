-- Each part of a book has one spelling.
use Rattle.std.proofs.Common.{◌≡◌, ℕ, ◌^◌, ◌<◌, ◌≤◌, List, ◌∷◌, ◌++◌, drop, refl, sym, ap, ap₂, ◌∙◌, append_assoc, arith}
use Rattle.owned_lists.specs.declared.commands.Command.{Command}
use Rattle.ice_values.specs.Cells.{zeros, free}
use Rattle.ice_values.specs.Numbers.{card32}
use Rattle.ice_values.specs.Reading.{pair_at, card_at}
use Rattle.ice_values.specs.Properties.{array8, IsArray8, array8_at, array8_list, IsListed, array8_list_at, property_list, IsProperty, property_list_at}
use Rattle.ice_values.specs.declared.numbers.Endian.TheVariants.{Lsb}
use Rattle.ice_values.specs.declared.property.Property.{Property}
use Rattle.ice_values.proofs.CellLaws.{zeros-append}
use Rattle.ice_values.proofs.FieldLaws.{pair, card4}
use Rattle.ice_values.proofs.PropertyLaws.{array8_exact, array8_list_exact, property_list_exact}
use Rattle.xsmp_properties.specs.Readers.{in_pairs}
use Rattle.checkpoint_records.specs.Parts.{IsHead, IsSessionHead, HasEntrySpelling, HasCommandSpelling, count_limit}
use Rattle.checkpoint_records.specs.Rules.{in_turn, command_cells}
use Rattle.checkpoint_records.specs.Spelling.{entry_cells, format_number, head_cells, session_head_cells}
use Rattle.checkpoint_records.specs.declared.head.Format.{Format}
use Rattle.checkpoint_records.specs.declared.head.Format.TheVariants.{Single, Several}
use Rattle.checkpoint_records.specs.declared.head.Head.{Head}
use Rattle.checkpoint_records.specs.declared.session_heads.SessionHead.{SessionHead}
use Rattle.checkpoint_records.specs.declared.records.Entry.{Entry}
use Rattle.checkpoint_records.proofs.OrderLaws.{AreOnce, exact_once}
use Rattle.checkpoint_records.proofs.PendingLaws.{pairs-again}

-- ---- heads

abbrev pub head_bytes : Head → List ℕ
head_bytes head = zeros (head_cells head)

abbrev IsNumber : ℕ → Type 0
IsNumber n = n < 2 ^ 32

abbrev Numbers : Type 0
Numbers = ((ℕ × ℕ) × ℕ) × ℕ

numbers_once : AreOnce {A = Numbers} (λ x. card32 Lsb x.0.0.0 ++ card32 Lsb x.0.0.1 ++ card32 Lsb x.0.1 ++ card32 Lsb x.1) (λ x. ((IsNumber x.0.0.0 × IsNumber x.0.0.1) × IsNumber x.0.1) × IsNumber x.1)
numbers_once =
    let two = pair (card32 Lsb) IsNumber (card_at Lsb 4) (card32 Lsb) IsNumber (card_at Lsb 4) (card4 Lsb) (card4 Lsb) in
    let three = pair (λ (x : ℕ × ℕ). card32 Lsb x.0 ++ card32 Lsb x.1) (λ x. IsNumber x.0 × IsNumber x.1) (pair_at (card_at Lsb 4) (card_at Lsb 4)) (card32 Lsb) IsNumber (card_at Lsb 4) two (card4 Lsb) in
    let four = pair (λ (x : (ℕ × ℕ) × ℕ). card32 Lsb x.0.0 ++ card32 Lsb x.0.1 ++ card32 Lsb x.1) (λ x. (IsNumber x.0.0 × IsNumber x.0.1) × IsNumber x.1) (pair_at (pair_at (card_at Lsb 4) (card_at Lsb 4)) (card_at Lsb 4)) (card32 Lsb) IsNumber (card_at Lsb 4) three (card4 Lsb) in
    exact_once (λ (x : Numbers). card32 Lsb x.0.0.0 ++ card32 Lsb x.0.0.1 ++ card32 Lsb x.0.1 ++ card32 Lsb x.1) (λ x. ((IsNumber x.0.0.0 × IsNumber x.0.0.1) × IsNumber x.0.1) × IsNumber x.1)
    (pair_at (pair_at (pair_at (card_at Lsb 4) (card_at Lsb 4)) (card_at Lsb 4)) (card_at Lsb 4)) four

numbers_of : Head → Numbers
numbers_of head = (((format_number head.format, head.epoch), head.count), head.pending)

pub few_formats : (f : Format) → format_number f < 2 ^ 32
few_formats Single = omega arith
few_formats Several = omega arith

pub few_counted : (f : Format) (n : ℕ) → n ≤ count_limit f → n < 2 ^ 32
few_counted Single n le = omega (arith, le)
few_counted Several n le = omega (arith, le)

pub one_format : (f g : Format) → format_number f ≡ format_number g → f ≡ g
one_format Single Single e = refl
one_format Single Several e = absurd (omega (arith, e))
one_format Several Single e = absurd (omega (arith, e))
one_format Several Several e = refl

same_numbers : (f g : Format) (a b c d u v : ℕ) → f ≡ g → a ≡ b → c ≡ d → u ≡ v → ◌≡◌ {A = Head} (record { format = f; epoch = a; count = c; pending = u }) (record { format = g; epoch = b; count = d; pending = v })
same_numbers f g a b c d u v is_format is_epoch is_count is_pending = rw (is_format, is_epoch, is_count, is_pending) refl

pub head_once : (x y : Head) (xs ys : List ℕ) → IsHead x → IsHead y → head_bytes x ++ xs ≡ head_bytes y ++ ys → (x ≡ y) × (xs ≡ ys)
unfolding numbers_of
head_once x y xs ys fit_x fit_y is =
    let numbers : (h : Head) → IsHead h → ((IsNumber (format_number h.format) × IsNumber h.epoch) × IsNumber h.count) × IsNumber h.pending =
    λ h fit. (((few_formats h.format, fit.epoch), few_counted h.format h.count fit.count), omega (arith, fit.pending)) in
    let e = numbers_once (numbers_of x) (numbers_of y) xs ys (numbers x fit_x) (numbers y fit_y) is in
    let format = one_format x.format y.format (ap (λ (n : Numbers). n.0.0.0) e.0) in
    (same_numbers x.format y.format x.epoch y.epoch x.count y.count x.pending y.pending format (ap (λ (n : Numbers). n.0.0.1) e.0) (ap (λ (n : Numbers). n.0.1) e.0) (ap (λ (n : Numbers). n.1) e.0), e.1)

-- ---- the heads of sessions

abbrev pub session_head_bytes : SessionHead → List ℕ
session_head_bytes head = zeros (session_head_cells head)

-- a name, a count, and four zeros
pub session_head_is : (head : SessionHead) (rest : List ℕ) → session_head_bytes head ++ rest ≡ zeros (array8 Lsb head.name) ++ (zeros (card32 Lsb head.count) ++ (0 ∷ 0 ∷ 0 ∷ 0 ∷ rest))
session_head_is head rest =
    ap (λ (l : List ℕ). l ++ rest) (zeros-append (array8 Lsb head.name ++ card32 Lsb head.count) (free 4) ∙ ap (λ (l : List ℕ). l ++ zeros (free 4)) (zeros-append (array8 Lsb head.name) (card32 Lsb head.count)))
    ∙ append_assoc (zeros (array8 Lsb head.name) ++ zeros (card32 Lsb head.count)) (zeros (free 4)) rest
    ∙ append_assoc (zeros (array8 Lsb head.name)) (zeros (card32 Lsb head.count)) (zeros (free 4) ++ rest)

pub name_fits : (head : SessionHead) → IsSessionHead head → IsArray8 head.name
name_fits head is = omega (arith, is.called.few)

session_head_of : List ℕ → ℕ → SessionHead
session_head_of name count = record { name = name; count = count }

pub session_head_once : AreOnce session_head_cells IsSessionHead
unfolding session_head_of
session_head_once x y xs ys fit_x fit_y is =
    let whole = sym (session_head_is x xs) ∙ is ∙ session_head_is y ys in
    let name = exact_once (array8 Lsb) IsArray8 (array8_at Lsb) (array8_exact Lsb) x.name y.name (zeros (card32 Lsb x.count) ++ (0 ∷ 0 ∷ 0 ∷ 0 ∷ xs)) (zeros (card32 Lsb y.count) ++ (0 ∷ 0 ∷ 0 ∷ 0 ∷ ys)) (name_fits x fit_x) (name_fits y fit_y) whole in
    let count = exact_once (card32 Lsb) IsNumber (card_at Lsb 4) (card4 Lsb) x.count y.count (0 ∷ 0 ∷ 0 ∷ 0 ∷ xs) (0 ∷ 0 ∷ 0 ∷ 0 ∷ ys) (omega (arith, fit_x.few)) (omega (arith, fit_y.few)) name.1 in
    (ap₂ (λ (n : List ℕ) (c : ℕ). session_head_of n c) name.0 count.0, ap (λ (l : List ℕ). drop 4 l) count.1)

-- ---- entries

entry_of : List ℕ × List Property → Entry
entry_of x = record { id = x.0; table = x.1 }

pub entry_once : AreOnce entry_cells HasEntrySpelling
unfolding entry_of
entry_once x y xs ys fit_x fit_y is =
    let exact = pair (array8 Lsb) IsArray8 (array8_at Lsb) (property_list Lsb) (IsListed IsProperty) (property_list_at Lsb) (array8_exact Lsb) (property_list_exact Lsb) in
    let e = exact_once (λ (p : List ℕ × List Property). array8 Lsb p.0 ++ property_list Lsb p.1) (λ p. IsArray8 p.0 × IsListed IsProperty p.1) (pair_at (array8_at Lsb) (property_list_at Lsb)) exact (x.id, x.table) (y.id, y.table) xs ys (fit_x.id, fit_x.table) (fit_y.id, fit_y.table) is in
    (ap entry_of e.0, e.1)

-- ---- commands

abbrev Fields : Type 0
Fields = (List (List ℕ) × List ℕ) × List (List ℕ)

command_of_fields : Fields → Command
command_of_fields f = record { words = f.0.0; directory = f.0.1; environment = in_pairs f.1 }

pub command_once : AreOnce (command_cells Lsb) HasCommandSpelling
unfolding command_of_fields
command_once x y xs ys fit_x fit_y is =
    let front = pair (array8_list Lsb) (IsListed IsArray8) (array8_list_at Lsb) (array8 Lsb) IsArray8 (array8_at Lsb) (array8_list_exact Lsb) (array8_exact Lsb) in
    let exact = pair (λ (p : List (List ℕ) × List ℕ). array8_list Lsb p.0 ++ array8 Lsb p.1) (λ p. IsListed IsArray8 p.0 × IsArray8 p.1) (pair_at (array8_list_at Lsb) (array8_at Lsb)) (array8_list Lsb) (IsListed IsArray8) (array8_list_at Lsb) front (array8_list_exact Lsb) in
    let e = exact_once (λ (p : Fields). array8_list Lsb p.0.0 ++ array8 Lsb p.0.1 ++ array8_list Lsb p.1) (λ p. (IsListed IsArray8 p.0.0 × IsArray8 p.0.1) × IsListed IsArray8 p.1)
    (pair_at (pair_at (array8_list_at Lsb) (array8_at Lsb)) (array8_list_at Lsb)) exact ((x.words, x.directory), in_turn x.environment) ((y.words, y.directory), in_turn y.environment) xs ys
    ((fit_x.words, fit_x.directory), fit_x.environment) ((fit_y.words, fit_y.directory), fit_y.environment) is in
    let whole : (c : Command) → command_of_fields ((c.words, c.directory), in_turn c.environment) ≡ c = λ c. ap (λ (pairs : List (List ℕ × List ℕ)). record c { environment = pairs }) (pairs-again c.environment) in
    (sym (whole x) ∙ ap command_of_fields e.0 ∙ whole y, e.1)
