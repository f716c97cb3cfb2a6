-- A text names one display at most.
use Rattle.std.proofs.Common.{◌≡◌, ◌⊎◌, inl, inr, ℕ, ◌<◌, Bool, true, false, ◌||◌, List, [], ◌∷◌, ◌++◌, Option, Some, None, Result, Ok, Err, IfOk, IfErr, refl, sym, ◌∙◌, ap, subst, arith, codes, if◌then◌else◌}
use Rattle.std.specs.Fmt.{decimal}
use Rattle.std.specs.Str.{bytes_eq}
use Rattle.std.specs.Str.Parse.{AllDigits}
use Rattle.std.proofs.lemmas.Fmt.{decimal_injective, decimal_is_IsNumeral}
use Rattle.std.proofs.lemmas.Str.Parse.{digit_from_value}
use Rattle.std.proofs.lemmas.Bool.{false≢true}
use Rattle.ice_values.proofs.OptionLaws.{some_is, none_not_some}
use Rattle.control_lines.specs.Parts.{IsWithout, SplitsOnce}
use Rattle.control_lines.proofs.Splitting.{splits_same}
use Rattle.display_place.specs.Parting.{SplitsLast}
use Rattle.display_place.specs.Places.{SaysPlace, is_own, is_network, place_by, host_place}
use Rattle.display_place.specs.Names.{is_path, IsName, SaysNumbers, Names}
use Rattle.display_place.specs.Refusals.{HasBadNumber, HasBadScreen, IsFrontRefused, IsTailRefused, IsPartRefused, IsRefused, Gives}
use Rattle.display_place.specs.Laws.{NamesOne}
use Rattle.display_place.specs.declared.places.Place.{Place}
use Rattle.display_place.specs.declared.places.Place.TheVariants.{Local}
use Rattle.display_place.specs.declared.places.DisplayName.{DisplayName}
use Rattle.display_place.specs.declared.refusals.DisplayRefusal.{DisplayRefusal}
use Rattle.display_place.specs.declared.refusals.DisplayRefusal.TheVariants.{NoNumber, BadProtocol, BadHost, BadNumber, BadScreen, NoMemory}
use Rattle.display_place.proofs.LastParts.{last_same, not_parted}

-- ---- numbers

-- digits have no byte that comes before them
digits_without : (byte : ℕ) (ds : List ℕ) → byte < 48 → AllDigits 10 ds → IsWithout byte ds
digits_without byte [] before all = tt
digits_without byte (c ∷ ds) before all = ((λ e. omega (arith, before, digit_from_value c all.0)), digits_without byte ds before all.1)

dotless : (n : ℕ) → n < 65536 → IsWithout 46 (decimal n)
dotless n small = digits_without 46 (decimal n) (omega arith) (decimal_is_IsNumeral n (omega arith)).0.1

-- a number has no dot
no_dot : (n : ℕ) (front back : List ℕ) → n < 65536 → decimal n ≡ front ++ (46 ∷ back) → ⊥
no_dot n front back small parts = not_parted 46 (decimal n) front back (dotless n small) parts

same_number : (n m : ℕ) → n < 65536 → m < 65536 → decimal n ≡ decimal m → n ≡ m
same_number n m small few e = decimal_injective n m (omega (arith, small)) (omega (arith, few)) e

-- the parts around the dot
parts_same : (n m : ℕ) (back back' : List ℕ) → n < 65536 → m < 65536 → decimal n ++ (46 ∷ back) ≡ decimal m ++ (46 ∷ back') → (decimal n ≡ decimal m) × (back ≡ back')
parts_same n m back back' small few e = splits_same 46 (decimal n) back (decimal m) back' (dotless n small) (dotless m few) e

abbrev pub TextOf : List ℕ → ℕ → ℕ → Type 0
TextOf tail n s = ((tail ≡ decimal n) × (s ≡ 0)) ⊎ (tail ≡ decimal n ++ (46 ∷ decimal s))

texts_one : (tail : List ℕ) (n s n' s' : ℕ) → n < 65536 → s < 65536 → n' < 65536 → s' < 65536 → TextOf tail n s → TextOf tail n' s' → (n ≡ n') × (s ≡ s')
texts_one tail n s n' s' a b a' b' (inl one) (inl other) = (same_number n n' a a' (sym one.0 ∙ other.0), one.1 ∙ sym other.1)
texts_one tail n s n' s' a b a' b' (inl one) (inr other) = absurd (no_dot n (decimal n') (decimal s') a (sym one.0 ∙ other))
texts_one tail n s n' s' a b a' b' (inr one) (inl other) = absurd (no_dot n' (decimal n) (decimal s) a' (sym other.0 ∙ one))
texts_one tail n s n' s' a b a' b' (inr one) (inr other) =
    let same = parts_same n n' (decimal s) (decimal s') a a' (sym one ∙ other) in
    (same_number n n' a a' same.0, same_number s s' b b' same.1)

numbers_one : (tail : List ℕ) (n s n' s' : ℕ) → SaysNumbers tail n s → SaysNumbers tail n' s' → (n ≡ n') × (s ≡ s')
numbers_one tail n s n' s' one other = texts_one tail n s n' s' (omega (arith, one.has_port)) (omega (arith, one.is_screen)) (omega (arith, other.has_port)) (omega (arith, other.is_screen)) one.text other.text

-- ---- places

places_one : (front : List ℕ) (n : ℕ) (place other : Place) → SaysPlace front n place → SaysPlace front n other → place ≡ other
places_one front n place other (inl a) (inl b) = a.is ∙ sym b.is
places_one front n place other (inl a) (inr b) = absurd (not_parted 47 front b.protocol b.host a.whole b.split.parts)
places_one front n place other (inr a) (inl b) = absurd (not_parted 47 front a.protocol a.host b.whole a.split.parts)
places_one front n place other (inr a) (inr b) =
    let same = last_same 47 front a.protocol a.host b.protocol b.host a.split b.split in
    some_is place other (sym a.is ∙ (ap (λ (p : List ℕ). place_by p a.host n) same.0 ∙ (ap (λ (h : List ℕ). place_by b.protocol h n) same.1 ∙ b.is)))

-- ---- names

named : Place → ℕ → ℕ → DisplayName
named place number screen = record { place = place; number = number; screen = screen }

same_display : (a b : DisplayName) → a.place ≡ b.place → a.number ≡ b.number → a.screen ≡ b.screen → a ≡ b
unfolding named
same_display a b p n s = ap (λ (x : Place). named x a.number a.screen) p ∙ (ap (λ (x : ℕ). named b.place x a.screen) n ∙ ap (λ (x : ℕ). named b.place b.number x) s)

names_one : (text : List ℕ) (display other : DisplayName) → IsName text display → IsName text other → display ≡ other
names_one text display other a b =
    let same = last_same 58 text a.front a.tail b.front b.tail a.split b.split in
    let numbers = numbers_one b.tail display.number display.screen other.number other.screen (subst (λ (t : List ℕ). SaysNumbers t display.number display.screen) same.1 a.numbers) b.numbers in
    let place = subst (λ (n : ℕ). SaysPlace b.front n display.place) numbers.0 (subst (λ (f : List ℕ). SaysPlace f display.number display.place) same.0 a.place) in
    same_display display other (places_one b.front other.number display.place other.place place b.place) numbers.0 numbers.1

pub text_names_one : (text : List ℕ) (display other : DisplayName) → Names text display → Names text other → display ≡ other
text_names_one text display other (inl a) (inl b) = same_display display other (a.place ∙ sym b.place) (a.number ∙ sym b.number) (a.screen ∙ sym b.screen)
text_names_one text display other (inl a) (inr b) = absurd (false≢true (sym b.no_path ∙ a.begins))
text_names_one text display other (inr a) (inl b) = absurd (false≢true (sym a.no_path ∙ b.begins))
text_names_one text display other (inr a) (inr b) = names_one text display other a b

-- ---- refusals

unknown_by : (u w : Bool) (x y : Option Place) → (u || w) ≡ false → (if u then x else (if w then y else None)) ≡ None
unknown_by true w x y none = absurd (false≢true (sym none))
unknown_by false true x y none = absurd (false≢true (sym none))
unknown_by false false x y none = refl

own_by : (u w o : Bool) (x y z : Option Place) → u ≡ false → w ≡ true → o ≡ true → (if u then x else (if w then (if o then None else y) else z)) ≡ None
own_by u w o x y z not_unix network own = rw (not_unix, network, own) refl

-- a front whose protocol and host have no place says none
no_place_by : (front protocol host : List ℕ) (n : ℕ) (place : Place) → SplitsLast 47 front protocol host → place_by protocol host n ≡ None → SaysPlace front n place → ⊥
no_place_by front protocol host n place split none (inl a) = not_parted 47 front protocol host a.whole split.parts
no_place_by front protocol host n place split none (inr a) =
    let same = last_same 47 front protocol host a.protocol a.host split a.split in
    none_not_some place (sym none ∙ (ap (λ (p : List ℕ). place_by p host n) same.0 ∙ (ap (λ (h : List ℕ). place_by a.protocol h n) same.1 ∙ a.is)))

front_refused : (front : List ℕ) (refusal : DisplayRefusal) (n : ℕ) (place : Place) → IsFrontRefused front refusal → SaysPlace front n place → refusal ≡ NoMemory
front_refused front NoNumber n place refused says = absurd refused
front_refused front BadProtocol n place refused says =
    absurd (no_place_by front refused.protocol refused.host n place refused.split (unknown_by (bytes_eq refused.protocol (codes "unix")) (is_network refused.protocol) (Some Local) (if is_own refused.host then None else Some (host_place refused.host n)) refused.unknown) says)
front_refused front BadHost n place refused says =
    absurd (no_place_by front refused.protocol refused.host n place refused.split (own_by (bytes_eq refused.protocol (codes "unix")) (is_network refused.protocol) (is_own refused.host) (Some Local) (Some (host_place refused.host n)) None refused.local refused.network refused.own) says)
front_refused front BadNumber n place refused says = absurd refused
front_refused front BadScreen n place refused says = absurd refused
front_refused front NoMemory n place refused says = refl

-- the parts around the first dot are the numbers
parts_are : (tail digits screen : List ℕ) (n s : ℕ) → n < 65536 → SplitsOnce 46 tail digits screen → TextOf tail n s → (digits ≡ decimal n) × (screen ≡ decimal s)
parts_are tail digits screen n s small split (inl alone) = absurd (no_dot n digits screen small (sym alone.0 ∙ split.parts))
parts_are tail digits screen n s small split (inr both) = splits_same 46 digits screen (decimal n) (decimal s) split.first (dotless n small) (sym split.parts ∙ both)

alone_is : (tail : List ℕ) (n s : ℕ) → IsWithout 46 tail → TextOf tail n s → tail ≡ decimal n
alone_is tail n s without (inl alone) = alone.0
alone_is tail n s without (inr both) = absurd (not_parted 46 tail (decimal n) (decimal s) without both)

number_refused : (tail : List ℕ) (n s : ℕ) → HasBadNumber tail → SaysNumbers tail n s → ⊥
number_refused tail n s (inl bad) says = bad.1 n says.has_port (alone_is tail n s bad.0 says.text)
number_refused tail n s (inr (digits, screen, split, none)) says = none n says.has_port (parts_are tail digits screen n s (omega (arith, says.has_port)) split says.text).0

screen_refused : (tail : List ℕ) (n s : ℕ) → HasBadScreen tail → SaysNumbers tail n s → ⊥
screen_refused tail n s (digits, screen, split, none) says = none s says.is_screen (parts_are tail digits screen n s (omega (arith, says.has_port)) split says.text).1

tail_refused : (tail : List ℕ) (refusal : DisplayRefusal) (n s : ℕ) → IsTailRefused tail refusal → SaysNumbers tail n s → refusal ≡ NoMemory
tail_refused tail NoNumber n s refused says = absurd refused
tail_refused tail BadProtocol n s refused says = absurd refused
tail_refused tail BadHost n s refused says = absurd refused
tail_refused tail BadNumber n s refused says = absurd (number_refused tail n s refused says)
tail_refused tail BadScreen n s refused says = absurd (screen_refused tail n s refused says)
tail_refused tail NoMemory n s refused says = refl

either_refused : (front tail : List ℕ) (refusal : DisplayRefusal) (display : DisplayName) → IsFrontRefused front refusal ⊎ IsTailRefused tail refusal → SaysPlace front display.number display.place → SaysNumbers tail display.number display.screen → refusal ≡ NoMemory
either_refused front tail refusal display (inl refused) place numbers = front_refused front refusal display.number display.place refused place
either_refused front tail refusal display (inr refused) place numbers = tail_refused tail refusal display.number display.screen refused numbers

part_refused : (text : List ℕ) (refusal : DisplayRefusal) (display : DisplayName) → IsPartRefused text refusal → Names text display → refusal ≡ NoMemory
part_refused text refusal display refused (inl path) = absurd (false≢true (sym refused.no_path ∙ path.begins))
part_refused text refusal display refused (inr name) =
    let same = last_same 58 text name.front name.tail refused.front refused.tail name.split refused.split in
    either_refused refused.front refused.tail refusal display refused.part
    (subst (λ (f : List ℕ). SaysPlace f display.number display.place) same.0 name.place)
    (subst (λ (t : List ℕ). SaysNumbers t display.number display.screen) same.1 name.numbers)

numberless : (text : List ℕ) (display : DisplayName) → is_path text ≡ false → IsWithout 58 text → Names text display → ⊥
numberless text display no_path without (inl path) = false≢true (sym no_path ∙ path.begins)
numberless text display no_path without (inr name) = not_parted 58 text name.front name.tail without name.split.parts

pub refused_names_none : (text : List ℕ) (refusal : DisplayRefusal) (display : DisplayName) → IsRefused text refusal → Names text display → refusal ≡ NoMemory
refused_names_none text NoNumber display refused names = absurd (numberless text display refused.0 refused.1 names)
refused_names_none text BadProtocol display refused names = part_refused text BadProtocol display refused names
refused_names_none text BadHost display refused names = part_refused text BadHost display refused names
refused_names_none text BadNumber display refused names = part_refused text BadNumber display refused names
refused_names_none text BadScreen display refused names = part_refused text BadScreen display refused names
refused_names_none text NoMemory display refused names = refl

-- what is named or refused for a cause is what the text names
pub gives_what_is_named : (text : List ℕ) (result : Result DisplayName DisplayRefusal) → IfOk result (Names text) → IfErr result (IsRefused text) → (display : DisplayName) → Names text display → Gives result display
gives_what_is_named text (Ok named) says refused display names = text_names_one text named display says names
gives_what_is_named text (Err refusal) says refused display names = refused_names_none text refusal display refused names

pub names_one_display : NamesOne
names_one_display = record { one = text_names_one; none = refused_names_none }
