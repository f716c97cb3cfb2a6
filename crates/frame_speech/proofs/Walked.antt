-- Properties and values that are walked where they lie.
use Rattle.std.proofs.Common.{◌≡◌, ℕ, zero, suc, ◌+◌, ◌-◌, ◌<◌, ◌≤◌, Bool, true, false, cond, List, [], ◌∷◌, length, take, drop, Option, Some, None, Result, Ok, Err, refl, sym, ap, ◌∙◌, subst, arith, length-drop}
use Rattle.std.specs.Prelude.{nat_lt, if◌then◌else◌, ◌==◌, ◌&&◌, not, slice_index, codes}
use Rattle.std.proofs.lemmas.Bool.{false≢true}
use Rattle.std.proofs.lemmas.Bool.Decides.{nat_tests}
use Rattle.std.specs.Str.{bytes_eq}
use Rattle.ice_values.specs.Cells.{pad_len}
use Rattle.ice_values.specs.Frames.{body_at, cut, ended}
use Rattle.ice_values.specs.Numbers.{number}
use Rattle.ice_values.specs.Properties.{array8_at, array8_list_at, listed_at, property_list_at}
use Rattle.ice_values.specs.Reading.{◌>>=◌, card_at, bytes_at, skip_at, many_at}
use Rattle.ice_values.specs.Walks.{up_to, walk_left, Views}
use Rattle.ice_values.specs.declared.numbers.Endian.{Endian}
use Rattle.ice_values.specs.declared.property.Property.{Property}
use Rattle.ice_values.specs.declared.refusals.DecodeRefusal.{DecodeRefusal}
use Rattle.ice_values.specs.declared.view.PropertyView.{PropertyView}
use Rattle.ice_values.specs.declared.walk.PropertyWalk.{PropertyWalk}
use Rattle.ice_values.proofs.FieldLaws.{bind_some}
use Rattle.ice_values.proofs.OptionLaws.{some_is, none_not_some}
use Rattle.ice_values.proofs.WalkLaws.{none_left, stops, goes}
use Rattle.ice_framing.specs.declared.cutting.WholeFrame.{WholeFrame}
use Rattle.ice_messages.specs.declared.message.IceMessage.{IceMessage}
use Rattle.ice_messages.specs.declared.message.IceMessage.TheVariants.{ProtocolSetup}
use Rattle.ice_messages.specs.Reading.{decode_at}
use Rattle.xsmp_messages.specs.Views.{WalksOf}
use Rattle.frame_speech.specs.Speech.{is_message, is_whole, reading, says, greeting_in, opened_under, setup_in, opening_by, opening_in, setting_by, reading_of, after}
use Rattle.frame_speech.specs.Passing.{may_say}
use Rattle.frame_speech.specs.Settings.{set_in, is_set, may_turn, head_at, values_left, GivesValue, WalksValues, ShownBy}
use Rattle.frame_speech.specs.declared.reading.Reading.{Reading}
use Rattle.frame_speech.specs.declared.reading.Reading.TheVariants.{Nothing, Greets, Opens, Sets, Unread}
use Rattle.frame_speech.specs.declared.speech.Speech.{Speech}
use Rattle.frame_speech.specs.declared.speech.Speech.TheVariants.{Silent, Greeted, Speaks, Lost}
use Rattle.frame_speech.specs.declared.values.ValueWalk.{ValueWalk}

-- ---- the properties of a body

abbrev Body : Endian → List ℕ → Option PropertyWalk → Type 0
Body e frame result = WalksOf e (set_in (setting_by (body_at (property_list_at e) frame))) result

is_short : (n : ℕ) (body : List ℕ) → length body - n < 8 → nat_lt (length (drop n body)) 8 ≡ true
is_short n body few = let len = length-drop n body in grind (arith, nat_tests)

is_long : (n : ℕ) (body : List ℕ) → 8 ≤ length body - n → nat_lt (length (drop n body)) 8 ≡ false
is_long n body many = let len = length-drop n body in grind (arith, nat_tests)

pub body_walked : (e : Endian) (frame body : List ℕ) (walk : PropertyWalk) (n : ℕ) → body ≡ drop 8 frame → walk.endian ≡ e → property_list_at e body ≡ Some (walk_left walk, drop n body) → length body - n < 8 → Body e frame (Some walk)
unfolding body_at cut ended
body_walked e frame body walk n at order is few =
    let here : property_list_at e (drop 8 frame) ≡ Some (walk_left walk, drop n body) = ap (property_list_at e) (sym at) ∙ is in
    rw (here, is_short n body few) (order, refl)

pub body_too_long : (e : Endian) (frame body : List ℕ) (walk : PropertyWalk) (n : ℕ) → body ≡ drop 8 frame → property_list_at e body ≡ Some (walk_left walk, drop n body) → 8 ≤ length body - n → Body e frame None
unfolding body_at cut ended
body_too_long e frame body walk n at is many =
    let here : property_list_at e (drop 8 frame) ≡ Some (walk_left walk, drop n body) = ap (property_list_at e) (sym at) ∙ is in
    rw (here, is_long n body many) tt

pub body_unread : (e : Endian) (frame body : List ℕ) → body ≡ drop 8 frame → property_list_at e body ≡ None → Body e frame None
unfolding body_at cut
body_unread e frame body at none =
    let here : property_list_at e (drop 8 frame) ≡ None = ap (property_list_at e) (sym at) ∙ none in
    rw here tt

-- ---- of a party that speaks so far

abbrev Walked : Speech → WholeFrame → Option PropertyWalk → Type 0
Walked s f result = WalksOf f.endian (set_in (reading_of s f)) result

none_set : (s : Speech) (f : WholeFrame) → set_in (reading_of s f) ≡ None → Walked s f None
none_set s f none = subst (λ (o : Option (List Property)). WalksOf f.endian o None) (sym none) tt

greets : (b : Bool) → set_in (if b then Greets else Unread) ≡ None
greets true = refl
greets false = refl

opens : (n : ℕ) (b : Bool) → set_in (if b then Unread else Opens n) ≡ None
opens n true = refl
opens n false = refl

names : (n : ℕ) (b : Bool) → set_in (if b then opened_under n else Nothing) ≡ None
names n true = opens n (n == 0)
names n false = refl

set_up : (m : IceMessage) → set_in (setup_in m) ≡ None
set_up (ProtocolSetup opcode must protocol vendor release names_ offered) = names opcode (bytes_eq protocol (codes "XSMP"))
set_up m = refl

read_so : (r : Result IceMessage DecodeRefusal) → set_in (opening_by r) ≡ None
read_so (Ok m) = set_up m
read_so (Err d) = refl

begins_so : (a b : Bool) (r : Result IceMessage DecodeRefusal) (n : ℕ) → set_in (if a then opening_by r else if b then opened_under n else Nothing) ≡ None
begins_so true b r n = read_so r
begins_so false b r n = names n b

pub said : (s : Speech) (f : WholeFrame) (result : Option PropertyWalk) → says s 12 f.bytes ≡ true → Body f.endian f.bytes result → Walked s f result
said Silent f result is walks = absurd (false≢true is)
said Greeted f result is walks = absurd (false≢true is)
said (Speaks opcode) f result is walks = rw is walks
said Lost f result is walks = absurd (false≢true is)

pub unsaid : (s : Speech) (f : WholeFrame) → says s 12 f.bytes ≡ false → Walked s f None
unsaid Silent f is = none_set Silent f (greets (is_message 0 1 f && nat_lt (slice_index f.bytes 2) 2))
unsaid Greeted f is = none_set Greeted f (begins_so (is_message 0 7 f) (is_message 0 8 f) (decode_at f.endian f.bytes) (slice_index f.bytes 3))
unsaid (Speaks opcode) f is = rw is tt
unsaid Lost f is = tt

-- where there is a walk, the frame sets what it goes over
pub sets : (e : Endian) (r : Reading) (walk : PropertyWalk) → WalksOf e (set_in r) (Some walk) → r ≡ Sets (walk_left walk)
sets e (Sets properties) walk is = ap (λ (l : List Property). Sets l) (sym is.1)
sets e Nothing walk is = absurd is
sets e Greets walk is = absurd is
sets e (Opens opcode) walk is = absurd is
sets e Unread walk is = absurd is

-- ---- values

short_by : (b : Bool) (n : ℕ) (bytes : List ℕ) → nat_lt (length bytes) n ≡ b → skip_at n bytes ≡ None → b ≡ true
short_by true n bytes is none = refl
short_by false n bytes is none = absurd (none_not_some (drop n bytes) (sym none ∙ rw is refl))

is_few : (n : ℕ) (bytes : List ℕ) → skip_at n bytes ≡ None → nat_lt (length bytes) n ≡ true
is_few n bytes none = short_by (nat_lt (length bytes) n) n bytes refl none

enough_by : (b : Bool) (n : ℕ) (bytes rest : List ℕ) → nat_lt (length bytes) n ≡ b → skip_at n bytes ≡ Some rest → (b ≡ false) × (drop n bytes ≡ rest)
enough_by true n bytes rest is some = absurd (none_not_some rest (sym (rw is refl) ∙ some))
enough_by false n bytes rest is some = (refl, some_is (drop n bytes) rest (sym (rw is refl) ∙ some))

is_enough : (n : ℕ) (bytes rest : List ℕ) → skip_at n bytes ≡ Some rest → (nat_lt (length bytes) n ≡ false) × (drop n bytes ≡ rest)
is_enough n bytes rest some = enough_by (nat_lt (length bytes) n) n bytes rest refl some

card_none : (e : Endian) (bytes : List ℕ) → skip_at 4 bytes ≡ None → card_at e 4 bytes ≡ None
card_none e bytes none = rw (is_few 4 bytes none) refl

card_some : (e : Endian) (bytes rest : List ℕ) → skip_at 4 bytes ≡ Some rest → card_at e 4 bytes ≡ Some (number e 4 bytes, rest)
card_some e bytes rest some = let h = is_enough 4 bytes rest some in rw (h.0, h.1) refl

text_none : (n : ℕ) (bytes : List ℕ) → skip_at n bytes ≡ None → bytes_at n bytes ≡ None
text_none n bytes none = rw (is_few n bytes none) refl

text_some : (n : ℕ) (bytes rest : List ℕ) → skip_at n bytes ≡ Some rest → bytes_at n bytes ≡ Some (take n bytes, rest)
text_some n bytes rest some = let h = is_enough n bytes rest some in rw (h.0, h.1) refl

pub head_uncounted : (e : Endian) (bytes : List ℕ) → skip_at 4 bytes ≡ None → head_at e bytes ≡ None
head_uncounted e bytes none = rw (card_none e bytes none) refl

pub head_short : (e : Endian) (bytes behind : List ℕ) → skip_at 4 bytes ≡ Some behind → skip_at 4 behind ≡ None → head_at e bytes ≡ None
head_short e bytes behind first none = rw (card_some e bytes behind first, none) refl

pub head_cut : (e : Endian) (bytes behind items : List ℕ) → skip_at 4 bytes ≡ Some behind → skip_at 4 behind ≡ Some items → head_at e bytes ≡ Some (number e 4 bytes, items)
head_cut e bytes behind items first second = rw (card_some e bytes behind first, second) refl

many_counted : {A : Type 0} (read : List ℕ → Option (A × List ℕ)) (n : ℕ) (bytes rest : List ℕ) (xs : List A) → many_at read n bytes ≡ Some (xs, rest) → (up_to read n bytes ≡ xs) × (n ≡ length xs)
unfolding up_to many_at
many_counted {A} read zero bytes rest xs e =
    let same : [] ≡ xs = ap (λ (x : List A × List ℕ). x.0) (some_is ([], bytes) (xs, rest) e) in
    (same, ap length same)
many_counted {A} read (suc n) bytes rest xs e =
    let p = bind_some (read bytes) (λ first. many_at read n first.1 >>= λ others. Some (first.0 ∷ others.0, others.1)) (xs, rest) e in
    let q = bind_some (many_at read n p.0.1) (λ others. Some (p.0.0 ∷ others.0, others.1)) (xs, rest) p.2 in
    let others = many_counted read n p.0.1 q.0.1 q.0.0 q.1 in
    let same : p.0.0 ∷ q.0.0 ≡ xs = ap (λ (x : List A × List ℕ). x.0) (some_is (p.0.0 ∷ q.0.0, q.0.1) (xs, rest) q.2) in
    (rw p.1 (ap (λ (l : List A). p.0.0 ∷ l) others.0 ∙ same), omega (arith, others.1, ap length same))

head_by : (e : Endian) (bytes rest : List ℕ) (n : ℕ × List ℕ) → card_at e 4 bytes ≡ Some n → skip_at 4 n.1 ≡ Some rest → head_at e bytes ≡ Some (n.0, rest)
head_by e bytes rest n first second = rw (first, second) refl

-- the list behind its head
listed_by : {A : Type 0} (item : List ℕ → Option (A × List ℕ)) (e : Endian) (bytes rest : List ℕ) (xs : List A) → listed_at item e bytes ≡ Some (xs, rest)
    → (h : ℕ × List ℕ) × (head_at e bytes ≡ Some h) × (many_at item h.0 h.1 ≡ Some (xs, rest))
unfolding listed_at
listed_by item e bytes rest xs is =
    let p = bind_some (card_at e 4 bytes) (λ n. skip_at 4 n.1 >>= λ rest. many_at item n.0 rest) (xs, rest) is in
    let q = bind_some (skip_at 4 p.0.1) (λ rest. many_at item p.0.0 rest) (xs, rest) p.2 in
    ((p.0.0, q.0), head_by e bytes q.0 p.0 p.1 q.1, q.2)

pub values_walked : (e : Endian) (view : PropertyView) (walk : ValueWalk) → walk.endian ≡ e → head_at e view.values.now ≡ Some (walk.count, walk.bytes.now) → ShownBy e view walk
values_walked e view walk order is p views =
    let list = listed_by (array8_at e) e view.values.now [] p.values views.values in
    let head : ◌≡◌ {A = ℕ × List ℕ} list.0 (walk.count, walk.bytes.now) = some_is list.0 (walk.count, walk.bytes.now) (sym list.1 ∙ is) in
    let all : many_at (array8_at e) walk.count walk.bytes.now ≡ Some (p.values, []) = subst (λ (h : ℕ × List ℕ). many_at (array8_at e) h.0 h.1 ≡ Some (p.values, [])) head list.2 in
    let counted = many_counted (array8_at e) walk.count walk.bytes.now [] p.values all in
    record { left = ap (λ (d : Endian). up_to (array8_at d) walk.count walk.bytes.now) order ∙ counted.0; count = counted.1 }

pub no_values_shown : (e : Endian) (view : PropertyView) (walk : ValueWalk) → head_at e view.values.now ≡ None → ShownBy e view walk
no_values_shown e view walk none p views =
    let list = listed_by (array8_at e) e view.values.now [] p.values views.values in
    absurd (none_not_some list.0 (sym none ∙ list.1))

pub value_none : (walk : ValueWalk) → walk.count ≡ 0 → GivesValue walk None walk
value_none walk none = let is = none_left (array8_at walk.endian) walk.count walk.bytes.now none in (is, is)

pub value_stops : (walk : ValueWalk) → array8_at walk.endian walk.bytes.now ≡ None → GivesValue walk None walk
value_stops walk none = let is = stops (array8_at walk.endian) walk.count walk.bytes.now none in (is, is)

pub value_given : (old new : ValueWalk) (value : List ℕ) → 0 < old.count → new.endian ≡ old.endian → new.count ≡ old.count - 1 → array8_at old.endian old.bytes.now ≡ Some (value, new.bytes.now) → GivesValue old (Some value) new
value_given old new value some order count is =
    goes (array8_at old.endian) old.count old.bytes.now new.bytes.now value some is
    ∙ ap (λ (l : List (List ℕ)). value ∷ l) (ap (λ (e : Endian). up_to (array8_at e) (old.count - 1) new.bytes.now) (sym order) ∙ ap (λ (n : ℕ). up_to (array8_at new.endian) n new.bytes.now) (sym count))

-- ---- who is understood as before

and_false : (b : Bool) → (b && not true) ≡ false
and_false true = refl
and_false false = refl

is_some : (e : Endian) (o : Option (List Property)) (walk : PropertyWalk) → WalksOf e o (Some walk) → is_set o ≡ true
is_some e (Some properties) walk is = refl
is_some e None walk is = absurd is

is_none : (e : Endian) (o : Option (List Property)) → WalksOf e o None → is_set o ≡ false
is_none e (Some properties) is = absurd is
is_none e None is = refl

pub turns_by_walk : (s : Speech) (f : WholeFrame) (walk : PropertyWalk) → Walked s f (Some walk) → may_turn s f ≡ false
turns_by_walk s f walk walks = rw (is_some f.endian (set_in (reading_of s f)) walk walks) (and_false (may_say s f))

pub turns_so : (s : Speech) (f : WholeFrame) → may_say s f ≡ true → Walked s f None → may_turn s f ≡ true
turns_so s f says_ walks = rw (says_, is_none f.endian (set_in (reading_of s f)) walks) refl

-- a frame that says nothing
pub nothing_read : (s : Speech) (f : WholeFrame) → may_say s f ≡ false → reading_of s f ≡ Nothing
nothing_read Silent f is = absurd (false≢true (sym is))
nothing_read Greeted f is = absurd (false≢true (sym is))
nothing_read (Speaks opcode) f is = rw is refl
nothing_read Lost f is = refl

stays_set : (s : Speech) (r : Reading) → not (is_set (set_in r)) ≡ false → after s r ≡ s
stays_set s (Sets properties) is = refl
stays_set s Nothing is = refl
stays_set s Greets is = absurd (false≢true (sym is))
stays_set s (Opens opcode) is = absurd (false≢true (sym is))
stays_set s Unread is = absurd (false≢true (sym is))

stays_by : (s : Speech) (f : WholeFrame) (b : Bool) → may_say s f ≡ b → (b && not (is_set (set_in (reading_of s f)))) ≡ false → after s (reading_of s f) ≡ s
stays_by s f false says_ is = ap (after s) (nothing_read s f says_)
stays_by s f true says_ is = stays_set s (reading_of s f) is

pub turns_not : (s : Speech) (f : WholeFrame) → may_turn s f ≡ false → after s (reading_of s f) ≡ s
turns_not s f is = stays_by s f (may_say s f) refl is

pub whole_reading : (s : Speech) (f : WholeFrame) → is_whole f ≡ true → reading s f ≡ reading_of s f
whole_reading s f whole = rw whole refl

-- ---- what sets properties

set_is : (x y : List Property) → Sets x ≡ Sets y → x ≡ y
set_is x y is = some_is x y (ap set_in is)

set_by : (r : Result (List Property) DecodeRefusal) (l : List Property) → setting_by r ≡ Sets l → r ≡ Ok l
set_by (Ok properties) l is = ap (λ (p : List Property). Ok p) (set_is properties l is)
set_by (Err d) l is = absurd cc

says_by : (s : Speech) (f : WholeFrame) (l : List Property) (b : Bool) → says s 12 f.bytes ≡ b → reading_of s f ≡ Sets l → (says s 12 f.bytes ≡ true) × (body_at (property_list_at f.endian) f.bytes ≡ Ok l)
says_by Silent f l b said_ is = absurd (none_not_some l (sym (greets (is_message 0 1 f && nat_lt (slice_index f.bytes 2) 2)) ∙ ap set_in is))
says_by Greeted f l b said_ is = absurd (none_not_some l (sym (begins_so (is_message 0 7 f) (is_message 0 8 f) (decode_at f.endian f.bytes) (slice_index f.bytes 3)) ∙ ap set_in is))
says_by (Speaks opcode) f l true said_ is = (said_, set_by (body_at (property_list_at f.endian) f.bytes) l (sym (rw said_ refl) ∙ is))
says_by (Speaks opcode) f l false said_ is = absurd (none_not_some l (sym (ap set_in (nothing_read (Speaks opcode) f said_)) ∙ ap set_in is))
says_by Lost f l b said_ is = absurd (none_not_some l (ap set_in is))

-- a frame that sets properties is a SetProperties, whose body they are
pub set_says : (s : Speech) (f : WholeFrame) (l : List Property) → reading_of s f ≡ Sets l → (says s 12 f.bytes ≡ true) × (body_at (property_list_at f.endian) f.bytes ≡ Ok l)
set_says s f l is = says_by s f l (says s 12 f.bytes) refl is

pub says_not : (s : Speech) (f : WholeFrame) → may_say s f ≡ false → may_turn s f ≡ false
says_not s f is = rw is refl
