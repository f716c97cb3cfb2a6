-- What is known as messages are noted one after another.
use Rattle.std.proofs.Common.{◌≡◌, ℕ, ◌+◌, ◌<◌, ◌≤◌, Bool, true, false, List, [], ◌∷◌, ◌++◌, length, take, drop, get_or, map, Option, Some, None, Result, Ok, Err, refl, sym, ap, ◌∙◌, arith, append_assoc, append-nil}
use Rattle.std.specs.Prelude.{◌==◌, slice_index, IfOk, unwrap_or, option_map, option_to_list}
use Rattle.std.specs.List.{AllByRecursion}
use Rattle.std.specs.Option.{option_or, option_flatten}
use Rattle.std.proofs.lemmas.Bool.{and_parts, false≢true}
use Rattle.std.proofs.lemmas.Bool.Decides.{nat_tests}
use Rattle.std.proofs.lemmas.List.{at_drop_all, take_more}
use Rattle.ice_values.specs.Frames.{◌>>=◌, body_at}
use Rattle.ice_values.specs.Properties.{property_list_at}
use Rattle.ice_values.specs.Walks.{Views, walk_left}
use Rattle.ice_values.specs.declared.numbers.Endian.{Endian}
use Rattle.ice_values.specs.declared.property.Property.{Property}
use Rattle.ice_values.specs.declared.refusals.DecodeRefusal.{DecodeRefusal}
use Rattle.ice_values.specs.declared.view.PropertyView.{PropertyView}
use Rattle.ice_values.specs.declared.walk.PropertyWalk.{PropertyWalk}
use Rattle.ice_values.proofs.OptionLaws.{none_not_some}
use Rattle.ice_framing.specs.declared.cutting.WholeFrame.{WholeFrame}
use Rattle.xsmp_messages.specs.Reading.{decode_at}
use Rattle.xsmp_messages.specs.Views.{WalksOf}
use Rattle.xsmp_messages.specs.declared.message.XsmpMessage.{XsmpMessage}
use Rattle.xsmp_messages.specs.declared.message.XsmpMessage.TheVariants.{SetProperties}
use Rattle.frame_speech.proofs.Speeches.{on}
use Rattle.frame_speech.proofs.Walked.{sets, set_says, whole_reading}
use Rattle.frame_speech.specs.Settings.{set_in}
use Rattle.frame_speech.specs.Speech.{is_whole, reading, reading_of, says, after, speech_behind}
use Rattle.frame_speech.specs.Passing.{IsPassed}
use Rattle.frame_speech.specs.declared.speech.Speech.{Speech}
use Rattle.frame_speech.specs.declared.speech.Speech.TheVariants.{Silent, Greeted, Speaks, Lost}
use Rattle.frame_speech.specs.declared.reading.Reading.{Reading}
use Rattle.frame_speech.specs.declared.reading.Reading.TheVariants.{Nothing, Sets, Unread}
use Rattle.xsmp_messages.proofs.ViewLaws.{set_row}
use Rattle.session_watch.specs.Story.{Said, say, IsNoMessage, spoken, messages_in}
use Rattle.session_watch.specs.Knowing.{latest, is_program, name_in, set_by, program_by, id_by, asked_by, answered_by, logout_by, work_by, known_by, noted, noted_all}
use Rattle.session_watch.specs.declared.known.Known.{Known}
use Rattle.session_watch.specs.declared.party.Party.{Party}

-- ---- the last that says something

pub or-none : {A : Type 0} (o : Option A) → option_or o None ≡ o
or-none None = refl
or-none (Some x) = refl

or-or : {A : Type 0} (a b c : Option A) → option_or (option_or a b) c ≡ option_or a (option_or b c)
or-or None b c = refl
or-or (Some x) b c = refl

pub flatten_or : {A : Type 0} (a : Option (Option A)) (b : Option (Option A)) → option_flatten (option_or a b) ≡ unwrap_or a (option_flatten b)
flatten_or None b = refl
flatten_or (Some x) b = refl

pub or_is_unwrap : {A : Type 0} (a b : Option A) → option_or a b ≡ unwrap_or (option_map Some a) b
or_is_unwrap None b = refl
or_is_unwrap (Some x) b = refl

pub latest-push : {A B : Type 0} (f : A → Option B) (xs : List A) (x : A) → latest f (xs ++ x ∷ []) ≡ option_or (f x) (latest f xs)
latest-push f [] x = sym (or-none (f x))
latest-push f (y ∷ ys) x = ap (λ (o : Option _). option_or o (f y)) (latest-push f ys x) ∙ or-or (f x) (latest f ys) (f y)

or_then : {A : Type 0} (a b : Option A) (x : A) → unwrap_or (option_or a b) x ≡ unwrap_or a (unwrap_or b x)
or_then None b x = refl
or_then (Some y) b x = refl

-- the program behind one property more
pub set_more : (properties : List Property) (i : ℕ) (p : Property) (program before next : Option (List ℕ)) → program ≡ unwrap_or (latest set_by (take i properties)) before → i < length properties → p ≡ get_or properties i p → next ≡ unwrap_or (set_by p) program → next ≡ unwrap_or (latest set_by (take (i + 1) properties)) before
set_more properties i p program before next was there is goes =
    goes ∙ ap (unwrap_or (set_by p)) was
    ∙ sym (or_then (set_by p) (latest set_by (take i properties)) before)
    ∙ ap (λ (o : Option (Option (List ℕ))). unwrap_or o before) (sym (latest-push set_by (take i properties) p))
    ∙ ap (λ (ps : List Property). unwrap_or (latest set_by ps) before) (ap (λ (q : Property). take i properties ++ q ∷ []) is ∙ sym (take_more properties i p there))

-- the program behind one property more of a walk
pub walked_more : (p : Property) (rest left : List Property) (program next all : Option (List ℕ)) → left ≡ p ∷ rest → unwrap_or (latest set_by left) program ≡ all → next ≡ unwrap_or (set_by p) program → unwrap_or (latest set_by rest) next ≡ all
walked_more p rest left program next all is was goes =
    ap (unwrap_or (latest set_by rest)) goes ∙ sym (or_then (latest set_by rest) (set_by p) program)
    ∙ ap (λ (ps : List Property). unwrap_or (latest set_by ps) program) (sym is) ∙ was

pub walked_over : (left : List Property) (program all : Option (List ℕ)) → left ≡ [] → unwrap_or (latest set_by left) program ≡ all → program ≡ all
walked_over left program all is was = sym (ap (λ (ps : List Property). unwrap_or (latest set_by ps) program) is) ∙ was

-- what a property sets that a view shows
pub program_shown : (e : Endian) (view : PropertyView) (p : Property) (name before : Option (List ℕ)) → Views e view p → is_program view.name.now ≡ true → name ≡ name_in p.values → name ≡ unwrap_or (set_by p) before
program_shown e view p name before views yes_ is = let here : is_program p.name ≡ true = ap is_program (sym views.name) ∙ yes_ in rw here is

pub no_program_shown : (e : Endian) (view : PropertyView) (p : Property) (before : Option (List ℕ)) → Views e view p → is_program view.name.now ≡ false → before ≡ unwrap_or (set_by p) before
no_program_shown e view p before views no_ = let here : is_program p.name ≡ false = ap is_program (sym views.name) ∙ no_ in rw here refl

pub if_ok : {T E : Type 0} (r : Result T E) (P Q : T → Type 0) → ((x : T) → P x → Q x) → IfOk r P → IfOk r Q
if_ok (Ok x) P Q f p = f x p
if_ok (Err e) P Q f p = p

-- ---- a frame that sets properties

is_twelve : (n : ℕ) → (n == 12) ≡ true → n ≡ 12
is_twelve n is = grind (arith, nat_tests)

spoken_by : (s : Speech) (f : WholeFrame) (l : List Property) → is_whole f ≡ true → says s 12 f.bytes ≡ true → body_at (property_list_at f.endian) f.bytes ≡ Ok l → spoken s f ≡ Some (SetProperties l)
spoken_by Silent f l whole said_ body = absurd (false≢true said_)
spoken_by Greeted f l whole said_ body = absurd (false≢true said_)
spoken_by (Speaks opcode) f l whole said_ body =
    let both = and_parts (slice_index f.bytes 0 == opcode) (slice_index f.bytes 1 == 12) said_ in
    let read : decode_at f.endian f.bytes ≡ Ok (SetProperties l) = set_row f.endian f.bytes (is_twelve (slice_index f.bytes 1) both.1) ∙ ap (λ (r : Result (List Property) DecodeRefusal). r >>= λ x. Ok (SetProperties x)) body in
    rw (whole, both.0, read) refl
spoken_by Lost f l whole said_ body = absurd (false≢true said_)

settings_by : (s : Speech) (f : WholeFrame) (l : List Property) (b : Bool) → is_whole f ≡ b → reading s f ≡ Sets l → spoken s f ≡ Some (SetProperties l)
settings_by s f l true whole is =
    let says_ = set_says s f l (sym (whole_reading s f whole) ∙ is) in
    spoken_by s f l whole says_.0 says_.1
settings_by s f l false whole is =
    let unread : reading s f ≡ Unread = rw whole refl in
    absurd (none_not_some l (sym (ap set_in unread) ∙ ap set_in is))

pub settings_spoken : (s : Speech) (f : WholeFrame) (walk : PropertyWalk) → WalksOf f.endian (set_in (reading s f)) (Some walk) → (after s (reading s f) ≡ s) × (spoken s f ≡ Some (SetProperties (walk_left walk)))
settings_spoken s f walk walks =
    let is : reading s f ≡ Sets (walk_left walk) = sets f.endian (reading s f) walk walks in
    (ap (after s) is, settings_by s f (walk_left walk) (is_whole f) refl is)

pub settings_whole : (s : Speech) (f : WholeFrame) (result : Option PropertyWalk) → is_whole f ≡ true → WalksOf f.endian (set_in (reading_of s f)) result → WalksOf f.endian (set_in (reading s f)) result
settings_whole s f result whole walks = rw whole walks

pub no_settings : (s : Speech) (f : WholeFrame) → is_whole f ≡ false → WalksOf f.endian (set_in (reading s f)) None
no_settings s f whole = rw whole tt

pub unspoken : (s : Speech) (f : WholeFrame) → is_whole f ≡ false → None ≡ spoken s f
unspoken Silent f whole = refl
unspoken Greeted f whole = refl
unspoken (Speaks opcode) f whole = rw whole refl
unspoken Lost f whole = refl

-- ---- all that is known

known_push : (party : Party) (m : XsmpMessage) (xs : List Said) → known_by (xs ++ say party m ∷ []) ≡ noted party m (known_by xs)
known_push party m xs =
    let program = ap option_flatten (latest-push (λ (s : Said). program_by s.by s.message) xs (say party m)) ∙ flatten_or (program_by party m) (latest (λ (s : Said). program_by s.by s.message) xs) in
    let id = latest-push (λ (s : Said). id_by s.by s.message) xs (say party m) in
    let asked = latest-push (λ (s : Said). asked_by s.by s.message) xs (say party m) in
    let answered = ap option_flatten (latest-push (λ (s : Said). answered_by s.by s.message) xs (say party m)) ∙ flatten_or (answered_by party m) (latest (λ (s : Said). answered_by s.by s.message) xs) in
    let logout = latest-push (λ (s : Said). logout_by s.by s.message) xs (say party m) in
    let work = latest-push (λ (s : Said). work_by s.by s.message) xs (say party m) in
    rw (program, id, asked, answered, logout, work) refl

pub known_more : (party : Party) (ms : List XsmpMessage) (xs : List Said) → noted_all party ms (known_by xs) ≡ known_by (xs ++ map (say party) ms)
known_more party [] xs = sym (ap known_by (append-nil xs))
known_more party (m ∷ ms) xs =
    ap (noted_all party ms) (sym (known_push party m xs)) ∙ known_more party ms (xs ++ say party m ∷ []) ∙ ap known_by (append_assoc xs (say party m ∷ []) (map (say party) ms))

noted_all-append : (party : Party) (xs ys : List XsmpMessage) (k : Known) → noted_all party (xs ++ ys) k ≡ noted_all party ys (noted_all party xs k)
noted_all-append party [] ys k = refl
noted_all-append party (m ∷ xs) ys k = noted_all-append party xs ys (noted party m k)

-- ---- the frames of a piece, one after another

-- The frames before the i-th were noted: what is left does to what is known what all of them do to what was.
pub record Noting (party : Party) (first : Speech) (frames : List WholeFrame) (before : Known) (speech : Speech) (known : Known) (i : ℕ) : Type 0 where
  pub speech_is : speech_behind speech (drop i frames) ≡ speech_behind first frames
  pub known_is : noted_all party (messages_in speech (drop i frames)) known ≡ noted_all party (messages_in first frames) before

pub noted_one : (party : Party) (first : Speech) (frames : List WholeFrame) (before : Known) (speech : Speech) (known : Known) (i : ℕ) (f : WholeFrame) (next : Speech) (more : Known) → Noting party first frames before speech known i → i < length frames → f ≡ get_or frames i f → next ≡ after speech (reading speech f) → more ≡ noted_all party (option_to_list (spoken speech f)) known
    → Noting party first frames before next more (i + 1)
noted_one party first frames before speech known i f next more noting there is goes notes = record {
  speech_is = ap (λ (s : Speech). speech_behind s (drop (i + 1) frames)) goes ∙ on (speech_behind speech) frames i f there is ∙ noting.speech_is;
  known_is =
      ap (λ (s : Speech). noted_all party (messages_in s (drop (i + 1) frames)) more) goes
      ∙ ap (noted_all party (messages_in (after speech (reading speech f)) (drop (i + 1) frames))) notes
      ∙ sym (noted_all-append party (option_to_list (spoken speech f)) (messages_in (after speech (reading speech f)) (drop (i + 1) frames)) known)
      ∙ ap (λ (ms : List XsmpMessage). noted_all party ms known) (on (messages_in speech) frames i f there is)
      ∙ noting.known_is;
}

pub noted_every : (party : Party) (first : Speech) (frames : List WholeFrame) (before : Known) (speech : Speech) (known : Known) (i : ℕ) → Noting party first frames before speech known i → length frames ≤ i
    → (speech ≡ speech_behind first frames) × (known ≡ noted_all party (messages_in first frames) before)
noted_every party first frames before speech known i noting over = (
  sym (at_drop_all (speech_behind speech) frames i over) ∙ noting.speech_is,
  sym (at_drop_all (λ (fs : List WholeFrame). noted_all party (messages_in speech fs) known) frames i over) ∙ noting.known_is,
)

-- ---- frames that are passed over

passed_message : (s : Speech) (f : WholeFrame) → IsPassed (IsNoMessage s) f → (spoken s f ≡ None) × (reading s f ≡ Nothing)
passed_message Silent f passed = absurd (false≢true (sym passed.1))
passed_message Greeted f passed = absurd (false≢true (sym passed.1))
passed_message (Speaks opcode) f passed = rw (passed.0, passed.1) (refl, refl)
passed_message Lost f passed = (refl, rw passed.0 refl)

pub passed_messages : (s : Speech) (fs : List WholeFrame) → AllByRecursion (IsPassed (IsNoMessage s)) fs → (messages_in s fs ≡ []) × (speech_behind s fs ≡ s)
passed_messages s [] all = (refl, refl)
passed_messages s (f ∷ fs) all =
    let one = passed_message s f all.0 in
    let others = passed_messages s fs all.1 in (
      ap (λ (o : Option XsmpMessage). option_to_list o ++ messages_in (after s (reading s f)) fs) one.0 ∙ ap (λ (r : Reading). messages_in (after s r) fs) one.1 ∙ others.0,
      ap (λ (r : Reading). speech_behind (after s r) fs) one.1 ∙ others.1,
    )
