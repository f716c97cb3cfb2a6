-- Properties that are asked where they lie.
use Rattle.std.proofs.Common.{◌≡◌, ℕ, List, [], ◌∷◌, Bool, true, false, Option, Some, None, refl, sym, ap, ◌∙◌}
use Rattle.std.specs.Prelude.{◌||◌, ◌&&◌, ◌==◌, codes}
use Rattle.std.specs.List.{list_any}
use Rattle.std.specs.Str.{bytes_eq}
use Rattle.ice_values.specs.Walks.{Views, walk_left}
use Rattle.ice_values.specs.declared.numbers.Endian.{Endian}
use Rattle.ice_values.specs.declared.property.Property.{Property}
use Rattle.ice_values.specs.declared.view.PropertyView.{PropertyView}
use Rattle.ice_values.specs.declared.walk.PropertyWalk.{PropertyWalk}
use Rattle.ice_framing.specs.declared.cutting.WholeFrame.{WholeFrame}
use Rattle.xsmp_messages.specs.Views.{WalksOf}
use Rattle.frame_speech.specs.Settings.{set_in, may_turn, values_left, ShownBy}
use Rattle.frame_speech.specs.Speech.{reading_of}
use Rattle.frame_speech.specs.Passing.{may_say}
use Rattle.frame_speech.proofs.Walked.{turns_by_walk, says_not, nothing_read}
use Rattle.client_quirks.specs.Heeding.{is_meant_anew, may_mean}
use Rattle.client_quirks.specs.Meanings.{is_command, is_line, is_shorter, is_amended}
use Rattle.frame_speech.specs.declared.reading.Reading.{Reading}
use Rattle.frame_speech.specs.declared.speech.Speech.{Speech}
use Rattle.frame_speech.specs.declared.values.ValueWalk.{ValueWalk}

-- ---- one more of a list

pub any_here : {A : Type 0} (test : A → Bool) (x : A) (rest left : List A) (all : Bool) → left ≡ x ∷ rest → list_any test left ≡ all → test x ≡ true → true ≡ all
any_here test x rest left all is was yes_ = sym (ap (λ (b : Bool). b || list_any test rest) yes_) ∙ sym (ap (list_any test) is) ∙ was

pub any_later : {A : Type 0} (test : A → Bool) (x : A) (rest left : List A) (all : Bool) → left ≡ x ∷ rest → list_any test left ≡ all → test x ≡ false → list_any test rest ≡ all
any_later test x rest left all is was no_ = sym (ap (λ (b : Bool). b || list_any test rest) no_) ∙ sym (ap (list_any test) is) ∙ was

pub any_over : {A : Type 0} (test : A → Bool) (left : List A) (all : Bool) → left ≡ [] → list_any test left ≡ all → false ≡ all
any_over test left all is was = sym (ap (list_any test) is) ∙ was

-- ---- a frame

pub means_by_walk : (s : Speech) (f : WholeFrame) (walk : PropertyWalk) → WalksOf f.endian (set_in (reading_of s f)) (Some walk) → may_mean s f ≡ list_any is_amended (walk_left walk)
means_by_walk s f walk walks =
    ap (λ (b : Bool). b || is_meant_anew (set_in (reading_of s f))) (turns_by_walk s f walk walks)
    ∙ anew (set_in (reading_of s f)) walks
  where
    anew : (o : Option (List Property)) → WalksOf f.endian o (Some walk) → is_meant_anew o ≡ list_any is_amended (walk_left walk)
    anew (Some properties) is = ap (list_any is_amended) (sym is.1)
    anew None is = absurd is

pub means_nothing : (s : Speech) (f : WholeFrame) → may_say s f ≡ false → may_mean s f ≡ false
means_nothing s f is =
    ap (λ (b : Bool). b || is_meant_anew (set_in (reading_of s f))) (says_not s f is)
    ∙ ap (λ (r : Reading). is_meant_anew (set_in r)) (nothing_read s f is)

or_false : (b : Bool) → (b || false) ≡ b
or_false true = refl
or_false false = refl

pub means_by_none : (s : Speech) (f : WholeFrame) → WalksOf f.endian (set_in (reading_of s f)) None → may_mean s f ≡ may_turn s f
means_by_none s f walks = ap (λ (b : Bool). may_turn s f || b) (anew (set_in (reading_of s f)) walks) ∙ or_false (may_turn s f)
  where
    anew : (o : Option (List Property)) → WalksOf f.endian o None → is_meant_anew o ≡ false
    anew (Some properties) is = absurd is
    anew None is = refl

-- ---- a property

pub line_shown : (e : Endian) (view : PropertyView) (p : Property) (walk : ValueWalk) → Views e view p → ShownBy e view walk → (is_command view.name.now && bytes_eq view.kind.now (codes "ARRAY8") && walk.count == 1) ≡ is_line p
line_shown e view p walk views shown =
    ap (λ (n : List ℕ). is_command n && bytes_eq view.kind.now (codes "ARRAY8") && walk.count == 1) views.name
    ∙ ap (λ (k : List ℕ). is_command p.name && bytes_eq k (codes "ARRAY8") && walk.count == 1) views.kind
    ∙ ap (λ (n : ℕ). is_command p.name && bytes_eq p.kind (codes "ARRAY8") && n == 1) (shown p views).count

pub shorter_shown : (e : Endian) (view : PropertyView) (p : Property) (walk : ValueWalk) → Views e view p → ShownBy e view walk → list_any (is_shorter view.name.now) (values_left walk) ≡ list_any (is_shorter p.name) p.values
shorter_shown e view p walk views shown =
    ap (λ (n : List ℕ). list_any (is_shorter n) (values_left walk)) views.name ∙ ap (list_any (is_shorter p.name)) (shown p views).left
