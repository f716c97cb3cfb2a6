-- Whole texts.
use Rattle.std.proofs.Common.{◌≡◌, Bool, true, false, ℕ, List, refl, sym, ◌∙◌, ap, IsUtf8, not, ◌&&◌}
use Rattle.std.proofs.lemmas.Bool.{false≢true}
use Rattle.std.specs.List.{list_any}
use Rattle.std.specs.Str.{chars, is_utf8}
use Rattle.std.proofs.lemmas.Str.{IsUtf8-from_is_utf8, is_utf8-from_IsUtf8}
use Rattle.shown_text.specs.Shown.{is_hidden, is_whole}

-- UTF-8 is whole where none of its characters is hidden,
pub whole_is : (word : List ℕ) (hidden : Bool) → IsUtf8 word → hidden ≡ list_any is_hidden (chars word) → not hidden ≡ is_whole word
whole_is word hidden utf8 e = ap not e ∙ sym (ap (λ b. b && not (list_any is_hidden (chars word))) (is_utf8-from_IsUtf8 word utf8))

-- and anything else never is.
pub whole_isnt : (word : List ℕ) → ¬ (IsUtf8 word) → false ≡ is_whole word
whole_isnt word other = by (is_utf8 word) refl
  where
    by : (b : Bool) → is_utf8 word ≡ b → false ≡ is_whole word
    by true is = absurd (other (IsUtf8-from_is_utf8 word is))
    by false is = sym (ap (λ b. b && not (list_any is_hidden (chars word))) is)

pub is_text : (word : List ℕ) → is_whole word ≡ true → is_utf8 word ≡ true
is_text word whole = by (is_utf8 word) refl
  where
    by : (b : Bool) → is_utf8 word ≡ b → is_utf8 word ≡ true
    by true is = is
    by false is = absurd (false≢true (sym (ap (λ b. b && not (list_any is_hidden (chars word))) is) ∙ whole))
