-- What one more effect does to a record.
use Rattle.std.specs.Prelude.{◌≡◌, ℕ, Bool, true, false, if◌then◌else◌, ◌||◌, List, [], ◌∷◌, ◌++◌}
use Rattle.std.proofs.Common.{refl, ap, sym, ◌∙◌}
use Rattle.std.proofs.lemmas.Bool.{false≢true}
use Rattle.std.proofs.lemmas.Grind.{flat_map-append}
use Rattle.std.proofs.lemmas.List.{append_assoc, append-nil}
use Rattle.sm_world.specs.declared.effects.Effect.{Effect}
use Rattle.control_lines.specs.Traces.{effect_text, effects_text, whole_line}
use Rattle.session_recorder.specs.Recorded.{is_announced, is_printed, behind_announcement, record_text}

more-by : (b : Bool) (xs ys : List Effect) → (b || is_announced xs) ≡ true → (is_announced xs ≡ true → behind_announcement (xs ++ ys) ≡ behind_announcement xs ++ ys) → (if b then xs ++ ys else behind_announcement (xs ++ ys)) ≡ (if b then xs else behind_announcement xs) ++ ys
more-by true xs ys announced rest = refl
more-by false xs ys announced rest = rest announced

-- Behind the announcement what comes stands last.
pub behind-more : (xs ys : List Effect) → is_announced xs ≡ true → behind_announcement (xs ++ ys) ≡ behind_announcement xs ++ ys
behind-more [] ys announced = absurd (false≢true announced)
behind-more (x ∷ xs) ys announced = more-by (is_printed x) xs ys announced (behind-more xs ys)

none-by : (b : Bool) (xs ys : List Effect) → (b || is_announced xs) ≡ false → (is_announced xs ≡ false → behind_announcement (xs ++ ys) ≡ behind_announcement ys) → (if b then xs ++ ys else behind_announcement (xs ++ ys)) ≡ behind_announcement ys
none-by true xs ys silent rest = absurd (false≢true (sym silent))
none-by false xs ys silent rest = rest silent

-- Before the announcement only what comes can bring it.
pub behind-none : (xs ys : List Effect) → is_announced xs ≡ false → behind_announcement (xs ++ ys) ≡ behind_announcement ys
behind-none [] ys silent = refl
behind-none (x ∷ xs) ys silent = none-by (is_printed x) xs ys silent (behind-none xs ys)

abbrev nothing : List Effect
nothing = []

same-by : (b : Bool) → (if b then nothing else nothing) ≡ nothing
same-by true = refl
same-by false = refl

-- An effect more shows nothing before the announcement, also where it is the announcement.
silent-one : (xs : List Effect) (x : Effect) → is_announced xs ≡ false → behind_announcement (xs ++ x ∷ []) ≡ []
silent-one xs x silent = behind-none xs (x ∷ []) silent ∙ same-by (is_printed x)

silent-all : (xs : List Effect) → is_announced xs ≡ false → behind_announcement xs ≡ []
silent-all xs silent = ap behind_announcement (sym (append-nil xs)) ∙ behind-none xs [] silent

-- Before the announcement the record stays.
pub record-stays : (opening : List ℕ) (xs : List Effect) (x : Effect) → is_announced xs ≡ false → record_text opening (xs ++ x ∷ []) ≡ record_text opening xs
record-stays opening xs x silent = ap (λ (es : List Effect). opening ++ effects_text es) (silent-one xs x silent ∙ sym (silent-all xs silent))

abbrev line_of : Effect → List ℕ
line_of x = whole_line (effect_text x)

-- Behind it the record gets the line of what comes.
pub record-grows : (opening : List ℕ) (xs : List Effect) (x : Effect) → is_announced xs ≡ true → record_text opening (xs ++ x ∷ []) ≡ record_text opening xs ++ whole_line (effect_text x)
record-grows opening xs x announced =
    ap (λ (es : List Effect). opening ++ effects_text es) (behind-more xs (x ∷ []) announced)
    ∙ ap (λ (t : List ℕ). opening ++ t) (flat_map-append line_of (behind_announcement xs) (x ∷ []) ∙ ap (λ (t : List ℕ). effects_text (behind_announcement xs) ++ t) (append-nil (line_of x)))
    ∙ sym (append_assoc opening (effects_text (behind_announcement xs)) (line_of x))
