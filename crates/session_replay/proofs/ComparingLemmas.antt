-- Where the lines of a trace and those of the machine part.
use denote.Ref.{Bor}
use Rattle.std.specs.Prelude.{MatchOption}
use Rattle.std.specs.Bool.{Decides}
use Rattle.std.proofs.Common.{◌≡◌, ◌⊎◌, inl, inr, Bool, IsTrue, Option, Some, None, ℕ, ◌+◌, ◌<◌, List, [], ◌∷◌, ◌++◌, length, map, take, drop, refl, sym, ◌∙◌, ap, subst, arith, append_assoc, length-append, codes}
use Rattle.std.proofs.lemmas.List.{append-nil, drop_more, take_more, take-append-drop}
use Rattle.std.proofs.lemmas.Grind.{flat_map-append}
use Rattle.std.specs.List.{flat_map}
use Rattle.sm_world.specs.declared.effects.Effect.{Effect}
use Rattle.session_engine.specs.Doing.{item_of, items}
use Rattle.session_engine.specs.Machine.{Item}
use Rattle.control_lines.specs.Lines.{lines_of}
use Rattle.control_lines.specs.Traces.{effect_text}
use Rattle.session_in_memory.specs.Lines.{effect_of, lines_by, run_lines}
use Rattle.trace_replay.proofs.OpeningLemmas.{same_field, same_tail}
use Rattle.session_replay.specs.Comparing.{AreLinesOf, GoesOn, IsLineOf, PartAt, PartAtOnce, PartWith}

-- ---- the lines of some effects

map-append : {A B : Type 0} (f : A → B) (xs ys : List A) → map f (xs ++ ys) ≡ map f xs ++ map f ys
map-append f [] ys = refl
map-append f (x ∷ xs) ys = ap (λ rest. f x ∷ rest) (map-append f xs ys)

lines-append : (xs ys : List Item) → run_lines (xs ++ ys) ≡ run_lines xs ++ run_lines ys
lines-append xs ys =
    ap (flat_map (λ effect. lines_by (effect_text effect))) (map-append effect_of xs ys)
    ∙ flat_map-append (λ effect. lines_by (effect_text effect)) (map effect_of xs) (map effect_of ys)

-- the lines of effects one of which is looked at
pub effects_lines : (front : List Effect) (effect : Effect) (rest : List Effect) → run_lines (items (front ++ effect ∷ rest)) ≡ run_lines (items front) ++ (run_lines (item_of effect) ++ run_lines (items rest))
effects_lines front effect rest =
    ap run_lines (flat_map-append item_of front (effect ∷ rest))
    ∙ (lines-append (items front) (item_of effect ++ items rest) ∙ ap (λ lines. run_lines (items front) ++ lines) (lines-append (item_of effect) (items rest)))

pub one_more : (front : List Effect) (effect : Effect) → run_lines (items (front ++ effect ∷ [])) ≡ run_lines (items front) ++ run_lines (item_of effect)
one_more front effect = effects_lines front effect [] ∙ ap (λ lines. run_lines (items front) ++ lines) (append-nil (run_lines (item_of effect)))

-- ---- lines that are those of the machine

are-append : (made front more others : List (List ℕ)) → AreLinesOf made front → AreLinesOf more others → AreLinesOf (made ++ more) (front ++ others)
are-append [] [] more others one two = two
are-append [] (line ∷ front) more others one two = absurd one
are-append (own ∷ made) [] more others one two = absurd one
are-append (own ∷ made) (line ∷ front) more others one two = (one.0, are-append made front more others one.1 two)

pub begins : (lines : List (List ℕ)) → GoesOn [] lines lines
begins lines = record { front = []; parts = refl; are = tt }

pub goes_further : (made more lines left rest : List (List ℕ)) → GoesOn made lines left → GoesOn more left rest → GoesOn (made ++ more) lines rest
goes_further made more lines left rest one two = record {
  front = one.front ++ two.front;
  parts = one.parts ∙ (ap (λ ls. one.front ++ ls) two.parts ∙ sym (append_assoc one.front two.front rest));
  are = are-append made one.front more two.front one.are two.are;
}

-- one line further
pub one_line : (made line : List ℕ) (lines left : List (List ℕ)) → lines ≡ line ∷ left → IsLineOf made line → GoesOn (made ∷ []) lines left
one_line made line lines left parts is = record { front = line ∷ []; parts = parts; are = (is, tt) }

-- all lines are the machine's
pub all_are : (made lines : List (List ℕ)) → GoesOn made lines [] → AreLinesOf made lines
all_are made lines goes_on = subst (λ (ls : List (List ℕ)). AreLinesOf made ls) (sym (goes_on.parts ∙ append-nil goes_on.front)) goes_on.are

-- the next one isn't
pub parts_there : (made done next lines left : List (List ℕ)) → made ≡ done ++ next → GoesOn done lines left → PartAtOnce next left → PartAt made lines left
parts_there made done next lines left made_parts goes_on part = record { done = done; next = next; made_parts = made_parts; goes_on = goes_on; part = part }

-- ---- what the code finds

-- a line that begins as a command that couldn't be started
pub line_by : (made line own other : List ℕ) (same : Bool) → made ≡ codes "started " ++ own → line ≡ codes "unstarted " ++ other → (line ≡ made → ⊥) → Decides same (other ≡ own) → (IsTrue same → IsLineOf made line) × (IsLineOf made line → IsTrue same)
line_by made line own other same is is' another decides = (
  (λ true_. inr (own, is, is' ∙ ap (λ text. codes "unstarted " ++ text) (decides.0 true_))),
  λ are. elim are [
    | inl e ↦ absurd (another e)
    | inr command ↦ decides.1 (same_field (codes "unstarted ") other command.0 (sym is' ∙ command.2) ∙ same_field (codes "started ") command.0 own (sym command.1 ∙ is))
  ],
)

-- the line of an effect
pub effect_by : (lines made : List (List ℕ)) (own : List ℕ) (found : Option (Bor (List ℕ))) → own ∷ [] ≡ made
    → MatchOption found ((others : List (List ℕ)) → PartAtOnce (own ∷ others) lines) (λ rest. (line : List ℕ) × (lines ≡ line ∷ lines_of rest.now) × IsLineOf own line)
    → MatchOption found ((others : List (List ℕ)) → PartAtOnce (made ++ others) lines) (λ rest. GoesOn made lines (lines_of rest.now))
effect_by lines made own None is part = λ others. subst (λ (ls : List (List ℕ)). PartAtOnce (ls ++ others) lines) is (part others)
effect_by lines made own (Some rest) is (line, parts, line_is) = subst (λ (ls : List (List ℕ)). GoesOn ls lines (lines_of rest.now)) is (one_line own line lines (lines_of rest.now) parts line_is)

pub stops : (effects front : List Effect) (effect : Effect) (rest : List Effect) (lines left : List (List ℕ)) (n : ℕ) → front ++ effect ∷ rest ≡ effects → GoesOn (run_lines (items front)) lines left → ((others : List (List ℕ)) → PartAtOnce (run_lines (item_of effect) ++ others) left) → n ≡ length left → PartWith (run_lines (items effects)) lines n
stops effects front effect rest lines left n parts goes_on part number =
    subst (λ (es : List Effect). PartWith (run_lines (items es)) lines n) parts
    (left, parts_there (run_lines (items (front ++ effect ∷ rest))) (run_lines (items front)) (run_lines (item_of effect) ++ run_lines (items rest)) lines left (effects_lines front effect rest) goes_on (part (run_lines (items rest))), number)

pub one_further : (effects front : List Effect) (effect : Effect) (lines left rest : List (List ℕ)) → front ++ effect ∷ [] ≡ effects → GoesOn (run_lines (items front)) lines left → GoesOn (run_lines (item_of effect)) left rest → GoesOn (run_lines (items effects)) lines rest
one_further effects front effect lines left rest parts one two =
    subst (λ (es : List Effect). GoesOn (run_lines (items es)) lines rest) parts
    (subst (λ (ls : List (List ℕ)). GoesOn ls lines rest) (sym (one_more front effect)) (goes_further (run_lines (items front)) (run_lines (item_of effect)) lines left rest one two))

-- no effect is left
none_left : (lines : List (List ℕ)) → length lines ≡ 0 → lines ≡ []
none_left [] e = refl
none_left (line ∷ lines) e = absurd (omega (arith, e))

pub all_found : (made lines left : List (List ℕ)) (n : ℕ) → GoesOn made lines left → n ≡ length left → n ≡ 0 → AreLinesOf made lines
all_found made lines left n goes_on number none = all_are made lines (subst (λ (ls : List (List ℕ)). GoesOn made lines ls) (none_left left (sym number ∙ none)) goes_on)

more_part : (left : List (List ℕ)) → (length left ≡ 0 → ⊥) → PartAtOnce [] left
more_part [] some = absurd (some refl)
more_part (line ∷ left) some = tt

pub more_found : (made lines left : List (List ℕ)) (n : ℕ) → GoesOn made lines left → n ≡ length left → (n ≡ 0 → ⊥) → PartWith made lines n
more_found made lines left n goes_on number some =
    (left, parts_there made made [] lines left (sym (append-nil made)) goes_on (more_part left (λ none. some (number ∙ none))), number)

-- ---- one parting

-- where they part at once, they aren't the same and go on no further
parted : (next rest made lines more others : List (List ℕ)) → next ≡ made ++ more → rest ≡ lines ++ others → AreLinesOf made lines → PartAtOnce next rest → lines ≡ []
parted next rest made [] more others is is' are part = refl
parted next rest [] (line ∷ lines) more others is is' are part = absurd are
parted next rest (own ∷ made) (line ∷ lines) more others is is' are part =
    absurd ((rw (is, is') at part) are.0)

pub same_length : (done next same rest done' next' same' rest' : List (List ℕ)) → done ++ next ≡ done' ++ next' → same ++ rest ≡ same' ++ rest' → AreLinesOf done same → AreLinesOf done' same' → PartAtOnce next rest → PartAtOnce next' rest' → length same ≡ length same'
same_length [] next [] rest done' next' same' rest' e e' are are' part part' = ap length (sym (parted next rest done' same' next' rest' e e' are' part))
same_length [] next (line ∷ same) rest done' next' same' rest' e e' are are' part part' = absurd are
same_length (own ∷ done) next [] rest done' next' same' rest' e e' are are' part part' = absurd are
same_length (own ∷ done) next (line ∷ same) rest [] next' [] rest' e e' are are' part part' =
    ap length (parted next' rest' (own ∷ done) (line ∷ same) next rest (sym e) (sym e') are part')
same_length (own ∷ done) next (line ∷ same) rest [] next' (line' ∷ same') rest' e e' are are' part part' = absurd are'
same_length (own ∷ done) next (line ∷ same) rest (own' ∷ done') next' [] rest' e e' are are' part part' = absurd are'
same_length (own ∷ done) next (line ∷ same) rest (own' ∷ done') next' (line' ∷ same') rest' e e' are are' part part' =
    omega (arith, same_length done next same rest done' next' same' rest' (same_tail own own' (done ++ next) (done' ++ next') e) (same_tail line line' (same ++ rest) (same' ++ rest') e') are.1 are'.1 part part')

-- what is the same doesn't part
pub never_part : (done next same rest : List (List ℕ)) → AreLinesOf (done ++ next) (same ++ rest) → AreLinesOf done same → PartAtOnce next rest → ⊥
never_part [] [] [] [] all are part = part
never_part [] [] [] (line ∷ rest) all are part = all
never_part [] (own ∷ next) [] [] all are part = all
never_part [] (own ∷ next) [] (line ∷ rest) all are part = part all.0
never_part [] next (line ∷ same) rest all are part = absurd are
never_part (own ∷ done) next [] rest all are part = absurd are
never_part (own ∷ done) next (line ∷ same) rest all are part = never_part done next same rest all.1 are.1 part
