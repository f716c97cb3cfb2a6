-- What each step of the reader says of all words.
use Rattle.std.proofs.Common.{◌≡◌, ◌≢◌, ℕ, ◌+◌, ◌<◌, ◌≤◌, List, [], ◌∷◌, drop, length, Some, None, Bool, true, false, if◌then◌else◌, sym, ◌∙◌, ap, subst, codes, arith, length-drop, drop_of_length-le}
use Rattle.serve_words.specs.Items.{Item, spelling}
use Rattle.serve_words.specs.Words.{Chosen, Say}
use Rattle.serve_words.specs.Reading.{BeginWith, StandsAt, none_chosen, with_item}
use Rattle.serve_words.proofs.Going.{Agree, agree_self, agree_both, agree_on, stops, fails, ends, says, said}

-- at the beginning nothing is chosen
pub starts : (chosen : Chosen) (words : List (List ℕ)) → chosen ≡ none_chosen → Agree none_chosen words chosen words
starts chosen words none = subst (λ it. Agree none_chosen words it words) (sym none) (agree_self none_chosen words)

-- an item is taken
pub takes : (ws : List (List ℕ)) (at next : ℕ) (before after : Chosen) (item : Item) (new : Bool) → StandsAt ws at item → next ≡ at + length (spelling item) → new ≡ true → (if new then Some after else None) ≡ with_item before item → Agree none_chosen (drop 1 ws) before (drop at ws) → Agree none_chosen (drop 1 ws) after (drop next ws)
takes ws at next before after item new stands is_next is_new made agree =
    let taken : with_item before item ≡ Some after = sym made ∙ ap (λ b. if b then Some after else None) is_new in
    let rest : Agree before (drop at ws) after (drop next ws) = subst (λ n. Agree before (drop at ws) after (drop n ws)) (sym is_next) (agree_on before after item (drop at ws) (drop (at + length (spelling item)) ws) stands.spelled stands.fits taken) in
    agree_both none_chosen before after (drop 1 ws) (drop at ws) (drop next ws) agree rest

-- an item isn't taken
pub refuses : (ws : List (List ℕ)) (at : ℕ) (before after : Chosen) (item : Item) (new : Bool) → StandsAt ws at item → new ≡ false → (if new then Some after else None) ≡ with_item before item → Agree none_chosen (drop 1 ws) before (drop at ws) → (chosen : Chosen) → ¬ (Say ws chosen)
refuses ws at before after item new stands is_old made agree chosen say =
    let old : with_item before item ≡ None = sym made ∙ ap (λ b. if b then Some after else None) is_old in
    stops before chosen item (drop at ws) (drop (at + length (spelling item)) ws) stands.spelled stands.fits old ((agree chosen).0 (said ws chosen say))

some_left : (ws : List (List ℕ)) (at : ℕ) → at < length ws → drop at ws ≢ []
some_left ws at few none = omega (arith, few, length-drop at ws, ap length none)

-- no item begins
pub misses : (ws : List (List ℕ)) (at : ℕ) (before : Chosen) → at < length ws → ((item : Item) → ¬ (BeginWith (drop at ws) item)) → Agree none_chosen (drop 1 ws) before (drop at ws) → (chosen : Chosen) → ¬ (Say ws chosen)
misses ws at before few none agree chosen say = fails before chosen (drop at ws) (some_left ws at few) none ((agree chosen).0 (said ws chosen say))

-- all words are read
pub finishes : (ws : List (List ℕ)) (at : ℕ) (chosen : Chosen) → length ws ≤ at → ws ≡ codes "serve" ∷ drop 1 ws → Agree none_chosen (drop 1 ws) chosen (drop at ws) → Say ws chosen
finishes ws at chosen all begins agree = says ws chosen begins ((agree chosen).1 (ends chosen (drop at ws) (drop_of_length-le ws all)))
