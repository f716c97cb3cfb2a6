-- How often the client of each ID was started again at once, as it is held and as a history says it.
use Rattle.std.proofs.Common.{◌≡◌, refl, ℕ, ◌+◌, Bool, true, false, cond, List, [], ◌∷◌, sym, ap, ◌∙◌, arith}
use Rattle.std.specs.Str.{bytes_eq}
use Rattle.std.specs.Cmp.Lexicographic.{same_text}
use Rattle.session_model.specs.Moves.{Cause, History, Move, Respawn, Tried, ◌▷◌}
use Rattle.session_model.specs.Readings as of
use Rattle.session_state.specs.Session.{counted, counts_after, one_more_of}

-- a: the pair is of the ID that is counted; b: it is of the ID that is asked for; s: these are one ID
more-at : (a b s : Bool) (n rest more : ℕ) → more ≡ cond s (rest + 1) rest → (a ≡ true → b ≡ s) → (b ≡ true → s ≡ true → a ≡ true)
    → cond a (cond b (n + 1) rest) (cond b n more) ≡ cond s (cond b n rest + 1) (cond b n rest)
more-at true true true n rest more e k l = refl
more-at true true false n rest more e k l = absurd (grind (arith, k refl))
more-at true false true n rest more e k l = absurd (grind (arith, k refl))
more-at true false false n rest more e k l = refl
more-at false true true n rest more e k l = absurd (grind (arith, l refl refl))
more-at false true false n rest more e k l = refl
more-at false false s n rest more e k l = e

counted-at : (a : Bool) (id key : List ℕ) (n : ℕ) (pairs more : List (List ℕ × ℕ)) → counted id (cond a ((key, n + 1) ∷ pairs) ((key, n) ∷ more)) ≡ cond a (cond (bytes_eq id key) (n + 1) (counted id pairs)) (cond (bytes_eq id key) n (counted id more))
counted-at true id key n pairs more = refl
counted-at false id key n pairs more = refl

-- two IDs are one where both are a third
of-key : (id other key : List ℕ) → bytes_eq other key ≡ true → bytes_eq id key ≡ bytes_eq id other
of-key id other key e = ap (λ (x : List ℕ). bytes_eq id x) (sym (same_text other key (sym e)))

same-key : (id other key : List ℕ) → bytes_eq id key ≡ true → bytes_eq id other ≡ true → bytes_eq other key ≡ true
same-key id other key e f = ap (λ (x : List ℕ). bytes_eq x key) (sym (same_text id other (sym f))) ∙ e

counted-more : (id other : List ℕ) (counts : List (List ℕ × ℕ)) → counted id (one_more_of other counts) ≡ cond (bytes_eq id other) (counted id counts + 1) (counted id counts)
counted-more id other [] = refl
counted-more id other (pair ∷ counts) =
    counted-at (bytes_eq other pair.0) id pair.0 pair.1 counts (one_more_of other counts)
    ∙ more-at (bytes_eq other pair.0) (bytes_eq id pair.0) (bytes_eq id other) pair.1 (counted id counts) (counted id (one_more_of other counts)) (counted-more id other counts)
    (of-key id other pair.0) (same-key id other pair.0)

counted-cause : (cause : Cause) (command : _) (id : List ℕ) (counts : List (List ℕ × ℕ)) → counted id (counts_after (Tried cause command) counts) ≡ of.respawned_by id cause (counted id counts)
counted-cause (Respawn other) command id counts = counted-more id other counts
counted-cause cause command id counts = refl

pub counted-step : (m : Move) (id : List ℕ) (counts : List (List ℕ × ℕ)) (h : History) → counted id counts ≡ of.respawns id h → counted id (counts_after m counts) ≡ of.respawns id (m ▷ h)
counted-step (Tried cause command) id counts h e = counted-cause cause command id counts ∙ ap (λ (n : ℕ). of.respawned_by id cause n) e
counted-step m id counts h e = e
