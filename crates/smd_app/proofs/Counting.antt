-- What is counted of effects, one after the other.
use Rattle.std.proofs.Common.{◌≡◌, ℕ, ◌+◌, ◌<◌, List, [], ◌∷◌, ◌++◌, length, take, get_or, sym, ◌∙◌, ap, arith}
use Rattle.std.proofs.lemmas.List.{append-nil, take_more}
use Rattle.sm_world.specs.declared.effects.Effect.{Effect}
use Rattle.checkpoint_slots.specs.Turns.{opened_by, opened_in}
use Rattle.session_engine.specs.Doing.{item_of, items}
use Rattle.session_engine.specs.Machine.{Item}
use Rattle.smd_app.specs.Summaries.{came_in, sent_in}

came-append : (xs ys : List Item) → came_in (xs ++ ys) ≡ came_in xs + came_in ys
came-append [] ys = omega arith
came-append (x ∷ xs) ys = let rest = came-append xs ys in omega (arith, rest)

sent-append : (xs ys : List Item) → sent_in (xs ++ ys) ≡ sent_in xs + sent_in ys
sent-append [] ys = omega arith
sent-append (x ∷ xs) ys = let rest = sent-append xs ys in omega (arith, rest)

came-one : (xs : List Effect) (e : Effect) → came_in (items (xs ++ e ∷ [])) ≡ came_in (items xs) + came_in (item_of e)
came-one [] e = let same : came_in (item_of e ++ []) ≡ came_in (item_of e) = ap came_in (append-nil (item_of e)) in omega (arith, same)
came-one (x ∷ xs) e =
    let a : came_in (item_of x ++ items (xs ++ e ∷ [])) ≡ came_in (item_of x) + came_in (items (xs ++ e ∷ [])) = came-append (item_of x) (items (xs ++ e ∷ [])) in
    let b : came_in (items (xs ++ e ∷ [])) ≡ came_in (items xs) + came_in (item_of e) = came-one xs e in
    let c : came_in (item_of x ++ items xs) ≡ came_in (item_of x) + came_in (items xs) = came-append (item_of x) (items xs) in
    omega (arith, a, b, c)

sent-one : (xs : List Effect) (e : Effect) → sent_in (items (xs ++ e ∷ [])) ≡ sent_in (items xs) + sent_in (item_of e)
sent-one [] e = let same : sent_in (item_of e ++ []) ≡ sent_in (item_of e) = ap sent_in (append-nil (item_of e)) in omega (arith, same)
sent-one (x ∷ xs) e =
    let a : sent_in (item_of x ++ items (xs ++ e ∷ [])) ≡ sent_in (item_of x) + sent_in (items (xs ++ e ∷ [])) = sent-append (item_of x) (items (xs ++ e ∷ [])) in
    let b : sent_in (items (xs ++ e ∷ [])) ≡ sent_in (items xs) + sent_in (item_of e) = sent-one xs e in
    let c : sent_in (item_of x ++ items xs) ≡ sent_in (item_of x) + sent_in (items xs) = sent-append (item_of x) (items xs) in
    omega (arith, a, b, c)

opened-one : (xs : List Effect) (e : Effect) → opened_in (xs ++ e ∷ []) ≡ opened_in xs + opened_by e
opened-one [] e = omega arith
opened-one (x ∷ xs) e = let rest = opened-one xs e in omega (arith, rest)

grown : (effects : List Effect) (i : ℕ) (effect : Effect) → i < length effects → effect ≡ get_or effects i effect → take (i + 1) effects ≡ take i effects ++ effect ∷ []
grown effects i effect inside is = take_more effects i effect inside ∙ ap (λ e. take i effects ++ e ∷ []) (sym is)

pub came_more : (effects : List Effect) (i : ℕ) (effect : Effect) (before after : ℕ) → i < length effects → effect ≡ get_or effects i effect → before ≡ came_in (items (take i effects)) → after ≡ before + came_in (item_of effect) → after ≡ came_in (items (take (i + 1) effects))
came_more effects i effect before after inside is so_far more =
    more ∙ (ap (λ n. n + came_in (item_of effect)) so_far ∙ (sym (came-one (take i effects) effect) ∙ ap (λ es. came_in (items es)) (sym (grown effects i effect inside is))))

pub sent_more : (effects : List Effect) (i : ℕ) (effect : Effect) (before after : ℕ) → i < length effects → effect ≡ get_or effects i effect → before ≡ sent_in (items (take i effects)) → after ≡ before + sent_in (item_of effect) → after ≡ sent_in (items (take (i + 1) effects))
sent_more effects i effect before after inside is so_far more =
    more ∙ (ap (λ n. n + sent_in (item_of effect)) so_far ∙ (sym (sent-one (take i effects) effect) ∙ ap (λ es. sent_in (items es)) (sym (grown effects i effect inside is))))

pub opened_more : (effects : List Effect) (i : ℕ) (effect : Effect) (before after : ℕ) → i < length effects → effect ≡ get_or effects i effect → before ≡ opened_in (take i effects) → after ≡ before + opened_by effect → after ≡ opened_in (take (i + 1) effects)
opened_more effects i effect before after inside is so_far more =
    more ∙ (ap (λ n. n + opened_by effect) so_far ∙ (sym (opened-one (take i effects) effect) ∙ ap opened_in (sym (grown effects i effect inside is))))
