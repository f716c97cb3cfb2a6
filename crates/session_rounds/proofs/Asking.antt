-- A request that takes the place of the one of its sender that waits.
use Rattle.std.proofs.Common.{◌≡◌, ℕ, ◌<◌, suc, Bool, true, cond, List, ◌∷◌, ◌++◌, length, take, drop, set, get_or, sym, ap, ◌∙◌, drop-cons}
use Rattle.std.proofs.lemmas.List.{set_split}
use Rattle.session_model.specs.declared.waits.Wait.{Wait}
use Rattle.session_model.specs.Waits.{is_sender, with_request}

pub placed-at : (c : ℕ) (request d : Wait) (waits start : List Wait) (i : ℕ) → i < length waits → is_sender c (get_or waits i d).owner ≡ true
    → take i waits ++ with_request c request (drop i waits) ≡ with_request c request start → set waits i request ≡ with_request c request start
placed-at c request d waits start i within same e =
    set_split waits i request within
    ∙ ap (λ (rest : List Wait). take i waits ++ rest)
    (sym (ap (λ (b : Bool). cond b (request ∷ drop (suc i) waits) (get_or waits i d ∷ with_request c request (drop (suc i) waits))) same) ∙ sym (ap (λ (rest : List Wait). with_request c request rest) (drop-cons waits i d within)))
    ∙ e
