-- The count of an ID that is raised in its place.
use Rattle.std.proofs.Common.{◌≡◌, ℕ, ◌+◌, ◌<◌, suc, Bool, true, cond, List, ◌∷◌, ◌++◌, length, take, drop, set, get_or, sym, ap, ◌∙◌, drop-cons}
use Rattle.std.specs.Str.{bytes_eq}
use Rattle.std.proofs.lemmas.List.{set_split}
use Rattle.session_state.specs.Session.{one_more_of}

head-raised : (id : List ℕ) (pair : List ℕ × ℕ) (n : ℕ) (rest : List (List ℕ × ℕ)) → bytes_eq id pair.0 ≡ true → n ≡ pair.1 + 1 → (pair.0, n) ∷ rest ≡ one_more_of id (pair ∷ rest)
head-raised id pair n rest e k = ap (λ (m : ℕ). (pair.0, m) ∷ rest) k ∙ sym (ap (λ (b : Bool). cond b ((pair.0, pair.1 + 1) ∷ rest) (pair ∷ one_more_of id rest)) e)

pub raised-at : (id : List ℕ) (pairs start : List (List ℕ × ℕ)) (i n : ℕ) (d : List ℕ × ℕ) → i < length pairs → bytes_eq id (get_or pairs i d).0 ≡ true → n ≡ (get_or pairs i d).1 + 1
    → take i pairs ++ one_more_of id (drop i pairs) ≡ one_more_of id start → set pairs i ((get_or pairs i d).0, n) ≡ one_more_of id start
raised-at id pairs start i n d within same more e =
    set_split pairs i ((get_or pairs i d).0, n) within
    ∙ ap (λ (rest : List (List ℕ × ℕ)). take i pairs ++ rest) (head-raised id (get_or pairs i d) n (drop (suc i) pairs) same more ∙ sym (ap (λ (rest : List (List ℕ × ℕ)). one_more_of id rest) (drop-cons pairs i d within)))
    ∙ e
