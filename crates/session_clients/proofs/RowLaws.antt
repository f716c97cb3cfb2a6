-- What is said of a connection by its first row.
use Rattle.std.proofs.Common.{◌≡◌, ℕ, ◌==◌, Bool, true, false, cond, ◌||◌, List, [], ◌∷◌, refl, is_some}
use Rattle.std.specs.Prelude.{Option}
use Rattle.std.specs.List.{list_any}
use Rattle.interact_queue.specs.Queue.{is_in}
use Rattle.session_clients.specs.declared.client.Client.{Client}
use Rattle.session_model.specs.Phases.{is_owing}
use Rattle.session_clients.specs.Clients.{conns_in, part_in, phase_in}
use Rattle.session_clients.specs.Rows.{part_of, row_in}

pub part-row : {A : Type 0} (none : A) (part : Client → A) (c : ℕ) (rows : List Client) → part_in none part c rows ≡ part_of none part (row_in c rows)
part-row none part c [] = refl
part-row none part c (k ∷ ks) = by (k.conn == c) (part-row none part c ks)
  where
    by : (b : Bool) → part_in none part c ks ≡ part_of none part (row_in c ks) → cond b (part k) (part_in none part c ks) ≡ part_of none part (cond b (Option.Some k) (row_in c ks))
    by true rest = refl
    by false rest = rest

pub known-row : (c : ℕ) (rows : List Client) → is_in c (conns_in rows) ≡ is_some (row_in c rows)
known-row c [] = refl
known-row c (k ∷ ks) = by (k.conn == c) (known-row c ks)
  where
    by : (b : Bool) → is_in c (conns_in ks) ≡ is_some (row_in c ks) → (b || is_in c (conns_in ks)) ≡ is_some (cond b (Option.Some k) (row_in c ks))
    by true rest = refl
    by false rest = rest

row-owes : (c : ℕ) (rows : List Client) → list_any (λ (k : Client). is_owing k.phase) rows ≡ false → is_owing (phase_in c rows) ≡ false
row-owes c [] none = refl
row-owes c (k ∷ ks) none = by (k.conn == c) (is_owing k.phase) refl none (row-owes c ks)
  where
    by : (b owes : Bool) → is_owing k.phase ≡ owes → (owes || list_any (λ (k : Client). is_owing k.phase) ks) ≡ false → (list_any (λ (k : Client). is_owing k.phase) ks ≡ false → is_owing (phase_in c ks) ≡ false) → is_owing (cond b k.phase (phase_in c ks)) ≡ false
    by b true is none later = absurd cc
    by true false is none later = is
    by false false is none later = later none

-- where no row owes an answer, no connection does
pub nobody-owes : (conns : List ℕ) (rows : List Client) → list_any (λ (k : Client). is_owing k.phase) rows ≡ false → list_any (λ c. is_owing (phase_in c rows)) conns ≡ false
nobody-owes [] rows none = refl
nobody-owes (c ∷ conns) rows none = rw (row-owes c rows none) (nobody-owes conns rows none)
