-- How the list of the registered IDs is used.
use Rattle.std.proofs.Common.{◌≡◌, ℕ, ◌<◌, ◌+◌, Bool, true, false, cond, List, [], ◌∷◌, ◌++◌, length, Option, Some, None, refl, sym, ap, ◌∙◌, map, drop, slice_index_or}
use Rattle.std.specs.Prelude.{filter_map, find, option_map}
use Rattle.std.specs.List.{cons_option}
use Rattle.std.specs.Str.{bytes_eq}
use Rattle.std.proofs.lemmas.List.{append_assoc, drop_more, map-append}
use Rattle.session_model.specs.Reading.{Clients, client_of, has_that_id}
use Rattle.session_clients.specs.declared.registered_ids.RegisteredId.{RegisteredId}
use Rattle.session_clients.specs.Ids.{Registered, conn_of, registered_ids, registered_under}

-- the first registered connection with an ID, by the list of those that have one
pub conn-client : (id : List ℕ) (clients : Clients) → conn_of id (registered_ids clients) ≡ client_of id clients
conn-client id clients = among clients.registered
  where
    step : (c : ℕ) (cs : List ℕ) (o : Option (List ℕ)) → conn_of id (filter_map (λ c. option_map (registered_under c) (clients.id c)) cs) ≡ find (λ c. has_that_id id (clients.id c)) cs
        → conn_of id (cons_option (option_map (registered_under c) o) (filter_map (λ c. option_map (registered_under c) (clients.id c)) cs)) ≡ cond (has_that_id id o) (Some c) (find (λ c. has_that_id id (clients.id c)) cs)
    step c cs None rest = rest
    step c cs (Some other) rest = ap (cond (bytes_eq id other) (Some c)) rest

    among : (cs : List ℕ) → conn_of id (filter_map (λ c. option_map (registered_under c) (clients.id c)) cs) ≡ find (λ c. has_that_id id (clients.id c)) cs
    among [] = refl
    among (c ∷ cs) = step c cs (clients.id c) (among cs)

-- the first of these with an ID is found by the ID
pub conn-find : (id : List ℕ) (ids : List RegisteredId) → conn_of id (map (λ k. registered_under k.conn k.id) ids) ≡ option_map (λ k. k.conn) (find (λ k. bytes_eq id k.id) ids)
conn-find id [] = refl
conn-find id (k ∷ ks) = step (bytes_eq id k.id) (conn-find id ks)
  where
    step : (b : Bool) → conn_of id (map (λ k. registered_under k.conn k.id) ks) ≡ option_map (λ k. k.conn) (find (λ k. bytes_eq id k.id) ks)
        → cond b (Some k.conn) (conn_of id (map (λ k. registered_under k.conn k.id) ks)) ≡ option_map (λ k. k.conn) (cond b (Some k) (find (λ k. bytes_eq id k.id) ks))
    step true rest = refl
    step false rest = rest

-- one more connection is looked at: it has an ID, or has none
module _ (under : ℕ → Option Registered) (cs : List ℕ) (i : ℕ) (inside : i < length cs) where
  step-more : filter_map under (drop i cs) ≡ cons_option (under (slice_index_or cs i 0)) (filter_map under (drop (i + 1) cs))
  step-more = ap (filter_map under) (drop_more cs i 0 inside)

  pub one-known : (ids : List RegisteredId) (k : RegisteredId) → under (slice_index_or cs i 0) ≡ Some (registered_under k.conn k.id) → map (λ k. registered_under k.conn k.id) ids ++ filter_map under (drop i cs) ≡ filter_map under cs
      → map (λ k. registered_under k.conn k.id) (ids ++ k ∷ []) ++ filter_map under (drop (i + 1) cs) ≡ filter_map under cs
  one-known ids k known before =
      ap (λ (xs : List Registered). xs ++ filter_map under (drop (i + 1) cs)) (map-append (λ (k : RegisteredId). registered_under k.conn k.id) ids (k ∷ []))
      ∙ append_assoc (map (λ (k : RegisteredId). registered_under k.conn k.id) ids) (registered_under k.conn k.id ∷ []) (filter_map under (drop (i + 1) cs))
      ∙ ap (λ (xs : List Registered). map (λ (k : RegisteredId). registered_under k.conn k.id) ids ++ xs) (sym (step-more ∙ ap (λ o. cons_option o (filter_map under (drop (i + 1) cs))) known))
      ∙ before

  pub none-known : (ids : List RegisteredId) → under (slice_index_or cs i 0) ≡ None → map (λ k. registered_under k.conn k.id) ids ++ filter_map under (drop i cs) ≡ filter_map under cs
      → map (λ k. registered_under k.conn k.id) ids ++ filter_map under (drop (i + 1) cs) ≡ filter_map under cs
  none-known ids none before =
      ap (λ (xs : List Registered). map (λ (k : RegisteredId). registered_under k.conn k.id) ids ++ xs) (sym (step-more ∙ ap (λ o. cons_option o (filter_map under (drop (i + 1) cs))) none))
      ∙ before
