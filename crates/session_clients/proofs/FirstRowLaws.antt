-- Rows of other connections stay as they are when a connection registers, and so do all in front of its first row.
use Rattle.std.proofs.Common.{◌≡◌, ℕ, zero, suc, ◌≤◌, ◌==◌, ◌+◌, ◌++◌, Bool, true, false, List, [], ◌∷◌, length, Some, None, refl, sym, ap, ap₂, ◌∙◌, map, take, drop, arith}
use Rattle.std.specs.List.{position, position_or_len}
use Rattle.std.proofs.Math.Seq.{take_all}
use Rattle.std.proofs.lemmas.Grind.{common_steps}
use Rattle.std.proofs.lemmas.List.{map-append, take-append-drop}
use Rattle.ice_values.specs.declared.property.Property.{Property}
use Rattle.session_clients.specs.declared.client.Client.{Client}
use Rattle.session_clients.specs.Rows.{client_registered}

module _ (c : ℕ) (id : List ℕ) (table : List Property) where
  other-row : (k : Client) → (k.conn == c) ≡ false → client_registered c id table k ≡ k
  other-row k e =
      let apart : (c == k.conn) ≡ false = grind (arith, common_steps) in
      rw apart refl

  front-stays : (rows : List Client) (n : ℕ) → n ≡ position_or_len (λ k. k.conn == c) rows → map (client_registered c id table) (take n rows) ≡ take n rows
  front-stays rows zero at = refl
  front-stays [] (suc n) at = refl
  front-stays (k ∷ ks) (suc n) at = by (k.conn == c) refl (front-stays ks n)
    where
      by : (b : Bool) → (k.conn == c) ≡ b → (n ≡ position_or_len (λ k. k.conn == c) ks → map (client_registered c id table) (take n ks) ≡ take n ks)
          → map (client_registered c id table) (take (suc n) (k ∷ ks)) ≡ take (suc n) (k ∷ ks)
      by true e rest =
          let none : position_or_len (λ k. k.conn == c) (k ∷ ks) ≡ 0 = rw e refl in
          absurd (omega (arith, none, at))
      by false e rest =
          let more : position_or_len (λ k. k.conn == c) (k ∷ ks) ≡ 1 + position_or_len (λ k. k.conn == c) ks = rw e refl in
          ap₂ (λ x xs. x ∷ xs) (other-row k e) (rest (omega (arith, more, at)))

  -- where the first row of the connection is in this place
  pub from-first : (rows later : List Client) (n : ℕ) → position (λ k. k.conn == c) rows ≡ Some n → later ≡ map (client_registered c id table) (drop n rows) → take n rows ++ later ≡ map (client_registered c id table) rows
  from-first rows later n e is =
      let at : position_or_len (λ k. k.conn == c) rows ≡ n = grind (arith, common_steps) in
      ap₂ (λ front back. front ++ back) (sym (front-stays rows n (sym at))) is ∙ sym (map-append (client_registered c id table) (take n rows) (drop n rows)) ∙ ap (map (client_registered c id table)) (take-append-drop n rows)

  -- where it has none
  pub no-row : (rows : List Client) → position (λ k. k.conn == c) rows ≡ None → rows ≡ map (client_registered c id table) rows
  no-row rows e =
      let past : length rows ≤ position_or_len (λ k. k.conn == c) rows = grind (arith, common_steps) in
      let whole : take (position_or_len (λ k. k.conn == c) rows) rows ≡ rows = take_all (position_or_len (λ k. k.conn == c) rows) rows past in
      sym whole ∙ sym (front-stays rows (position_or_len (λ k. k.conn == c) rows) refl) ∙ ap (map (client_registered c id table)) whole
