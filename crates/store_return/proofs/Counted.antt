-- Of how many entries something is known, one entry after another.
use Rattle.std.proofs.Common.{◌≡◌, ℕ, ◌+◌, ◌<◌, ◌≤◌, Bool, true, false, List, [], ◌∷◌, ◌++◌, filter, length, take, slice_index_or, refl, sym, ap, ◌∙◌, arith, length-append}
use Rattle.std.specs.Prelude.{if◌then◌else◌}
use Rattle.std.proofs.lemmas.List.{take_all, take_more}
use Rattle.std.proofs.lemmas.List.Elements.{filter-append}
use Rattle.checkpoint_records.specs.declared.records.Book.{Book}
use Rattle.checkpoint_records.specs.declared.records.Entry.{Entry}
use Rattle.session_return.specs.Returns.{fate_of}
use Rattle.session_return.specs.declared.fates.Fate.{Fate}
use Rattle.store_return.specs.Lines.{how_many}

module _ (test : Fate → Bool) (present : Book) where
  one : (entry : Entry) → how_many test present (entry ∷ []) ≡ (if test (fate_of present entry) then 1 else 0)
  one entry = by (test (fate_of present entry)) refl
    where
      by : (b : Bool) → test (fate_of present entry) ≡ b → how_many test present (entry ∷ []) ≡ (if b then 1 else 0)
      by true e = rw e refl
      by false e = rw e refl

  both : (xs ys : List Entry) → how_many test present (xs ++ ys) ≡ how_many test present xs + how_many test present ys
  both xs ys =
      ap length (filter-append (λ (entry : Entry). test (fate_of present entry)) xs ys)
      ∙ length-append (filter (λ (entry : Entry). test (fate_of present entry)) xs) (filter (λ (entry : Entry). test (fate_of present entry)) ys)

  -- the next entry, of which this is known
  pub next_counted : (back : List Entry) (i : ℕ) (entry : Entry) (fate : Fate) (known : Bool) → i < length back → entry ≡ slice_index_or back i entry → fate ≡ fate_of present entry → test fate ≡ known
      → how_many test present (take (i + 1) back) ≡ how_many test present (take i back) + (if known then 1 else 0)
  next_counted back i entry fate known lt is told same =
      ap (how_many test present) (take_more back i entry lt ∙ ap (λ (x : Entry). take i back ++ x ∷ []) (sym is)) ∙ both (take i back) (entry ∷ [])
      ∙ ap (λ (n : ℕ). how_many test present (take i back) + n) (one entry ∙ ap (λ (b : Bool). if b then 1 else 0) (ap test (sym told) ∙ same))

  -- they are no more than the entries
  pub within : (xs : List Entry) → how_many test present xs ≤ length xs
  within [] = omega arith
  within (x ∷ xs) = by (test (fate_of present x)) refl (within xs)
    where
      by : (b : Bool) → test (fate_of present x) ≡ b → how_many test present xs ≤ length xs → how_many test present (x ∷ xs) ≤ length (x ∷ xs)
      by true e rest = rw e (omega (arith, rest))
      by false e rest = rw e (omega (arith, rest))

  pub all_counted : (back : List Entry) (i count : ℕ) → length back ≤ i → count ≡ how_many test present (take i back) → count ≡ how_many test present back
  all_counted back i count past so_far = so_far ∙ ap (how_many test present) (take_all i back past)
