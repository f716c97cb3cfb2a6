use Rattle.std.proofs.Common.{◌≡◌, ℕ, ◌<◌, ◌^◌, true, false, List, [], ◌∷◌, ◌++◌, Some, ◌∙◌, ap, sym, refl, drop, codes, length, arith}
use Rattle.std.specs.Prelude.{◌==◌}
use Rattle.std.proofs.lemmas.Bool.Decides.{Decides-eqb}
use Rattle.std.proofs.lemmas.List.{append-nil}
use Rattle.std.proofs.lemmas.Slice.Eq.{strip_prefix_is}
use Rattle.checkpoint_records.specs.Rules.{hex8}
use Rattle.checkpoint_records.proofs.FindLaws.{found_is, none_found}
use Rattle.checkpoint_records.proofs.IdLaws.{id_rest, id_made}
use Rattle.checkpoint_records.proofs.ids.epoch_of.Goals as goal

none_left : (l : List ℕ) → (length l == 0) ≡ true → l ≡ []
none_left [] e = refl
none_left (x ∷ l) e = absurd (omega (arith, (Decides-eqb (length (x ∷ l)) 0).0 e))

some_left : (l : List ℕ) → l ≡ [] → (length l == 0) ≡ false → ⊥
some_left [] is e = absurd (let t : true ≡ false = e in cc)
some_left (x ∷ l) is e = omega (arith, ap length is)

pub returns-in_err-text-3-clause-only : goal.returns-in_err-text-3-clause-only
returns-in_err-text-3-clause-only c = λ epoch n lt lt_n is.
    let first = found_is hex8 (λ n. n < 2 ^ 32) c.in_ok-text.text.now c.in_ok-epoch.epoch epoch c.in_ok-epoch.text.now (45 ∷ hex8 n) c.in_ok-epoch.ensures lt (c.in_ok-text.ensures.cases.1 ∙ id_rest epoch n c.args.id.now is) in
    absurd (none_found hex8 (λ n. n < 2 ^ 32) c.in_ok-text-2.text.now n [] c.in_err-text-3.ensures lt_n (c.in_ok-text-2.ensures.cases.1 ∙ ap (drop 1) first.1 ∙ sym (append-nil (hex8 n))))

pub returns-then-is_empty-clause-some : goal.returns-then-is_empty-clause-some
returns-then-is_empty-clause-some c =
    let first = strip_prefix_is Decides-eqb c.args.id.now (codes "smd-") (Some c.in_ok-text.text) c.in_ok-text.ensures.cases in
    let third = strip_prefix_is Decides-eqb c.in_ok-epoch.text.now (codes "-") (Some c.in_ok-text-2.text) c.in_ok-text-2.ensures.cases in
    let empty : c.in_ok-text-3.text.now ≡ [] = none_left c.in_ok-text-3.text.now (sym c.if-is_empty.ensures) in (
      c.in_ok-text-3.field-0-0,
      c.in_ok-text-3.ensures.some.0,
      id_made c.in_ok-epoch.epoch c.in_ok-text-3.field-0-0 c.args.id.now c.in_ok-text.text.now c.in_ok-epoch.text.now c.in_ok-text-2.text.now first c.in_ok-epoch.ensures.some.1 third
          (c.in_ok-text-3.ensures.some.1 ∙ ap (λ (l : List ℕ). hex8 c.in_ok-text-3.field-0-0 ++ l) empty),
    )

pub returns-else-is_empty-clause-only : goal.returns-else-is_empty-clause-only
returns-else-is_empty-clause-only c = λ epoch n lt lt_n is.
    let first = found_is hex8 (λ n. n < 2 ^ 32) c.in_ok-text.text.now c.in_ok-epoch.epoch epoch c.in_ok-epoch.text.now (45 ∷ hex8 n) c.in_ok-epoch.ensures lt (c.in_ok-text.ensures.cases.1 ∙ id_rest epoch n c.args.id.now is) in
    let second = found_is hex8 (λ n. n < 2 ^ 32) c.in_ok-text-2.text.now c.in_ok-text-3.field-0-0 n c.in_ok-text-3.text.now [] c.in_ok-text-3.ensures lt_n (c.in_ok-text-2.ensures.cases.1 ∙ ap (drop 1) first.1 ∙ sym (append-nil (hex8 n))) in
    absurd (some_left c.in_ok-text-3.text.now second.1 (sym c.if-is_empty.ensures))
