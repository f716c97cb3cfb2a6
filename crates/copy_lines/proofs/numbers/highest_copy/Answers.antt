use Rattle.std.proofs.Common.{ℕ, List, [], ◌∷◌, ◌++◌, arith, map, string_bytes, subst, sym, take}
use Rattle.copy_lines.specs.Numbers.{IsCopy, IsHighest}
use Rattle.copy_lines.proofs.NumberLaws.{higher, not_higher, not_one, one_more}
use Rattle.copy_lines.proofs.numbers.highest_copy.Goals.{in-Some+then-highest-number, in-Some+else-highest-number, in_default}
use Rattle.copy_lines.proofs.numbers.highest_copy.Goals as goal

pub loop-entry-preserved : goal.loop-entry-preserved
loop-entry-preserved c =
    let seen : List (List ℕ) = map string_bytes (take c.loop-entry.entry-index c.args.entries.now) in
    let entry : List ℕ = string_bytes c.entry-item.result in
    let so : ℕ → Type 0 = λ h. IsHighest c.args.name.now (seen ++ entry ∷ []) h in
    subst (λ (es : List (List ℕ)). IsHighest c.args.name.now es c.match-branch-2.highest)
    (sym (one_more _ string_bytes c.args.entries.now c.loop-entry.entry-index c.entry-item.result c.loop-entry-test.true c.entry-item.is))
    (elim c.match-branch-2.branch [
      | in-Some+then-highest-number w ↦ subst so (sym w.highest-is)
          (higher c.args.name.now seen entry c.loop-entry.highest w.in-Some.number c.loop-entry.invariant (subst (λ (e : List ℕ). IsCopy c.args.name.now e w.in-Some.number) c.as_str.ensures.value (rw w.in-Some.is at c.in_ok-number.ensures)) w.if-highest-number.true)
      | in-Some+else-highest-number w ↦ subst so (sym w.highest-is)
          (not_higher c.args.name.now seen entry c.loop-entry.highest w.in-Some.number c.loop-entry.invariant (subst (λ (e : List ℕ). IsCopy c.args.name.now e w.in-Some.number) c.as_str.ensures.value (rw w.in-Some.is at c.in_ok-number.ensures)) (omega (arith, w.if-highest-number.false)))
      | in_default w ↦ subst so (sym w.highest-is)
          (not_one c.args.name.now seen entry c.loop-entry.highest c.loop-entry.invariant (subst (λ (e : List ℕ). (n : ℕ) → ¬ (IsCopy c.args.name.now e n)) c.as_str.ensures.value (rw w.in_default.is at c.in_ok-number.ensures)))
    ])
