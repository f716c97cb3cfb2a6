use Rattle.std.proofs.Common.{◌≡◌, ◌-◌, ◌<◌, ◌∙◌, ◌∷◌, [], false, true, refl, List, length, take, drop, sym, subst, arith}
use Rattle.std.specs.List.{IsDistinct}
use Rattle.owned_lists.specs.declared.commands.Command.{Command}
use Rattle.checkpoint_records.specs.Books.{same_command}
use Rattle.checkpoint_records.proofs.DistinctLaws.{distinct_cons, distinct_nil, distinct_tail, first_and_rest}
use Rattle.checkpoint_changes.proofs.rules.are_distinct.Goals as goal

none_at_all : (left : List Command) → length left < 1 → IsDistinct same_command left
none_at_all [] lt = distinct_nil same_command
none_at_all (c ∷ left) lt = absurd (omega arith)

pub returns-then-is_one_of : goal.returns-then-is_one_of
returns-then-is_one_of c =
    let left = c.loop-left.left.now in
    let p = c.command-item.result in
    let others : List Command = take (length left - 1) (drop 1 left) in
    let e : left ≡ p ∷ others = first_and_rest left p c.in-len1-up.len_at_least c.command-item.is in (
      λ t. absurd cc,
      λ d.
          let none = (distinct_tail same_command p others (subst (IsDistinct same_command) e (c.loop-left.invariant.1 d))).1 in
          let t : true ≡ false = c.if-is_one_of.ensures ∙ none in
          absurd cc,
    )

pub loop-left-preserved : goal.loop-left-preserved
loop-left-preserved c =
    let left = c.loop-left.left.now in
    let p = c.command-item.result in
    let others : List Command = take (length left - 1) (drop 1 left) in
    let e : left ≡ p ∷ others = first_and_rest left p c.in-len1-up.len_at_least c.command-item.is in (
      λ d. c.loop-left.invariant.0 (subst (IsDistinct same_command) (sym e) (distinct_cons same_command p others (sym c.if-is_one_of.ensures) d)),
      λ d. (distinct_tail same_command p others (subst (IsDistinct same_command) e (c.loop-left.invariant.1 d))).0,
    )

pub returns : goal.returns
returns c = (λ t. c.loop-left.invariant.0 (none_at_all c.loop-left.left.now c.in_default.len_below), λ d. refl)
