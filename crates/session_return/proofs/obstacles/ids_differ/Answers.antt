use Rattle.std.proofs.Common.{◌≡◌, ◌-◌, ◌<◌, ◌∙◌, ◌∷◌, [], false, true, refl, ℕ, List, length, take, drop, sym, ap, subst, arith}
use Rattle.std.specs.List.{IsDistinct, list_any}
use Rattle.std.specs.Str.{bytes_eq}
use Rattle.checkpoint_records.specs.Rules.{ids_of}
use Rattle.checkpoint_records.specs.declared.records.Entry.{Entry}
use Rattle.checkpoint_records.proofs.DistinctLaws.{any_map, distinct_cons, distinct_nil, distinct_tail, first_and_rest}
use Rattle.session_return.proofs.obstacles.ids_differ.Goals as goal

abbrev Differ : List Entry → Type 0
Differ entries = IsDistinct bytes_eq (ids_of entries)

-- the ID of one entry among those of others
same_any : (id own : List ℕ) (others : List Entry) → id ≡ own → list_any (λ (entry : Entry). bytes_eq id entry.id) others ≡ list_any (bytes_eq own) (ids_of others)
same_any id own others is = ap (λ (i : List ℕ). list_any (λ (entry : Entry). bytes_eq i entry.id) others) is ∙ any_map (bytes_eq own) (λ (entry : Entry). entry.id) others

none_at_all : (left : List Entry) → length left < 1 → Differ left
none_at_all [] lt = distinct_nil bytes_eq
none_at_all (entry ∷ left) lt = absurd (omega arith)

pub returns-then-has_id : goal.returns-then-has_id
returns-then-has_id c =
    let left = c.loop-left.left.now in
    let p = c.entry-item.result in
    let others : List Entry = take (length left - 1) (drop 1 left) in
    let e : left ≡ p ∷ others = first_and_rest left p c.in-len1-up.len_at_least c.entry-item.is in (
      λ t. absurd cc,
      λ d.
          let none = (distinct_tail bytes_eq p.id (ids_of others) (subst Differ e (c.loop-left.invariant.1 d))).1 in
          let t : true ≡ false = c.if-has_id.ensures ∙ same_any c.as_slice.result.now p.id others c.as_slice.ensures ∙ none in
          absurd cc,
    )

pub loop-left-preserved : goal.loop-left-preserved
loop-left-preserved c =
    let left = c.loop-left.left.now in
    let p = c.entry-item.result in
    let others : List Entry = take (length left - 1) (drop 1 left) in
    let e : left ≡ p ∷ others = first_and_rest left p c.in-len1-up.len_at_least c.entry-item.is in (
      λ d. c.loop-left.invariant.0 (subst Differ (sym e) (distinct_cons bytes_eq p.id (ids_of others) (sym (c.if-has_id.ensures ∙ same_any c.as_slice.result.now p.id others c.as_slice.ensures)) d)),
      λ d. (distinct_tail bytes_eq p.id (ids_of others) (subst Differ e (c.loop-left.invariant.1 d))).0,
    )

pub returns : goal.returns
returns c = (λ t. c.loop-left.invariant.0 (none_at_all c.loop-left.left.now c.in_default.len_below), λ d. refl)
