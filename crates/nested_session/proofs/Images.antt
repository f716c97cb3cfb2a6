-- What the outer connection adds leaves the store alone, and so does an order that is put: a crash leaves the same of both lists.
use Rattle.std.proofs.Common.{◌≡◌, ℕ, true, false, IsTrue, List, [], ◌∷◌, ◌++◌, slice_index, refl, sym, ap, subst, ◌∙◌}
use Rattle.std.specs.List.{AllByRecursion}
use Rattle.std.proofs.lemmas.Bool.{false≢true}
use Rattle.sm_world.specs.Crash.{Cell, LeavesStore, cell_after, cell_from, cell_of, settled}
use Rattle.sm_world.specs.declared.effects.Effect.{Effect}
use Rattle.sm_world.specs.declared.effects.Effect.TheVariants.{Heard, Printed, Published, Sent, Shut, Started, SyncFailed, Synced, Torn, Wrote}
use Rattle.sm_world.specs.declared.events.Event.TheVariants.{Operator}
use Rattle.sm_world.proofs.Cells.{cell_from-append, others_keep}
use Rattle.nested_session.specs.Nests.{BothLeaveTheSame, IsApart}
use Rattle.nested_session.specs.Woven.{Inner, Outer, Put, Woven, all_inner, effects_of, is_of_outer}

outer_leaves : (effect : Effect) → is_of_outer effect ≡ true → LeavesStore effect
outer_leaves (Heard event) e = tt
outer_leaves (Sent conn bytes) e = tt
outer_leaves (Shut conn) e = tt
outer_leaves (Started command succeeded) e = tt
outer_leaves (Wrote at bytes) e = absurd (false≢true e)
outer_leaves (Torn at n) e = absurd (false≢true e)
outer_leaves Synced e = absurd (false≢true e)
outer_leaves SyncFailed e = tt
outer_leaves (Published path bytes) e = tt
outer_leaves (Printed text) e = tt

same_cell : (cell : Cell) (all : List (Woven Effect)) (i : ℕ) → AllByRecursion IsApart all → cell_from cell (effects_of all) i ≡ cell_from cell (all_inner all) i
same_cell cell [] i apart = refl
same_cell cell (Inner effect ∷ all) i apart = same_cell (cell_after effect i cell) all i apart.1
same_cell cell (Outer effect ∷ all) i apart = ap (λ (c : Cell). cell_from c (effects_of all) i) (others_keep effect i cell (outer_leaves effect apart.0)) ∙ same_cell cell all i apart.1
same_cell cell (Put order ∷ all) i apart = same_cell cell all i apart.1 ∙ ap (λ (c : Cell). cell_from c (all_inner all) i) (sym (others_keep (Heard (Operator order)) i cell tt))

pub same_cells : (first : List ℕ) (before : List Effect) (all : List (Woven Effect)) (i : ℕ) → AllByRecursion IsApart all → cell_of first (before ++ effects_of all) i ≡ cell_of first (before ++ all_inner all) i
same_cells first before all i apart =
    let begin : Cell = settled (slice_index first i) in
    cell_from-append begin before (effects_of all) i ∙ same_cell (cell_from begin before i) all i apart ∙ sym (cell_from-append begin before (all_inner all) i)

pub leave_the_same : BothLeaveTheSame
leave_the_same first before all apart file = (
  λ image. record { size = image.size; bytes = λ i within. subst (λ (c : Cell). IsTrue (c.left (slice_index file i))) (same_cells first before all i apart) (image.bytes i within) },
  λ image. record { size = image.size; bytes = λ i within. subst (λ (c : Cell). IsTrue (c.left (slice_index file i))) (sym (same_cells first before all i apart)) (image.bytes i within) },
)
