use Rattle.std.proofs.Common.{◌≡◌, ℕ, true, slice_index, ap, sym, ◌∙◌}
use Rattle.checkpoint_slots.specs.Layout.{is_gate_open, is_open}
use Rattle.checkpoint_slots.specs.declared.layout.Slot.TheVariants.{First, Second}
use Rattle.checkpoint_slots.proofs.Looking.{settled-on}
use Rattle.checkpoint_slots.proofs.recovery.choose.Goals as goal

pub returns-in_ok-newer-in-true-true-clause-found : goal.returns-in_ok-newer-in-true-true-clause-found
returns-in_ok-newer-in-true-true-clause-found g c = λ file settled.
    let once = settled-on file c.in_ok-first.ensures.world settled in
    let twice = settled-on file c.in_ok-second.ensures.world once in
    let first : is_open file First ≡ true = sym (c.in_ok-first.ensures.open file settled ∙ ap (λ (n : ℕ). is_gate_open (slice_index file n)) c.gate.ensures) ∙ c.in-true-true.is-0 in
    let second : is_open file Second ≡ true = sym (c.in_ok-second.ensures.open file once ∙ ap (λ (n : ℕ). is_gate_open (slice_index file n)) c.gate-2.ensures) ∙ c.in-true-true.is-1 in
    c.in_ok-newer-in-true-true.ensures.found file twice (first, second)
