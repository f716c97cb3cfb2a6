-- A count that goes on rises, or stands at its end.
use Rattle.std.proofs.Common.{arith, inl, inr, ℕ, ◌≤◌}
use Rattle.sm_world.specs.Calls.{one_more}
use Rattle.sm_world.specs.Outside.{Rose}

pub rises : (n : ℕ) → Rose n (one_more n)
rises n = grind arith

-- a count that rose since a later moment rose since an earlier one
pub rose_since : (first before after : ℕ) → first ≤ before → Rose before after → Rose first after
rose_since first before after kept (inl rose) = inl (omega (arith, kept, rose))
rose_since first before after kept (inr most) = inr most
