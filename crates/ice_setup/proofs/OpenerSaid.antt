-- The cookie's answer has a spelling that is not too long.
use Rattle.std.proofs.Common.{ℕ, ◌≤◌, List, length, arith, inl, inr}
use Rattle.ice_values.specs.declared.numbers.Endian.TheVariants.{Lsb}
use Rattle.ice_values.proofs.LengthLaws.{length-proof_data}
use Rattle.ice_messages.specs.Messages.{IsTooLong}
use Rattle.ice_messages.specs.declared.message.IceMessage.TheVariants.{AuthenticationReply}

pub proof_said : (proof : List ℕ) → length proof ≤ 65528 → ¬ (IsTooLong Lsb (AuthenticationReply proof))
proof_said proof few = λ too_long. elim too_long [ inl long_part ↦ omega (arith, few) | inr long ↦ omega (arith, length-proof_data Lsb proof, few) ]
