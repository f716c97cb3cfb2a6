-- Two texts that were added one after the other.
use Rattle.std.proofs.Common.{◌≡◌, ℕ, List, ◌++◌, ◌∙◌, ap, append_assoc}

pub joined : (old one two mid new : List ℕ) → mid ≡ old ++ one → new ≡ mid ++ two → new ≡ old ++ (one ++ two)
joined old one two mid new first second = second ∙ (ap (λ front. front ++ two) first ∙ append_assoc old one two)
