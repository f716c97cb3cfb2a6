-- A message that a state of the opener has no cell of its own for.
use Rattle.std.proofs.Common.{◌≡◌, ℕ, List, refl}
use Rattle.ice_messages.specs.declared.message.IceMessage.{IceMessage}
use Rattle.ice_messages.specs.declared.message.IceMessage.TheVariants.{AuthenticationRequired, ConnectionReply, ProtocolReply}
use Rattle.ice_setup.specs.Opener.{opening_cell, other_cell, setup_cell}
use Rattle.ice_setup.specs.declared.errors.Offending.{Offending}
use Rattle.ice_setup.specs.declared.opener.OpenSetup.{OpenSetup}
use Rattle.ice_setup.specs.declared.opener.OpenProtocol.{OpenProtocol}
use Rattle.ice_setup.specs.declared.opener.AnyOpener.TheVariants.{OpenSetup as AtSetup, OpenProtocol as AtProtocol}

-- the message is none of this kind
abbrev pub NoDemand : IceMessage → Type 0
NoDemand m = (index : ℕ) (proof : List ℕ) → m ≡ AuthenticationRequired index proof → ⊥

abbrev pub NoConnectionReply : IceMessage → Type 0
NoConnectionReply m = (index : ℕ) (vendor release : List ℕ) → m ≡ ConnectionReply index vendor release → ⊥

abbrev pub NoProtocolReply : IceMessage → Type 0
NoProtocolReply m = (index opcode : ℕ) (vendor release : List ℕ) → m ≡ ProtocolReply index opcode vendor release → ⊥

pub other-opening_setup : (s : OpenSetup) (m : IceMessage) (o : Offending) → NoDemand m → NoConnectionReply m → other_cell (AtSetup s) m o ≡ setup_cell s m o
other-opening_setup s (AuthenticationRequired index proof) o none others = absurd (none index proof refl)
other-opening_setup s (ConnectionReply index vendor release) o none others = absurd (others index vendor release refl)
other-opening_setup s m o none others = refl

pub other-opening_protocol : (s : OpenProtocol) (m : IceMessage) (o : Offending) → NoDemand m → NoProtocolReply m → other_cell (AtProtocol s) m o ≡ opening_cell s m o
other-opening_protocol s (AuthenticationRequired index proof) o none others = absurd (none index proof refl)
other-opening_protocol s (ProtocolReply index opcode vendor release) o none others = absurd (others index opcode vendor release refl)
other-opening_protocol s m o none others = refl
