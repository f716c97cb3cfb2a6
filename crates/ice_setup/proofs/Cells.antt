-- A message that a state has no cell of its own for.
use Rattle.std.proofs.Common.{◌≡◌, ℕ, List, Bool, refl}
use Rattle.ice_values.specs.declared.version.Version.{Version}
use Rattle.ice_messages.specs.declared.message.IceMessage.{IceMessage}
use Rattle.ice_messages.specs.declared.message.IceMessage.TheVariants.{ConnectionSetup, AuthenticationReply, ProtocolSetup}
use Rattle.ice_setup.specs.Setup.{other_cell, setup_cell, cookie_cell, protocol_cell, protocol_cookie_cell, ready_cell}
use Rattle.ice_setup.specs.declared.errors.Offending.{Offending}
use Rattle.ice_setup.specs.declared.states.AwaitSetup.{AwaitSetup}
use Rattle.ice_setup.specs.declared.states.AwaitCookie.{AwaitCookie}
use Rattle.ice_setup.specs.declared.states.AwaitProtocol.{AwaitProtocol}
use Rattle.ice_setup.specs.declared.states.AwaitProtocolCookie.{AwaitProtocolCookie}
use Rattle.ice_setup.specs.declared.states.Ready.{Ready}
use Rattle.ice_setup.specs.declared.states.AnySetup.TheVariants.{AwaitSetup as AtSetup, AwaitCookie as AtCookie, AwaitProtocol as AtProtocol, AwaitProtocolCookie as AtProtocolCookie, Ready as AtReady}

-- the message is none of this kind
abbrev pub NoConnectionSetup : IceMessage → Type 0
NoConnectionSetup m = (must : Bool) (vendor release : List ℕ) (names : List (List ℕ)) (offered : List Version) → m ≡ ConnectionSetup must vendor release names offered → ⊥

abbrev pub NoReply : IceMessage → Type 0
NoReply m = (proof : List ℕ) → m ≡ AuthenticationReply proof → ⊥

abbrev pub NoProtocolSetup : IceMessage → Type 0
NoProtocolSetup m = (opcode : ℕ) (must : Bool) (protocol vendor release : List ℕ) (names : List (List ℕ)) (offered : List Version) → m ≡ ProtocolSetup opcode must protocol vendor release names offered → ⊥

pub other-setup : (s : AwaitSetup) (m : IceMessage) (o : Offending) → NoConnectionSetup m → other_cell (AtSetup s) m o ≡ setup_cell s m o
other-setup s (ConnectionSetup must vendor release names offered) o none = absurd (none must vendor release names offered refl)
other-setup s m o none = refl

pub other-cookie : (s : AwaitCookie) (m : IceMessage) (o : Offending) → NoReply m → other_cell (AtCookie s) m o ≡ cookie_cell s m o
other-cookie s (AuthenticationReply proof) o none = absurd (none proof refl)
other-cookie s m o none = refl

pub other-protocol : (s : AwaitProtocol) (m : IceMessage) (o : Offending) → NoProtocolSetup m → other_cell (AtProtocol s) m o ≡ protocol_cell s m o
other-protocol s (ProtocolSetup opcode must protocol vendor release names offered) o none = absurd (none opcode must protocol vendor release names offered refl)
other-protocol s m o none = refl

pub other-protocol_cookie : (s : AwaitProtocolCookie) (m : IceMessage) (o : Offending) → NoReply m → other_cell (AtProtocolCookie s) m o ≡ protocol_cookie_cell s m o
other-protocol_cookie s (AuthenticationReply proof) o none = absurd (none proof refl)
other-protocol_cookie s m o none = refl

pub other-ready : (s : Ready) (m : IceMessage) (o : Offending) → NoProtocolSetup m → other_cell (AtReady s) m o ≡ ready_cell s m o
other-ready s (ProtocolSetup opcode must protocol vendor release names offered) o none = absurd (none opcode must protocol vendor release names offered refl)
other-ready s m o none = refl
