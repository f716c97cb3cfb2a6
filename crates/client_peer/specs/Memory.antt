-- What a peer in memory tells.
use Rattle.std.specs.Prelude.{◌≡◌, ◌↔◌, ◌⊎◌, ℕ, Bool, false, IsTrue, nat_le, List, [], Option, Some, None, length, Contains}
use Rattle.sm_world.specs.Outside.{Outside}
use Rattle.sm_world.specs.Calls.{Numbered, counted, counted_if}
use Rattle.sm_world.specs.declared.failures.Faults.{Faults}
use Rattle.client_peer.specs.Peers.{file_at}
use Rattle.client_peer.specs.declared.memory.MemPeer.{MemPeer}

-- It has no store and no events, and the input of its console is empty.
abbrev pub peer_outside : MemPeer → Outside
peer_outside peer = record {
  told = Some peer.effects;
  faults = peer.faults;
  size = 0;
  first = None;
  coming = None;
  input = Some [];
  files = Some peer.files;
}

-- what is still to be received
abbrev pub peer_pieces : MemPeer → List (List ℕ)
peer_pieces peer = peer.pieces

abbrev pub peer_calls : MemPeer → Numbered
peer_calls peer = peer.calls

-- the last call has a number that is told to fail
abbrev pub IsTold : MemPeer → Type 0
IsTold peer = Contains (peer_calls peer).failing (peer_calls peer).last

-- Exactly the calls fail for which there is this cause, and the device's own count rises exactly there, by one. Each call is counted.
pub record Fails (cause : Type 0) (count : Faults → ℕ) (old new : MemPeer) (failed : Bool) : Type 0 where
  pub counts_call : peer_calls new ≡ counted (peer_calls old)
  pub fails : IsTrue failed ↔ cause
  pub counts_fault : count (peer_outside new).faults ≡ counted_if failed (count (peer_outside old).faults)

abbrev pub FailsByNumber : (Faults → ℕ) → MemPeer → MemPeer → Bool → Type 0
FailsByNumber count old new failed = Fails (IsTold new) count old new failed

-- a file that is there and not too long
abbrev pub fits : Option (List ℕ) → Bool
fits None = false
fits (Some bytes) = nat_le (length bytes) 65536

-- A fetch fails besides where there is no file at the path that can be fetched.
abbrev pub FailsToFetch : List ℕ → MemPeer → MemPeer → Bool → Type 0
FailsToFetch path old new failed = Fails (IsTold new ⊎ (fits (file_at path old.files) ≡ false)) (λ faults. faults.links) old new failed
