-- What the calls of a run do, one receive after another.
use Rattle.std.specs.Prelude.{◌≡◌, ◌≢◌, ◌⊎◌, ◌≤◌, ℕ, List, [], ◌∷◌, ◌++◌, length, map, Option, Result, Ok, Err}
use Rattle.std.specs.List.{AllByRecursion}
use Rattle.ice_cookie.specs.declared.cookies.Cookie.{Cookie}
use Rattle.ice_framing.specs.Parts.{parts_of}
use Rattle.sm_world.specs.Effects.{heard}
use Rattle.sm_world.specs.Outside.{Added, NotFallen, Outside, Rose, adds, on_ok}
use Rattle.sm_world.specs.declared.effects.Effect.{Effect}
use Rattle.sm_world.specs.declared.effects.Effect.TheVariants.{Heard, Sent}
use Rattle.sm_world.specs.declared.failures.Failure.{Failure}
use Rattle.sm_world.specs.declared.failures.Failure.TheVariants.{Failed}
use Rattle.client_engine.specs.Driving.{Run}
use Rattle.client_machine.specs.declared.saves.SaveAnswer.{SaveAnswer}
use Rattle.client_peer.specs.Peers.{received}
use Rattle.named_joiner.specs.Doing.{BreaksPiece, Follows, bytes_in}
use Rattle.named_joiner.specs.Hearing.{Replied}
use Rattle.named_joiner.specs.Script.{Callbacks, Keeper, Replies}
use Rattle.named_joiner.specs.Standing.{IsRun, Joining}
use Rattle.named_joiner.specs.declared.callbacks.NamedAsk.{NamedAsk}
use Rattle.named_joiner.specs.declared.ends.NamedReply.{NamedReply}
use Rattle.smwrap_app.specs.Faults.{Ending}
use Rattle.smwrap_app.specs.Running.{IsPrompt, Joins, all_heard, sent, stream, wrap_script}
use Rattle.smwrap_app.specs.declared.fault.Fault.{Fault}
use Rattle.smwrap_app.specs.declared.fault.Fault.TheVariants.{BadWords, Refused, StreamEnded, NoEntry, Link, Spent, NoMemory, Malformed, Disk}

-- nothing is sent where there are no bytes
abbrev pub delivery : List ℕ → List Effect
delivery [] = []
delivery (b ∷ bytes) = Sent 0 (b ∷ bytes) ∷ []

-- These bytes were sent, or the connection failed, or memory was wanting.
pub record Delivers (bytes : List ℕ) (old new : Outside) (result : Result (Unit {0}) Failure) : Type 0 where
  pub told : new.told ≡ adds old.told (on_ok result (delivery bytes))
  pub counts : NotFallen old.faults new.faults
  pub some : result ≡ Err Failed → bytes ≢ []
  pub cause : result ≡ Err Failed → Rose old.faults.links new.faults.links

module _ {S D : Type 0} (answers : S → NamedAsk → Option SaveAnswer → S → Type 0) (gives : D → Option (List (List ℕ)) → D → Type 0) where
  -- A piece was received, and the client heard it.
  pub record HearsPiece (old new : Option (List Effect)) (before after : Joining S D) (reply : NamedReply) : Type 0 where
    pub piece : List ℕ
    pub solid : 1 ≤ length piece
    pub told : new ≡ adds old (Heard (received piece) ∷ [])
    pub heard : (run : Run Keeper) → IsRun run before.stand → Replied answers gives reply before after run piece

  -- A piece was received, and memory was wanting as the client heard it.
  pub record BreaksAt (old new : Option (List Effect)) (before after : Joining S D) : Type 0 where
    pub piece : List ℕ
    pub solid : 1 ≤ length piece
    pub told : new ≡ adds old (Heard (received piece) ∷ [])
    pub breaks : (run : Run Keeper) → IsRun run before.stand → BreaksPiece answers gives before.callbacks after.callbacks run piece

  -- What a receive brought.
  abbrev pub Listens : Result NamedReply Fault → Outside → Outside → Joining S D → Joining S D → Type 0
  Listens (Ok reply) old new before after = HearsPiece old.told new.told before after reply
  Listens (Err StreamEnded) old new before after = (new.told ≡ adds old.told (Heard (received []) ∷ [])) × (after ≡ before)
  Listens (Err Link) old new before after = (new.told ≡ adds old.told []) × (after ≡ before) × Rose old.faults.links new.faults.links
  Listens (Err NoMemory) old new before after = ((new.told ≡ adds old.told []) × (after ≡ before)) ⊎ BreaksAt old.told new.told before after
  Listens (Err BadWords) old new before after = ⊥
  Listens (Err Refused) old new before after = ⊥
  Listens (Err NoEntry) old new before after = ⊥
  Listens (Err Spent) old new before after = ⊥
  Listens (Err Malformed) old new before after = ⊥
  Listens (Err Disk) old new before after = ⊥

  -- How far a run is: so many receives gave bytes, the client stands where the script does, and these bytes of it are still to be sent.
  pub record Amid (cookie : Cookie) (previous : List ℕ) (first : Outside) (begin : Callbacks S D) (now : Outside) (joining : Joining S D) (count : ℕ) (unsent : List ℕ) : Type 0 where
    pub effects : List Effect
    pub told : now.told ≡ adds first.told effects
    pub counts : NotFallen first.faults now.faults
    pub replies : List Replies
    -- the callbacks said something at each part of the stream
    pub enough : length replies ≡ length (parts_of (stream effects))
    pub pieces : List (List ℕ)
    pub solid : AllByRecursion (λ (piece : List ℕ). 1 ≤ length piece) pieces
    pub received_are : heard effects ≡ map received pieces
    pub counted : length pieces ≡ count
    pub prompt : IsPrompt cookie previous replies effects
    pub sent_are : sent effects ++ unsent ≡ bytes_in (wrap_script cookie previous replies (stream effects))
    pub follows : Follows answers gives (wrap_script cookie previous replies (stream effects)) begin joining.callbacks
    pub runs : IsRun (all_heard cookie previous replies (stream effects)).next joining.stand

  -- The run came to its end.
  pub record Finishes (cookie : Cookie) (previous : List ℕ) (turns : ℕ) (first : Outside) (begin : Callbacks S D) (new : Outside) (after : Callbacks S D) (result : Ending) : Type 0 where
    pub joins : Added first.told new.told (Joins answers gives cookie previous turns first new begin after result)
    pub counts : NotFallen first.faults new.faults
