-- What the bytes of a stream bring a client, and what the client is then.
use Rattle.std.specs.Prelude.{◌≡◌, ℕ, Bool, false, true, List, [], length, flat_map, Option, Some, None}
use Rattle.client_engine.specs.Cutting.{Cuts}
use Rattle.client_engine.specs.Messages.{spelled}
use Rattle.client_engine.specs.Places.{phase_at}
use Rattle.client_engine.specs.Speaking.{HasPlace}
use Rattle.client_engine.specs.declared.engine.Core.{Core}
use Rattle.client_engine.specs.declared.engine.Taken.{Taken}
use Rattle.client_engine.specs.declared.hearing.Cue.{Cue}
use Rattle.client_engine.specs.declared.hearing.Cue.TheVariants.{Die, Nothing}
use Rattle.client_machine.specs.Phases.{is_registered}
use Rattle.client_machine.specs.declared.phase.ClientPhase.TheVariants.{Registering, Dead}
use Rattle.session_client.specs.declared.client.Client.{Client}
use Rattle.session_client.specs.declared.client.Client.TheVariants.{Opening, Member, Dying, Stopped}
use Rattle.session_client.specs.declared.client.Heard.{Heard}

abbrev pub tells_to_die : Cue → Bool
tells_to_die Die = true
tells_to_die cue = false

-- A client is what its phase says; one that takes nothing more is dying where it was told to die just now.
abbrev pub StandsAs : Core → Bool → Client → Type 0
StandsAs core dies (Opening c) = (c ≡ core) × (phase_at core.talk.place ≡ Registering)
StandsAs core dies (Member c) = (c ≡ core) × (is_registered (phase_at core.talk.place) ≡ true)
StandsAs core dies (Dying d) = (dies ≡ true) × (phase_at core.talk.place ≡ Dead)
StandsAs core dies Stopped = (dies ≡ false) × (phase_at core.talk.place ≡ Dead)

-- A part of the stream was taken: what the client says by itself is to be sent, and the cue is told.
pub record Gives (taken : Taken) (heard : Heard) : Type 0 where
  pub said : heard.said ≡ flat_map spelled taken.said
  pub cue : heard.cue ≡ taken.cue
  pub count : heard.count ≡ taken.count

-- No part is whole: nothing is said and nothing told.
pub record GivesNothing (left : List ℕ) (heard : Heard) : Type 0 where
  pub said : heard.said ≡ []
  pub cue : heard.cue ≡ Nothing
  pub count : heard.count ≡ length left

abbrev pub GivesOf : List ℕ → Option Taken → Heard → Type 0
GivesOf left None heard = GivesNothing left heard
GivesOf left (Some taken) heard = Gives taken heard

-- The first part that the bytes make whole was taken, if there is one, and the client is what that leaves.
pub record Hears (before : Core) (left : List ℕ) (heard : Heard) : Type 0 where
  pub taken : Option Taken
  pub after : Core
  pub cuts : Cuts before left taken after
  pub gives : GivesOf left taken heard
  -- what is asked of the client has its place
  pub asked : HasPlace heard.cue after.talk.place
  pub client : StandsAs after (tells_to_die heard.cue) heard.client
