-- What a client must be for what is asked of it.
use Rattle.std.specs.Prelude.{◌≡◌, [], true}
use Rattle.client_machine.specs.Asking.{may_ask}
use Rattle.client_machine.specs.Laws.{stage_phase}
use Rattle.client_machine.specs.Phases.{ClientState}
use Rattle.client_machine.specs.declared.acts.ClientAct.{ClientAct}
use Rattle.client_machine.specs.declared.acts.ClientAct.TheVariants.{Again, Complete as AllSaved, Save as ToSave}
use Rattle.client_machine.specs.declared.requests.Request.TheVariants.{Close}
use Rattle.client_machine.specs.declared.saves.SaveAsk.{SaveAsk}
use Rattle.protocol_messages.specs.Messages.{IsTooLong}
use Rattle.client_engine.specs.Answering.{may_ask_at}
use Rattle.client_engine.specs.declared.hearing.Cue.{Cue}
use Rattle.client_engine.specs.declared.hearing.Cue.TheVariants.{Complete, Die, Save}
use Rattle.protocol_messages.specs.declared.message.Message.TheVariants.{Xsmp}
use Rattle.client_engine.specs.declared.place.Place.{Place}
use Rattle.client_engine.specs.declared.place.Place.TheVariants.{Speaking, Stopped}

-- The client is in the phase of the ask's stage, in a save of its style.
pub record IsAsked (ask : SaveAsk) (c : ClientState) : Type 0 where
  pub phase : c.phase ≡ stage_phase ask.stage
  pub style : c.asked.style ≡ ask.style
  pub shutdown : c.asked.shutdown ≡ ask.shutdown

-- A client that has joined is asked so.
abbrev pub MayAnswer : SaveAsk → Place → Type 0
MayAnswer ask (Speaking joined c) = IsAsked ask c
MayAnswer ask place = ⊥

-- Where its keeper is asked how the client saves, the client may answer; where all have saved it may close; and one that is told to
-- die takes nothing more.
abbrev pub HasPlace : Cue → Place → Type 0
HasPlace (Save ask) place = MayAnswer ask place
HasPlace Complete place = may_ask_at (Close []) place ≡ true
HasPlace Die place = place ≡ Stopped
HasPlace cue place = Unit {0}

-- What an act asks of a client: a save has its place, one whose save is complete may close, and a message that is repeated is not too
-- long.
abbrev pub MayAct : ClientState → ClientAct → Type 0
MayAct c (ToSave ask) = IsAsked ask c
MayAct c AllSaved = may_ask (Close []) c ≡ true
MayAct c (Again message) = ¬ (IsTooLong (Xsmp message))
MayAct c act = Unit {0}
