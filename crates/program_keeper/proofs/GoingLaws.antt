-- Things that are said and done one after another.
use Rattle.std.proofs.Common.{◌≡◌, Bool, true, false, List, ◌++◌, Result, Ok, Err, cond, ◌∙◌, ap, subst, append_assoc}
use Rattle.std.specs.Prelude.{OnOk}
use Rattle.owned_lists.specs.declared.failures.NoMemory.{NoMemory}
use Rattle.client_machine.specs.Asking.{may_ask, requested}
use Rattle.client_machine.specs.Saves.{step_request}
use Rattle.client_machine.specs.declared.requests.AskRefusal.{AskRefusal}
use Rattle.client_machine.specs.declared.requests.AskRefusal.TheVariants.{WrongPhase}
use Rattle.client_machine.specs.declared.saves.Step.{Step as SaveStep}
use Rattle.client_engine.specs.Answering.{answered_at, as_message}
use Rattle.client_engine.specs.Driving.{Step}
use Rattle.client_engine.specs.declared.place.Place.{Place}
use Rattle.client_engine.specs.declared.place.Place.TheVariants.{Opening, Speaking, Stopped}
use Rattle.client_engine.proofs.Short.{short-step}
use Rattle.protocol_messages.specs.Messages.{IsTooLong}
use Rattle.protocol_messages.specs.declared.message.Message.{Message}
use Rattle.protocol_messages.specs.declared.message.Message.TheVariants.{Xsmp}
use Rattle.xsmp_messages.specs.declared.message.XsmpMessage.{XsmpMessage}
use Rattle.program_keeper.specs.Script.{Keeper, followed}
use Rattle.program_keeper.specs.declared.acts.KeeperAct.{KeeperAct}

-- one thing was done, and then another
pub acts_followed : (result : Result (Unit {0}) NoMemory) (first : Step Keeper KeeperAct) (next : Keeper → Step Keeper KeeperAct) (between : Keeper) (old mid new : List KeeperAct) → mid ≡ old ++ first.line → between ≡ first.next → OnOk result (new ≡ mid ++ (next between).line) → OnOk result (new ≡ old ++ (followed first next).line)
acts_followed (Ok x) first next between old mid new one stands two =
    two ∙ (ap (λ (acts : List KeeperAct). acts ++ (next between).line) one
    ∙ (append_assoc old first.line (next between).line ∙ ap (λ (k : Keeper). old ++ (first.line ++ (next k).line)) stands))
acts_followed (Err e) first next between old mid new one stands two = tt

pub keeper_followed : (result : Result (Unit {0}) NoMemory) (first : Step Keeper KeeperAct) (next : Keeper → Step Keeper KeeperAct) (between new : Keeper) → between ≡ first.next → OnOk result (new ≡ (next between).next) → OnOk result (new ≡ (followed first next).next)
keeper_followed (Ok x) first next between new stands two = two ∙ ap (λ (k : Keeper). (next k).next) stands
keeper_followed (Err e) first next between new stands two = tt

-- a request that has its place is said by its message
granted : (may : Bool) (m : XsmpMessage) (refusal : AskRefusal) (message : Message) → as_message (cond may (Ok m) (Err refusal)) ≡ Ok message → Xsmp m ≡ message
granted true m refusal message e = cc
granted false m refusal message e = cc

pub short_said : (step : SaveStep) (place : Place) (message : Message) → answered_at (step_request step) place ≡ Ok message → ¬ (IsTooLong message)
short_said step (Opening opener previous) message e = cc
short_said step (Speaking joined client) message e =
    subst (λ (m : Message). ¬ (IsTooLong m)) (granted (may_ask (step_request step) client) (requested (step_request step)) (WrongPhase client.phase) message e) (short-step step)
short_said step Stopped message e = cc
