-- What an agent says of an end, once a call of it gave the bytes and they were sent, or weren't.
use Rattle.std.proofs.Common.{◌≡◌, sym, ap, subst, ◌∙◌, ℕ, Bool, List, Option, None, Some, Result, Ok}
use Rattle.sm_world.specs.Outside.{adds}
use Rattle.sm_world.specs.declared.effects.Effect.{Effect}
use Rattle.sm_world.proofs.Adding.{adds-none}
use Rattle.client_engine.specs.Driving.{Run}
use Rattle.outer_agent.specs.Script.{Keeper, closed, told}
use Rattle.outer_agent.specs.Standing.{Gives, IsRun, Stand}
use Rattle.session_engine.specs.declared.fault.ServeFault.{ServeFault}
use Rattle.nested_session.specs.Nesting.{closed_for, ended_for, outcome_for}
use Rattle.nested_session.specs.Standing.{HasAgent, Talks, sent_on}

-- the end of a save that may have come

pub outcome_said : (old new : Option (List Effect)) (ended : Option Bool) (success : Bool) (run : Option (Run Keeper)) (answer : Result (Option Stand) ServeFault) → ended ≡ Some success → Talks old new (ended_for success run) answer → Talks old new (outcome_for ended run) answer
outcome_said old new ended success run answer e talks = subst (λ (o : Option Bool). Talks old new (outcome_for o run) answer) (sym e) talks

-- there is no agent

pub none_ended : (old : Option (List Effect)) (success : Bool) (run : Option (Run Keeper)) → HasAgent None run → Talks old old (ended_for success run) (Ok None)
none_ended old success None has = (sym (adds-none old), tt)
none_ended old success (Some run) has = absurd has

pub none_closed : (old : Option (List Effect)) (run : Option (Run Keeper)) → HasAgent None run → Talks old old (closed_for run) (Ok None)
none_closed old None has = (sym (adds-none old), tt)
none_closed old (Some run) has = absurd has

-- there is one, and it said this

pub said_ended : (old new : Option (List Effect)) (success : Bool) (before after : Stand) (bytes : List ℕ) (run : Option (Run Keeper)) → ((r : Run Keeper) → IsRun r before → Gives bytes (told r success) after) → new ≡ adds old (sent_on bytes) → HasAgent (Some before) run
    → Talks old new (ended_for success run) (Ok (Some after))
said_ended old new success before after bytes None gives added has = absurd has
said_ended old new success before after bytes (Some run) gives added has =
    (added ∙ ap (λ (xs : List ℕ). adds old (sent_on xs)) (gives run has).line, (gives run has).next)

pub said_closed : (old new : Option (List Effect)) (before after : Stand) (bytes : List ℕ) (run : Option (Run Keeper)) → ((r : Run Keeper) → IsRun r before → Gives bytes (closed r) after) → new ≡ adds old (sent_on bytes) → HasAgent (Some before) run
    → Talks old new (closed_for run) (Ok (Some after))
said_closed old new before after bytes None gives added has = absurd has
said_closed old new before after bytes (Some run) gives added has =
    (added ∙ ap (λ (xs : List ℕ). adds old (sent_on xs)) (gives run has).line, (gives run has).next)
