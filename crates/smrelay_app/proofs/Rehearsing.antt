-- A run on a world in memory.
use Rattle.std.proofs.Common.{◌≡◌, ℕ, true, false, List, [], length, take, Option, Some, Result, Ok, Err, refl, sym, ◌∙◌, ap, subst, arith}
use Rattle.std.proofs.lemmas.Bool.{false≢true}
use Rattle.sm_world.specs.Effects.{heard}
use Rattle.sm_world.specs.Outside.{Outside, Added, adds}
use Rattle.sm_world.specs.Worlds.{steady_outside}
use Rattle.sm_world.specs.declared.effects.Effect.{Effect}
use Rattle.sm_world.specs.declared.events.Event.{Event}
use Rattle.sm_world.specs.declared.steady.SteadyWorld.{SteadyWorld}
use Rattle.heard_events.specs.Brought.{Brought, next_events}
use Rattle.ice_values.specs.declared.numbers.Endian.{Endian}
use Rattle.byte_relay.specs.Relaying.{has_end, run}
use Rattle.byte_relay.specs.Serving.{Relays}
use Rattle.byte_relay.specs.declared.fault.RelayFault.{RelayFault}
use Rattle.byte_relay.specs.declared.fault.RelayFault.TheVariants.{Spent}
use Rattle.smrelay_app.specs.Rehearsals.{Rehearses}
use Rattle.smrelay_app.proofs.Hearing.{ended_run, spent_run}

-- a world that was just made, and the events that it brings
pub record IsFresh (old : Outside) (events : List Event) : Type 0 where
  pub told : old.told ≡ Some []
  pub coming : old.coming ≡ Some events

heard_is : (to : Endian) (turns : ℕ) (answer : Result (Unit {0}) RelayFault) (old : Outside) (events : List Event) → (effects : List Effect) → IsFresh old events → Relays to turns old.coming answer effects → heard effects ≡ next_events (length (heard effects)) events
heard_is to turns answer old events effects fresh relays = subst (λ (coming : Option (List Event)). Brought coming (heard effects)) fresh.coming relays.brought

pub finished_run : (to : Endian) (turns : ℕ) (old : Outside) (world : SteadyWorld) (events : List Event) → has_end events ≡ false → IsFresh old events → Added old.told (steady_outside world).told (Relays to turns old.coming (Ok tt)) → Rehearses to events turns (record { world = world; finished = true })
finished_run to turns old world events endless fresh added =
    let relays = added.holds in
    let is = heard_is to turns (Ok tt) old events added.effects fresh relays in
    let ended = ended_run to [] (length (heard added.effects)) events endless (ap has_end (sym is) ∙ relays.ended) in
    record {
      effects = added.effects;
      told = added.added ∙ ap (λ told. adds told added.effects) fresh.told;
      whole = λ e. (omega (arith, ended.0, relays.in_turns), relays.all_done refl ∙ (ap (run to) is ∙ ended.1));
      cut = λ e. absurd (false≢true (sym e));
    }

pub spent_turns : (to : Endian) (turns : ℕ) (old : Outside) (world : SteadyWorld) (events : List Event) → IsFresh old events → Added old.told (steady_outside world).told (Relays to turns old.coming (Err Spent)) → Rehearses to events turns (record { world = world; finished = false })
spent_turns to turns old world events fresh added =
    let relays = added.holds in
    let is = heard_is to turns (Err Spent) old events added.effects fresh relays in
    let cut = spent_run (length (heard added.effects)) events (ap has_end (sym is) ∙ relays.ended) in
    let all = relays.spent refl in
    record {
      effects = added.effects;
      told = added.added ∙ ap (λ told. adds told added.effects) fresh.told;
      whole = λ e. absurd (false≢true e);
      cut = λ e. (omega (arith, cut.0, all), relays.all_done refl ∙ ap (run to) (is ∙ (cut.1 ∙ ap (λ n. take n events) all)));
    }
