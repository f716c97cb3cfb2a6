-- One act after the other: what their effects do, and the cause of a halt.
use Rattle.std.proofs.Common.{◌≡◌, inl, inr, arith, List, [], ◌∷◌, ◌++◌, map, refl, sym, ◌∙◌, ap, append_assoc}
use Rattle.std.proofs.lemmas.List.{append-nil, map-append}
use Rattle.std.proofs.lemmas.Grind.{flat_map-append}
use Rattle.sm_world.specs.Effects.{event_of, deed_of, file_of}
use Rattle.sm_world.specs.Outside.{NotFallen}
use Rattle.sm_world.specs.declared.effects.Effect.{Effect}
use Rattle.sm_world.specs.declared.failures.Faults.{Faults}
use Rattle.session_engine.specs.Acts.{deed_in}
use Rattle.session_engine.specs.Doing.{Going, item_of}
use Rattle.session_engine.specs.Causes.{IsCaused, HasCause, fault_of}
use Rattle.session_engine.specs.Machine.{Did}
use Rattle.session_engine.specs.declared.acts.Act.{Act}
use Rattle.session_engine.specs.declared.fault.Halt.{Halt}
use Rattle.session_engine.specs.declared.fault.Halt.TheVariants.{Links, Console, Disk, Worn, NoMemory}
use Rattle.session_engine.specs.declared.fault.ServeFault.TheVariants.{Spent}

-- nothing was done, and all is left
pub still : (acts : List Act) → Going acts acts []
still acts = record { deaf = refl; quiet = refl; done = []; parts = refl; so_far = refl; in_order = refl }

-- some of the acts were done, and then some of those that begin what was left
pub going_on : (all acts rest left : List Act) (es ds : List Effect) → Going all (acts ++ rest) es → Going acts left ds → Going all (left ++ rest) (es ++ ds)
going_on all acts rest left es ds first then = record {
  deaf = rw (flat_map-append event_of es ds, first.deaf, then.deaf) refl;
  quiet = rw (flat_map-append file_of es ds, first.quiet, then.quiet) refl;
  done = first.done ++ then.done;
  parts = append_assoc first.done then.done (left ++ rest)
      ∙ (ap (λ acts_after. first.done ++ acts_after) (sym (append_assoc then.done left rest) ∙ ap (λ acts_done. acts_done ++ rest) then.parts) ∙ first.parts);
  so_far = rw (flat_map-append deed_of es ds, first.so_far, then.so_far, flat_map-append deed_in first.done then.done) refl;
  in_order = rw (flat_map-append item_of es ds, first.in_order, then.in_order, flat_map-append deed_of es ds, map-append) refl;
}

-- The effect of a device's call is what the outside sees of an act.
pub record IsDoneBy (effect : Effect) (act : Act) : Type 0 where
  pub deaf : event_of effect ≡ []
  pub quiet : file_of effect ≡ []
  pub does : deed_of effect ≡ deed_in act
  pub shows : item_of effect ≡ map Did (deed_in act)

pub one_going : (effect : Effect) (act : Act) → IsDoneBy effect act → Going (act ∷ []) [] (effect ∷ [])
one_going effect act is_done = record {
  deaf = rw (is_done.deaf) refl;
  quiet = rw (is_done.quiet) refl;
  done = act ∷ [];
  parts = refl;
  so_far = rw (is_done.does) refl;
  in_order = rw (is_done.does, is_done.shows) (append-nil (map Did (deed_in act)) ∙ ap (map Did) (sym (append-nil (deed_in act))));
}

-- a halt is no want of turns
pub never_spent : (halt : Halt) → fault_of halt ≡ Spent → ⊥
never_spent Links e = absurd cc
never_spent Console e = absurd cc
never_spent Disk e = absurd cc
never_spent Worn e = absurd cc
never_spent NoMemory e = absurd cc

-- the cause of a halt in the later of two parts of a call is one in the whole call
pub cause_later : (first second third : Faults) (halt : Halt) → NotFallen first second → IsCaused second third halt → IsCaused first third halt
cause_later first second third Links one (inl rose) = inl (omega (arith, one.links))
cause_later first second third Links one (inr full) = inr full
cause_later first second third Console one (inl rose) = inl (omega (arith, one.console))
cause_later first second third Console one (inr full) = inr full
cause_later first second third Disk one (inl rose) = inl (omega (arith, one.disk))
cause_later first second third Disk one (inr full) = inr full
cause_later first second third Worn one cause = tt
cause_later first second third NoMemory one cause = tt

-- ... and one of the run's fault
pub fault_cause : (old new : Faults) (halt : Halt) → IsCaused old new halt → HasCause old new (fault_of halt)
fault_cause old new Links cause = cause
fault_cause old new Console cause = cause
fault_cause old new Disk cause = cause
fault_cause old new Worn cause = tt
fault_cause old new NoMemory cause = tt
