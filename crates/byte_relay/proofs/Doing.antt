-- One call of the links after another.
use Rattle.std.proofs.Common.{◌≡◌, ◌≤◌, arith, List, [], ◌∷◌, ◌++◌, Option, Result, Ok, Err, refl, sym, ap, ◌∙◌, append_assoc}
use Rattle.std.specs.Prelude.{IfErr}
use Rattle.sm_world.specs.Outside.{Outside, Rose, UsesLinks, adds, on_ok}
use Rattle.sm_world.specs.declared.effects.Effect.{Effect}
use Rattle.sm_world.specs.declared.failures.Failure.{Failure}
use Rattle.sm_world.specs.declared.failures.Failure.TheVariants.{Failed, NoMemory as OutOfMemory}
use Rattle.sm_world.specs.declared.failures.Faults.{Faults}
use Rattle.sm_world.proofs.Adding.{adds-adds, never_fallen, fallen_never, nothing_added}
use Rattle.sm_world.proofs.Counting.{rose_since}
use Rattle.byte_relay.specs.Serving.{relay_fault_of, HasCause, IsOfLinks, DoesOf, Does}
use Rattle.byte_relay.specs.declared.fault.RelayFault.{RelayFault}
use Rattle.byte_relay.specs.declared.fault.RelayFault.TheVariants.{LinkFault, Spent, NoMemory}

pub cause_since : (first before after : Faults) (fault : RelayFault) → first.links ≤ before.links → HasCause before after fault → HasCause first after fault
cause_since first before after LinkFault le rose = rose_since first.links before.links after.links le rose
cause_since first before after Spent le rose = tt
cause_since first before after NoMemory le rose = tt

-- a call that does nothing
pub does_nothing : {A : Type 0} (w : Outside) (x : A) → Does w w [] (Ok x)
does_nothing w x = record { added = nothing_added w.told (DoesOf [] (Ok x)) refl; coming = refl; input = refl; counts = never_fallen w.faults; cause = tt; of_links = tt }

-- memory was wanting before anything was done
pub gives_up : {A : Type 0} (w : Outside) (all : List Effect) → Does {A = A} w w all (Err NoMemory)
gives_up {A = A} w all = record { added = nothing_added w.told (DoesOf {A = A} all (Err NoMemory)) (all, refl); coming = refl; input = refl; counts = never_fallen w.faults; cause = tt; of_links = tt }

-- one call of the links
pub does_one : {A : Type 0} (old new : Outside) (effect : Effect) (x : A) (r : Result (Unit {0}) Failure) → r ≡ Ok tt → new.told ≡ adds old.told (on_ok r (effect ∷ [])) → new.coming ≡ old.coming → UsesLinks old new r → Does old new (effect ∷ []) (Ok x)
does_one old new effect x r is told coming uses = record {
  added = record { effects = effect ∷ []; added = told ∙ ap (λ (s : Result (Unit {0}) Failure). adds old.told (on_ok s (effect ∷ []))) is; holds = refl };
  coming = coming;
  input = uses.input;
  counts = record { disk = omega (arith, uses.disk); links = uses.links; spawner = omega (arith, uses.spawner); console = omega (arith, uses.console) };
  cause = tt;
  of_links = tt;
}

links_cause : (old new : Outside) (failure : Failure) → (failure ≡ Failed → Rose old.faults.links new.faults.links) → HasCause old.faults new.faults (relay_fault_of failure)
links_cause old new Failed rose = rose refl
links_cause old new OutOfMemory rose = tt

links_only : (failure : Failure) → IsOfLinks (relay_fault_of failure)
links_only Failed = tt
links_only OutOfMemory = tt

pub does_none : {A : Type 0} (old new : Outside) (effect : Effect) (failure : Failure) (r : Result (Unit {0}) Failure) → r ≡ Err failure → new.told ≡ adds old.told (on_ok r (effect ∷ [])) → new.coming ≡ old.coming → UsesLinks old new r → Does {A = A} old new (effect ∷ []) (Err (relay_fault_of failure))
does_none old new effect failure r is told coming uses = record {
  added = record { effects = []; added = told ∙ ap (λ (s : Result (Unit {0}) Failure). adds old.told (on_ok s (effect ∷ []))) is; holds = (effect ∷ [], refl) };
  coming = coming;
  input = uses.input;
  counts = record { disk = omega (arith, uses.disk); links = uses.links; spawner = omega (arith, uses.spawner); console = omega (arith, uses.console) };
  cause = links_cause old new failure (λ failed. uses.cause (rw (is, failed) refl));
  of_links = links_only failure;
}

more_of : {A : Type 0} (front later : List Effect) (r : Result A RelayFault) (es ds : List Effect) → es ≡ front → DoesOf later r ds → DoesOf (front ++ later) r (es ++ ds)
more_of front later (Ok x) es ds first second = rw (first, second) refl
more_of front later (Err fault) es ds first second = (second.0, rw first (append_assoc front ds second.0 ∙ ap (λ (l : List Effect). front ++ l) second.1))

later_cause : {A : Type 0} (old mid new : Outside) (r : Result A RelayFault) → old.faults.links ≤ mid.faults.links → IfErr r (HasCause mid.faults new.faults) → IfErr r (HasCause old.faults new.faults)
later_cause old mid new (Ok x) le cause = tt
later_cause old mid new (Err fault) le cause = cause_since old.faults mid.faults new.faults fault le cause

-- one call after another
pub does_more : {A B : Type 0} (old mid new : Outside) (front later : List Effect) (x : B) (r : Result A RelayFault) → Does old mid front (Ok x) → Does mid new later r → Does old new (front ++ later) r
does_more old mid new front later x r first second = record {
  added = record {
    effects = first.added.effects ++ second.added.effects;
    added = second.added.added ∙ (ap (λ (t : Option (List Effect)). adds t second.added.effects) first.added.added ∙ adds-adds old.told first.added.effects second.added.effects);
    holds = more_of front later r first.added.effects second.added.effects first.added.holds second.added.holds;
  };
  coming = second.coming ∙ first.coming;
  input = second.input ∙ first.input;
  counts = fallen_never old.faults mid.faults new.faults first.counts second.counts;
  cause = later_cause old mid new r first.counts.links second.cause;
  of_links = second.of_links;
}

-- a fault in front of more
pub does_cut : {A B : Type 0} (old new : Outside) (front later : List Effect) (fault : RelayFault) → Does {A = A} old new front (Err fault) → Does {A = B} old new (front ++ later) (Err fault)
does_cut old new front later fault first = record {
  added = record {
    effects = first.added.effects;
    added = first.added.added;
    holds = (first.added.holds.0 ++ later, sym (append_assoc first.added.effects first.added.holds.0 later) ∙ ap (λ (l : List Effect). l ++ later) first.added.holds.1);
  };
  coming = first.coming;
  input = first.input;
  counts = first.counts;
  cause = first.cause;
  of_links = first.of_links;
}

-- the same with another value, and of effects that are the same
pub does_as : {A B : Type 0} (old new : Outside) (all same : List Effect) (x : A) (y : B) → all ≡ same → Does old new all (Ok x) → Does old new same (Ok y)
does_as old new all same x y is first = record {
  added = record { effects = first.added.effects; added = first.added.added; holds = first.added.holds ∙ is };
  coming = first.coming;
  input = first.input;
  counts = first.counts;
  cause = tt;
  of_links = tt;
}

pub fails_as : {A B : Type 0} (old new : Outside) (all same : List Effect) (fault : RelayFault) → all ≡ same → Does {A = A} old new all (Err fault) → Does {A = B} old new same (Err fault)
fails_as old new all same fault is first = record {
  added = record { effects = first.added.effects; added = first.added.added; holds = (first.added.holds.0, first.added.holds.1 ∙ is) };
  coming = first.coming;
  input = first.input;
  counts = first.counts;
  cause = first.cause;
  of_links = first.of_links;
}

-- memory was wanting in front of more
pub does_then_none : {A B : Type 0} (old now : Outside) (front later : List Effect) (x : A) → Does old now front (Ok x) → Does {A = B} old now (front ++ later) (Err NoMemory)
does_then_none {A = A} {B = B} old now front later x first = does_more {A = B} old now now front later x (Err NoMemory) first (gives_up {A = B} now later)
