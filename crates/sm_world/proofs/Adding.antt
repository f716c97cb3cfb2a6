-- One call after another: the effects that they add, and the counts of faults.
use Rattle.std.proofs.Common.{◌≡◌, arith, List, [], ◌++◌, Option, Some, None, refl, ap, sym, append_assoc}
use Rattle.std.proofs.lemmas.List.{append-nil}
use Rattle.sm_world.specs.Outside.{Added, NotFallen, adds}
use Rattle.sm_world.specs.declared.effects.Effect.{Effect}
use Rattle.sm_world.specs.declared.failures.Faults.{Faults}

-- effects that are added one after the other
pub adds-adds : (old : Option (List Effect)) (es ds : List Effect) → adds (adds old es) ds ≡ adds old (es ++ ds)
adds-adds None es ds = refl
adds-adds (Some told) es ds = ap Some (append_assoc told es ds)

pub adds-none : (old : Option (List Effect)) → adds old [] ≡ old
adds-none None = refl
adds-none (Some told) = ap Some (append-nil told)

-- a call that added nothing
pub nothing_added : (old : Option (List Effect)) (P : List Effect → Type 0) → P [] → Added old old P
nothing_added old P none = record { effects = []; added = sym (adds-none old); holds = none }

-- counts that never fall
pub never_fallen : (faults : Faults) → NotFallen faults faults
never_fallen faults = record { disk = omega arith; links = omega arith; spawner = omega arith; console = omega arith }

pub fallen_never : (first second third : Faults) → NotFallen first second → NotFallen second third → NotFallen first third
fallen_never first second third one two = record {
  disk = omega (arith, one.disk, two.disk);
  links = omega (arith, one.links, two.links);
  spawner = omega (arith, one.spawner, two.spawner);
  console = omega (arith, one.console, two.console);
}
