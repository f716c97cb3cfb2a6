-- Lines that are printed one after the other.
use Rattle.std.proofs.Common.{◌≡◌, ℕ, ◌+◌, ◌<◌, ◌≤◌, List, [], ◌∷◌, ◌++◌, length, take, drop, slice_index_or, map, Result, IsOk, refl, sym, ◌∙◌, ap, arith}
use Rattle.std.proofs.lemmas.List.{map-append, take-append-drop, take_more}
use Rattle.sm_world.specs.Outside.{Outside, Added, adds, NotFallen, UsesConsole}
use Rattle.sm_world.specs.declared.effects.Effect.TheVariants.{Printed}
use Rattle.sm_world.specs.declared.failures.Failure.{Failure}
use Rattle.sm_world.proofs.Adding.{adds-none, adds-adds, never_fallen, fallen_never}
use Rattle.program_frame.specs.Printing.{line}
use Rattle.smclient_app.specs.Lines.{PrintsFirst}

-- these lines were printed, and nothing else was done
pub record PrintedSoFar (lines : List (List ℕ)) (old now : Outside) : Type 0 where
  pub told : now.told ≡ adds old.told (map Printed (map line lines))
  pub counts : NotFallen old.faults now.faults

pub none_printed : (old : Outside) → PrintedSoFar [] old old
none_printed old = record { told = sym (adds-none old.told); counts = never_fallen old.faults }

-- a call of the console lets no count fall
pub console_counts : {A : Type 0} (old new : Outside) (result : Result A Failure) → UsesConsole old new result → NotFallen old.faults new.faults
console_counts old new result uses =
    let below : (x y : ℕ) → y ≡ x → x ≤ y = λ x y e. rw e (omega arith) in
    record {
      disk = below old.faults.disk new.faults.disk uses.disk;
      links = below old.faults.links new.faults.links uses.links;
      spawner = below old.faults.spawner new.faults.spawner uses.spawner;
      console = uses.console;
    }

texts_more : (lines : List (List ℕ)) (l : List ℕ) → map Printed (map line (lines ++ l ∷ [])) ≡ map Printed (map line lines) ++ Printed (line l) ∷ []
texts_more lines l = ap (map Printed) (map-append line lines (l ∷ [])) ∙ map-append Printed (map line lines) (line l ∷ [])

pub one_printed : (all : List (List ℕ)) (k : ℕ) (l : List ℕ) (old mid new : Outside) → k < length all → l ≡ slice_index_or all k l → PrintedSoFar (take k all) old mid → new.told ≡ adds mid.told (Printed (line l) ∷ []) → NotFallen mid.faults new.faults → PrintedSoFar (take (k + 1) all) old new
one_printed all k l old mid new inside is so_far told counts =
    let grown : take (k + 1) all ≡ take k all ++ l ∷ [] = take_more all k l inside ∙ ap (λ (y : List ℕ). take k all ++ y ∷ []) (sym is) in
    rw grown (record {
      told = told ∙ (ap (λ before. adds before (Printed (line l) ∷ [])) so_far.told ∙ (adds-adds old.told (map Printed (map line (take k all))) (Printed (line l) ∷ []) ∙ ap (adds old.told) (sym (texts_more (take k all) l))));
      counts = fallen_never old.faults mid.faults new.faults so_far.counts counts;
    })

-- some of the lines were printed
pub some_printed : (all : List (List ℕ)) (k : ℕ) (result : Result (Unit {0}) Failure) (old new : Outside) → PrintedSoFar (take k all) old new → (IsOk result → drop k all ≡ []) → Added old.told new.told (PrintsFirst all result)
some_printed all k result old new so_far none = record {
  effects = map Printed (map line (take k all));
  added = so_far.told;
  holds = record { done = take k all; left = drop k all; parts = take-append-drop k all; all = none; printed = refl };
}

-- a line that was refused
pub unprinted : (lines : List (List ℕ)) (old mid new : Outside) → PrintedSoFar lines old mid → new.told ≡ adds mid.told [] → NotFallen mid.faults new.faults → PrintedSoFar lines old new
unprinted lines old mid new so_far told counts = record {
  told = told ∙ (adds-none mid.told ∙ so_far.told);
  counts = fallen_never old.faults mid.faults new.faults so_far.counts counts;
}
