-- A restore, one call after another: the effects that they add, and the causes of faults.
use Rattle.std.proofs.Common.{◌≡◌, ◌≢◌, arith, codes, ℕ, Bool, List, [], ◌∷◌, ◌++◌, Option, Result, Ok, Err, inl, inr, refl, sym, ap, ap₂, ◌∙◌, subst}
use Rattle.sm_world.specs.Disk.{UsesDisk}
use Rattle.sm_world.specs.Outside.{Added, NotFallen, Outside, UsesConsole, adds}
use Rattle.sm_world.specs.declared.effects.Effect.{Effect}
use Rattle.sm_world.specs.declared.effects.Effect.TheVariants.{Printed}
use Rattle.sm_world.specs.declared.failures.Faults.{Faults}
use Rattle.sm_world.specs.declared.failures.Failure.{Failure}
use Rattle.sm_world.specs.declared.failures.Failure.TheVariants.{Failed, NoMemory as DeviceMemory}
use Rattle.sm_world.proofs.Adding.{adds-adds, adds-none}
use Rattle.sm_world.proofs.Counting.{rose_since}
use Rattle.checkpoint_records.specs.Books.{default_name}
use Rattle.checkpoint_records.specs.Rules.{KeepsRules}
use Rattle.checkpoint_records.specs.declared.records.Book.{Book}
use Rattle.checkpoint_slots.specs.Causes.{IsRecoveryFault, IsSettled, is_disk_fault}
use Rattle.checkpoint_slots.specs.Turns.{SteadyFile}
use Rattle.checkpoint_slots.specs.declared.fault.StoreFault.{StoreFault}
use Rattle.checkpoint_slots.specs.declared.fault.StoreFault.TheVariants.{WrongSize as HasWrongSize, Damaged as IsDamaged, DiskFault, Worn as IsWorn, NoMemory as StoreMemory}
use Rattle.checkpoint_slots.specs.declared.turn.Current.{Current}
use Rattle.session_return.specs.Returns.{MayComeBack, StandsFirst, entries_back, put_back}
use Rattle.session_return.specs.declared.obstacles.Refusal.{Refusal}
use Rattle.session_return.specs.declared.obstacles.Refusal.TheVariants.{Stopped as IsStopped, NoMemory as BookMemory}
use Rattle.session_return.specs.declared.returns.Which.{Which}
use Rattle.session_return.proofs.Kept.{rules_kept}
use Rattle.store_return.specs.Exchange.{Exchanges, IsWhyNotExchanged}
use Rattle.store_return.specs.Faults.{console_fault, disk_fault, return_fault, store_fault}
use Rattle.store_return.specs.Lines.{return_lines}
use Rattle.store_return.specs.Restoring.{CarriesOut, Found, HasCause, IsOfCarrying, IsOfConsole, IsOfDisk, IsPlan, IsUnopened, IsUnplanned, RestoresOr, ShowsOr, aside, uncarried, unopened, unplanned}
use Rattle.store_return.specs.declared.faults.Fault.{Fault}
use Rattle.store_return.specs.declared.faults.Fault.TheVariants.{BadWords, KeptDamaged, KeptSize, Damaged, WrongSize, Stopped, Disk, Console, Worn, NoMemory}
use Rattle.store_return.specs.declared.restoring.Plan.{Plan}

-- ---- counts

pub disk_counts : {old new : Outside} {failed : Bool} → UsesDisk old new failed → NotFallen old.faults new.faults
disk_counts uses = record { disk = uses.disk; links = omega (arith, uses.links); spawner = omega (arith, uses.spawner); console = omega (arith, uses.console) }

pub console_counts : {A : Type 0} {old new : Outside} {result : Result A Failure} → UsesConsole old new result → NotFallen old.faults new.faults
console_counts uses = record { disk = omega (arith, uses.disk); links = omega (arith, uses.links); spawner = omega (arith, uses.spawner); console = uses.console }

-- ---- opening

-- a call that only changed the size
pub settled_on : (old mid : Outside) → mid.first ≡ old.first → mid.told ≡ old.told → (file : List ℕ) → IsSettled old file → IsSettled mid file
settled_on old mid first told file settled = record {
  began = settled.began;
  effects = settled.effects;
  first = first ∙ settled.first;
  told = told ∙ settled.told;
  size = settled.size;
  reads = settled.reads;
  left = settled.left;
}

pub attach_failed : (old new : Outside) (failure : Failure) → (failure ≡ Failed → IsUnopened old new Disk) → IsUnopened old new (disk_fault failure)
attach_failed old new Failed rose = rose refl
attach_failed old new DeviceMemory rose = tt

pub not_recovered : (A : Type 0) (old mid new : Outside) (size : ℕ) (fault : StoreFault) → mid.first ≡ old.first → mid.told ≡ old.told → NotFallen old.faults mid.faults → IsRecoveryFault mid size fault → UsesDisk mid new (is_disk_fault {A = A} (Err fault))
    → IsUnopened old new (store_fault fault)
not_recovered A old mid new size (HasWrongSize n) first told counts cause uses = λ same. cause.1 same
not_recovered A old mid new size (IsDamaged at) first told counts cause uses = λ file settled. cause.1 file (settled_on old mid first told file settled)
not_recovered A old mid new size DiskFault first told counts cause uses = rose_since old.faults.disk mid.faults.disk new.faults.disk counts.disk (uses.cause refl)
not_recovered A old mid new size IsWorn first told counts cause uses = absurd cause
not_recovered A old mid new size StoreMemory first told counts cause uses = tt

pub found_on : (old mid : Outside) (current : Option Current) (present : Book) → mid.first ≡ old.first → mid.told ≡ old.told → ((file : List ℕ) → IsSettled mid file → SteadyFile current present file) → KeepsRules present → present.name ≡ default_name
    → Found old current present
found_on old mid current present first told stands rules chosen = record { stands = λ file settled. stands file (settled_on old mid first told file settled); rules = rules; chosen = chosen }

-- ---- planning

pub refused : (which : Which) (kept present : Book) (refusal : Refusal) → ((obstacle : _) → refusal ≡ IsStopped obstacle → StandsFirst (entries_back which kept) (put_back which kept present) obstacle) → IsUnplanned which kept present (return_fault refusal)
refused which kept present (IsStopped obstacle) stands = stands obstacle refl
refused which kept present BookMemory stands = tt

pub plan_rules : (heading : List ℕ) (which : Which) (kept present : Book) (plan : Plan) → KeepsRules kept → KeepsRules present → IsPlan heading which kept present plan → KeepsRules plan.book
plan_rules heading which kept present plan k p is = subst KeepsRules (sym is.book) (rules_kept which kept present k p is.may)

pub plan_chosen : (heading : List ℕ) (which : Which) (kept present : Book) (plan : Plan) → IsPlan heading which kept present plan → plan.book.name ≡ default_name
plan_chosen heading which kept present plan is = ap (λ (book : Book). book.name) is.book

-- ---- carrying out

module _ (current : Option Current) (present : Book) (beside : Option (List ℕ)) (book : Book) (text : List ℕ) (before put : Option (List Effect)) where
  pub not_begun : (fault : Fault) → put ≡ before → Added before put (CarriesOut current present beside book text (Err fault))
  not_begun fault same = record { effects = []; added = same ∙ sym (adds-none before); holds = inl refl }

  module _ (is_put : put ≡ adds before (aside beside present)) where
    pub broken_off : (answer : Result (Option Current) StoreFault) (after last : Option (List Effect)) (fault : Fault) → Added put after (Exchanges current present book answer) → last ≡ after → Added before last (CarriesOut current present beside book text (Err fault))
    broken_off answer after last fault exchanged same = record {
      effects = aside beside present ++ exchanged.effects;
      added = same ∙ exchanged.added ∙ ap (λ (t : Option (List Effect)). adds t exchanged.effects) is_put ∙ adds-adds before (aside beside present) exchanged.effects;
      holds = inr (record { answer = answer; written = exchanged.effects; exchanges = exchanged.holds; is = refl });
    }

    pub done : (next : Option Current) (after last : Option (List Effect)) → Added put after (Exchanges current present book (Ok next)) → last ≡ adds after (Printed text ∷ []) → Added before last (CarriesOut current present beside book text (Ok tt))
    done next after last exchanged printed =
        let own : List Effect = aside beside present in
        let written : List Effect = exchanged.effects in
        record {
          effects = own ++ (written ++ Printed text ∷ []);
          added = printed ∙ ap (λ (t : Option (List Effect)). adds t (Printed text ∷ [])) (exchanged.added ∙ ap (λ (t : Option (List Effect)). adds t written) is_put)
              ∙ adds-adds (adds before own) written (Printed text ∷ []) ∙ adds-adds before own (written ++ Printed text ∷ []);
          holds = record { next = next; written = written; exchanges = exchanged.holds; is = refl };
        }

module _ (current : Option Current) (old : Outside) where
  pub disk_carrying : (new : Outside) (fault : Fault) → IsOfDisk old new fault → IsOfCarrying current old new fault
  disk_carrying new Disk cause = cause
  disk_carrying new NoMemory cause = tt
  disk_carrying new BadWords cause = absurd cause
  disk_carrying new (KeptDamaged at) cause = absurd cause
  disk_carrying new (KeptSize size) cause = absurd cause
  disk_carrying new (Damaged at) cause = absurd cause
  disk_carrying new (WrongSize size) cause = absurd cause
  disk_carrying new (Stopped obstacle) cause = absurd cause
  disk_carrying new Console cause = absurd cause
  disk_carrying new Worn cause = absurd cause

  pub console_carrying : (mid new : Outside) (fault : Fault) → NotFallen old.faults mid.faults → IsOfConsole mid new fault → IsOfCarrying current old new fault
  console_carrying mid new Console counts cause = rose_since old.faults.console mid.faults.console new.faults.console counts.console cause
  console_carrying mid new NoMemory counts cause = tt
  console_carrying mid new BadWords counts cause = absurd cause
  console_carrying mid new (KeptDamaged at) counts cause = absurd cause
  console_carrying mid new (KeptSize size) counts cause = absurd cause
  console_carrying mid new (Damaged at) counts cause = absurd cause
  console_carrying mid new (WrongSize size) counts cause = absurd cause
  console_carrying mid new (Stopped obstacle) counts cause = absurd cause
  console_carrying mid new Disk counts cause = absurd cause
  console_carrying mid new Worn counts cause = absurd cause

  pub exchange_carrying : (A : Type 0) (mid new : Outside) (fault : StoreFault) → NotFallen old.faults mid.faults → IsWhyNotExchanged current fault → UsesDisk mid new (is_disk_fault {A = A} (Err fault)) → IsOfCarrying current old new (store_fault fault)
  exchange_carrying A mid new (HasWrongSize size) counts why uses = absurd why
  exchange_carrying A mid new (IsDamaged at) counts why uses = absurd why
  exchange_carrying A mid new DiskFault counts why uses = rose_since old.faults.disk mid.faults.disk new.faults.disk counts.disk (uses.cause refl)
  exchange_carrying A mid new IsWorn counts why uses = why
  exchange_carrying A mid new StoreMemory counts why uses = tt

  -- a fault that came since a later moment
  pub carrying_since : (mid new : Outside) (fault : Fault) → NotFallen old.faults mid.faults → IsOfCarrying current mid new fault → IsOfCarrying current old new fault
  carrying_since mid new Disk counts cause = rose_since old.faults.disk mid.faults.disk new.faults.disk counts.disk cause
  carrying_since mid new Console counts cause = rose_since old.faults.console mid.faults.console new.faults.console counts.console cause
  carrying_since mid new Worn counts cause = cause
  carrying_since mid new NoMemory counts cause = tt
  carrying_since mid new BadWords counts cause = absurd cause
  carrying_since mid new (KeptDamaged at) counts cause = absurd cause
  carrying_since mid new (KeptSize size) counts cause = absurd cause
  carrying_since mid new (Damaged at) counts cause = absurd cause
  carrying_since mid new (WrongSize size) counts cause = absurd cause
  carrying_since mid new (Stopped obstacle) counts cause = absurd cause

-- ---- the whole

module _ (which : Which) (kept : Book) (beside : Option (List ℕ)) (old : Outside) (current : Option Current) (present : Book) (plan : Plan) (found : Found old current present) where
  planned_so : (heading : List ℕ) → IsPlan heading which kept present plan → (result : Result (Unit {0}) Fault) (effects : List Effect) → CarriesOut current present beside plan.book plan.text result effects
      → CarriesOut current present beside (put_back which kept present) (return_lines heading which kept present) result effects
  planned_so heading is result effects carries =
      subst (λ (text : List ℕ). CarriesOut current present beside (put_back which kept present) text result effects) is.text (subst (λ (book : Book). CarriesOut current present beside book plan.text result effects) is.book carries)

  pub restored : (opened new : Option (List Effect)) → opened ≡ old.told → IsPlan (codes "restored") which kept present plan → Added opened new (CarriesOut current present beside plan.book plan.text (Ok tt)) → Added old.told new (RestoresOr which kept beside old (Ok tt))
  restored opened new same is carries = record {
    effects = carries.effects;
    added = carries.added ∙ ap (λ (t : Option (List Effect)). adds t carries.effects) same;
    holds = record { current = current; present = present; found = found; may = is.may; carries = planned_so (codes "restored") is (Ok tt) carries.effects carries.holds };
  }

  pub restored_not : (fault : Fault) (opened new : Option (List Effect)) → opened ≡ old.told → IsPlan (codes "restored") which kept present plan → Added opened new (CarriesOut current present beside plan.book plan.text (Err fault)) → Added old.told new (RestoresOr which kept beside old (Err fault))
  restored_not fault opened new same is carries = record {
    effects = carries.effects;
    added = carries.added ∙ ap (λ (t : Option (List Effect)). adds t carries.effects) same;
    holds = inr (record { current = current; present = present; found = found; may = is.may; carries = planned_so (codes "restored") is (Err fault) carries.effects carries.holds });
  }

pub shown : (which : Which) (kept : Book) (old : Outside) (current : Option Current) (present : Book) (plan : Plan) → Found old current present → (opened new : Option (List Effect)) → opened ≡ old.told → IsPlan (codes "would restore") which kept present plan → new ≡ adds opened (Printed plan.text ∷ []) → Added old.told new (ShowsOr which kept old (Ok tt))
shown which kept old current present plan found opened new same is printed = record {
  effects = Printed plan.text ∷ [];
  added = printed ∙ ap (λ (t : Option (List Effect)). adds t (Printed plan.text ∷ [])) same;
  holds = record { current = current; present = present; found = found; may = is.may; is = ap (λ (text : List ℕ). Printed text ∷ []) is.text };
}

pub nothing_restored : (which : Which) (kept : Book) (beside : Option (List ℕ)) (old : Outside) (fault : Fault) (new : Option (List Effect)) → new ≡ old.told → Added old.told new (RestoresOr which kept beside old (Err fault))
nothing_restored which kept beside old fault new same = record { effects = []; added = same ∙ sym (adds-none old.told); holds = inl refl }

pub nothing_shown : (which : Which) (kept : Book) (old : Outside) (fault : Fault) (new : Option (List Effect)) → new ≡ old.told → Added old.told new (ShowsOr which kept old (Err fault))
nothing_shown which kept old fault new same = record { effects = []; added = same ∙ sym (adds-none old.told); holds = refl }
