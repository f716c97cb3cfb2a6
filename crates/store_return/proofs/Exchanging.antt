-- An exchange by the journal: an append or a compaction.
use Rattle.std.proofs.Common.{◌≡◌, ◌≢◌, arith, ℕ, ◌<◌, ◌^◌, List, [], length, take, Option, None, Some, Ok, Err, refl, sym, subst, inl}
use Rattle.std.specs.List.{AllByRecursion}
use Rattle.std.proofs.lemmas.List.{append-nil, take_all}
use Rattle.sm_world.specs.declared.effects.Effect.{Effect}
use Rattle.checkpoint_records.specs.Rules.{KeepsRules}
use Rattle.checkpoint_records.specs.declared.head.Format.TheVariants.{Several}
use Rattle.checkpoint_records.specs.declared.records.Book.{Book}
use Rattle.checkpoint_changes.specs.Amendments.{Amended}
use Rattle.checkpoint_changes.specs.Changes.{IsChange, apply, change_cells}
use Rattle.checkpoint_changes.specs.declared.changes.Change.{Change}
use Rattle.checkpoint_slots.specs.Turns.{HasRoomFor, IsRoom}
use Rattle.checkpoint_slots.specs.declared.fault.StoreFault.{StoreFault}
use Rattle.checkpoint_slots.specs.declared.fault.StoreFault.TheVariants.{WrongSize, Damaged, DiskFault, Worn, NoMemory}
use Rattle.checkpoint_slots.specs.declared.layout.Slot.{Slot}
use Rattle.checkpoint_slots.specs.declared.layout.Slot.TheVariants.{First, Second}
use Rattle.checkpoint_slots.specs.declared.turn.Current.{Current}
use Rattle.checkpoint_journal.specs.Journal.{Appends, Compacts, IsWhyNot, size_of}
use Rattle.store_return.specs.Exchange.{Exchanges, IsWhyNotExchanged}

-- a delta that fits has a length that is told in four bytes
fits_short : (current : Option Current) (m : ℕ) → HasRoomFor current m → m < 2 ^ 32
fits_short None m room = absurd room
fits_short (Some current) m room = by current.slot current.end room
  where
    by : (slot : Slot) (end : Option ℕ) → IsRoom slot m end → m < 2 ^ 32
    by slot None room = absurd room
    by First (Some gate) room = omega (arith, room)
    by Second (Some gate) room = omega (arith, room)

-- where it fails and no disk did, nothing was written
not_touched : (current : Option Current) (added : List Effect) (journal : Option (Option Current)) (fault : StoreFault) → IsWhyNot current added (journal, fault) → fault ≢ DiskFault → added ≡ []
not_touched current added None fault why other = absurd (other why)
not_touched current added (Some journal) fault why other = why.1

pub why_exchanged_not : (current : Option Current) (added : List Effect) (journal : Option (Option Current)) (fault : StoreFault) → IsWhyNot current added (journal, fault) → IsWhyNotExchanged current fault
why_exchanged_not current added None fault why = subst (IsWhyNotExchanged current) (sym why) tt
why_exchanged_not current added (Some journal) (WrongSize size) why = why.2
why_exchanged_not current added (Some journal) (Damaged at) why = why.2
why_exchanged_not current added (Some journal) DiskFault why = tt
why_exchanged_not current added (Some journal) Worn why = why.2
why_exchanged_not current added (Some journal) NoMemory why = tt

pub nothing_exchanged : (current : Option Current) (old new : Book) → Exchanges current old new (Err NoMemory) []
nothing_exchanged current old new = record {
  store = tt;
  swap = λ first before stands n few file image. inl (stands.images file (rw (take_all {A = Effect} n [] (omega arith), append-nil before) at image)).recovers;
  turn = λ first before stands. tt;
  untouched = λ other. refl;
}

module _ (current : Option Current) (old new : Book) (delta : List Change) where
  module _ (room : HasRoomFor current (size_of delta)) (changes : AllByRecursion (IsChange Several) delta) (applied : apply old delta ≡ Some new) (rules : KeepsRules new) (epoch : new.epoch < 2 ^ 32) where
    amends : Amended (change_cells Several) (IsChange Several) old delta new
    amends = record { changes = changes; size = fits_short current (size_of delta) room; applied = applied; rules = rules; epoch = epoch }

    pub appended : (next : Option Current) (added : List Effect) → Appends current delta (Ok next) added → Exchanges current old new (Ok next) added
    appended next added did = record {
      store = did.store;
      swap = λ first before stands. did.swap first before old new stands amends;
      turn = λ first before stands. did.turn first before old new stands amends;
      untouched = tt;
    }

    pub appended_not : (journal : Option (Option Current)) (fault : StoreFault) (added : List Effect) → Appends current delta (Err (journal, fault)) added → Exchanges current old new (Err fault) added
    appended_not journal fault added did = record {
      store = did.store;
      swap = λ first before stands. did.swap first before old new stands amends;
      turn = λ first before stands. tt;
      untouched = not_touched current added journal fault did.why_not;
    }

  pub compacted : (next : Option Current) (added : List Effect) → Compacts current new (Ok next) added → Exchanges current old new (Ok next) added
  compacted next added did = record {
    store = did.store;
    swap = λ first before stands. did.swap first before old stands;
    turn = λ first before stands. did.turn first before old stands;
    untouched = tt;
  }

  pub compacted_not : (journal : Option (Option Current)) (fault : StoreFault) (added : List Effect) → Compacts current new (Err (journal, fault)) added → Exchanges current old new (Err fault) added
  compacted_not journal fault added did = record {
    store = did.store;
    swap = λ first before stands. did.swap first before old stands;
    turn = λ first before stands. tt;
    untouched = not_touched current added journal fault did.why_not;
  }
