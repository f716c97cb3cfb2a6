-- How reading refuses.
use Rattle.std.proofs.Common.{ℕ, List, Result, Err}
use Rattle.checkpoint_records.specs.Damage.{IsRefused, RefusesAs, StandFor}
use Rattle.checkpoint_records.specs.declared.records.Book.{Book}
use Rattle.checkpoint_records.specs.declared.refusals.BookRefusal.{BookRefusal}
use Rattle.checkpoint_records.specs.declared.refusals.BookRefusal.TheVariants.{Damaged, NoMemory}
use Rattle.checkpoint_records.proofs.BookLaws.{stands_for_one}

pub exactly_refused : (bytes : List ℕ) (answer : Result Book ℕ) (refusal : BookRefusal) → StandFor bytes answer → IsRefused bytes refusal → RefusesAs refusal answer
exactly_refused bytes answer (Damaged at) stands is = stands_for_one bytes answer (Err at) stands is
exactly_refused bytes answer NoMemory stands is = tt
