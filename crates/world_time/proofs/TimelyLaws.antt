-- What the calls of links do to the moments so far.
use Rattle.std.proofs.Common.{◌≡◌, ◌+◌, ◌≤◌, ℕ, List, [], ◌∷◌, ◌++◌, refl, arith}
use Rattle.std.specs.Prelude.{Result, Ok, Err}
use Rattle.sm_world.specs.declared.events.Event.{Event}
use Rattle.sm_world.specs.declared.events.Event.TheVariants.{Joined, Piece, Gone, Operator, Tick, End}
use Rattle.sm_world.specs.declared.failures.Failure.{Failure}
use Rattle.world_time.specs.Timely.{Moment, Given, Told, told_in, IsTimely, passed_in, passed_by, moment_of, moments_of}

-- the clock goes on
pub timely-later : (before now : ℕ) (moments : List Moment) → before ≤ now → IsTimely before moments → IsTimely now moments
timely-later before now [] within timely = tt
timely-later before now (Given at ∷ moments) within timely = (omega (arith, within, timely.0), timely-later before now moments within timely.1)
timely-later before now (Told passed ∷ moments) within timely = timely-later before now moments within timely

pub told_in-append : (moments more : List Moment) → told_in (moments ++ more) ≡ told_in moments + told_in more
told_in-append [] more = omega arith
told_in-append (Given at ∷ moments) more = told_in-append moments more
told_in-append (Told passed ∷ moments) more = omega (arith, told_in-append moments more)

-- more comes behind, which tells no more than what went by since
pub timely-append : (before now : ℕ) (moments more : List Moment) → before + told_in more ≤ now → IsTimely now more → IsTimely before moments → IsTimely now (moments ++ more)
timely-append before now [] more within later timely = later
timely-append before now (Given at ∷ moments) more within later timely =
    (omega (arith, within, timely.0, told_in-append moments more), timely-append before now moments more within later timely.1)
timely-append before now (Told passed ∷ moments) more within later timely = timely-append before now moments more within later timely

told_in-event : (now : ℕ) (event : Event) → told_in (moment_of now event ∷ []) ≡ passed_in event
told_in-event now (Tick passed) = omega arith
told_in-event now (Joined conn) = refl
told_in-event now (Piece conn bytes) = refl
told_in-event now (Gone conn) = refl
told_in-event now (Operator order) = refl
told_in-event now End = refl

told_in-result : (now : ℕ) (result : Result Event Failure) → told_in (moments_of now result) ≡ passed_by result
told_in-result now (Ok event) = told_in-event now event
told_in-result now (Err failure) = refl

timely-event : (now : ℕ) (event : Event) → IsTimely now (moment_of now event ∷ [])
timely-event now (Tick passed) = tt
timely-event now (Joined conn) = (omega arith, tt)
timely-event now (Piece conn bytes) = (omega arith, tt)
timely-event now (Gone conn) = (omega arith, tt)
timely-event now (Operator order) = (omega arith, tt)
timely-event now End = (omega arith, tt)

timely-result : (now : ℕ) (result : Result Event Failure) → IsTimely now (moments_of now result)
timely-result now (Ok event) = timely-event now event
timely-result now (Err failure) = tt

-- a call gives what was sent before, and then tells an event
pub timely-call : (before now at : ℕ) (result : Result Event Failure) (moments : List Moment) → before + passed_by result ≤ now → at + passed_by result ≤ now → IsTimely before moments → IsTimely now (moments ++ Given at ∷ moments_of now result)
timely-call before now at result moments within given timely =
    timely-append before now moments (Given at ∷ moments_of now result)
    (omega (arith, within, told_in-result now result))
    (omega (arith, given, told_in-result now result), timely-result now result)
    timely

-- something is given
pub timely-given : (before now at : ℕ) (moments : List Moment) → before ≤ now → at ≤ now → IsTimely before moments → IsTimely now (moments ++ Given at ∷ [])
timely-given before now at moments within given timely =
    timely-append before now moments (Given at ∷ []) (omega (arith, within)) (omega (arith, given), tt) timely
