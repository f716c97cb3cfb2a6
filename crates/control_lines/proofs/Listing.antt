-- What lists of lines say.
use Rattle.std.proofs.Common.{inl, inr, ℕ, List, [], ◌∷◌, ◌++◌, sym, subst}
use Rattle.std.specs.List.{AllByRecursion}
use Rattle.sm_world.specs.Events.{HasPieceSize}
use Rattle.sm_world.specs.declared.events.Event.{Event}
use Rattle.sm_world.specs.declared.events.Event.TheVariants.{Joined, Piece, Gone, Operator, Tick, End}
use Rattle.control_lines.specs.Script.{Says, SayAll}

-- lines, and more lines
pub SayAll-append : (lines others : List (List ℕ)) (events more : List Event) → SayAll lines events → SayAll others more → SayAll (lines ++ others) (events ++ more)
SayAll-append [] others events more all rest =
    let P : List Event → Type 0 = λ es. SayAll others (es ++ more) in subst P (sym all) rest
SayAll-append (line ∷ lines) others events more (inl skipped) rest = inl (skipped.0, SayAll-append lines others events more skipped.1 rest)
SayAll-append (line ∷ lines) others [] more (inr says) rest = elim says [ ]
SayAll-append (line ∷ lines) others (event ∷ events) more (inr says) rest = inr (says.0, SayAll-append lines others events more says.1 rest)

-- what a line says has the size of a piece
pub Says-sized : (line : List ℕ) (event : Event) → Says line event → HasPieceSize event
Says-sized line (Joined n) says = tt
Says-sized line (Piece n bytes) (fields, begins, says) = (says.said.hex.some, says.within)
Says-sized line (Gone n) says = tt
Says-sized line (Operator order) says = tt
Says-sized line (Tick milliseconds) says = tt
Says-sized line End says = elim says [ ]

pub SayAll-sized : (lines : List (List ℕ)) (events : List Event) → SayAll lines events → AllByRecursion HasPieceSize events
SayAll-sized [] events all =
    let P : List Event → Type 0 = λ es. AllByRecursion HasPieceSize es in subst P (sym all) tt
SayAll-sized (line ∷ lines) events (inl skipped) = SayAll-sized lines events skipped.1
SayAll-sized (line ∷ lines) [] (inr says) = elim says [ ]
SayAll-sized (line ∷ lines) (event ∷ events) (inr says) = (Says-sized line event says.0, SayAll-sized lines events says.1)
