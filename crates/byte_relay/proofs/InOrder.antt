-- What is passed on of some later frames is the front of these, spelled anew.
use Rattle.std.proofs.Common.{ℕ, Bool, true, false, List, [], ◌∷◌, map, Option, Some, None, refl, ap, if◌then◌else◌}
use Rattle.ice_values.specs.declared.numbers.Endian.{Endian}
use Rattle.ice_framing.specs.Parts.{Whole}
use Rattle.ice_framing.specs.declared.cutting.WholeFrame.{WholeFrame}
use Rattle.byte_relay.specs.Orders.{is_byte_order}
use Rattle.byte_relay.specs.Relaying.{Breaks, Passed, passed_by, passed, passes}
use Rattle.byte_relay.specs.Respelling.{respelled}
use Rattle.heard_events.specs.Brought.{IsPrefix}

abbrev pub given : Passed → List (Option (List ℕ))
given p = map Some p.messages

pub by_test : (order : Bool) (spelled : Option (List ℕ)) (later : Passed) (rest : List (Option (List ℕ))) → IsPrefix (given later) rest → IsPrefix (given (passed_by (if order then Breaks else passes spelled) later)) (spelled ∷ rest)
by_test true spelled later rest front = (spelled ∷ rest, refl)
by_test false (Some bytes) later rest front = (front.0, ap (λ (xs : List (Option (List ℕ))). Some bytes ∷ xs) front.1)
by_test false None later rest front = (None ∷ rest, refl)

pub in_order : (to : Endian) (frames : List WholeFrame) → IsPrefix (given (passed to false (map Whole frames))) (map (λ (frame : WholeFrame). respelled frame.endian to frame.bytes) frames)
in_order to [] = ([], refl)
in_order to (frame ∷ frames) = by_test (is_byte_order frame.endian frame.bytes) (respelled frame.endian to frame.bytes) (passed to false (map Whole frames)) (map (λ (f : WholeFrame). respelled f.endian to f.bytes) frames) (in_order to frames)
