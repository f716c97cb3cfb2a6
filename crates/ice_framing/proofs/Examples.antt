-- The frames of some small streams, worked by hand.
use Rattle.std.proofs.Common.{◌≡◌, ℕ, List, [], ◌∷◌, ◌++◌, Some, None, refl}
use Rattle.ice_values.specs.declared.numbers.Endian.TheVariants.{Msb}
use Rattle.ice_framing.specs.Frames.{cut, frames_of, standing_of}

-- a ByteOrder that says MSB first and states 7 units, which it hasn't
abbrev opening : List ℕ
opening = 0 ∷ 1 ∷ 1 ∷ 0 ∷ 0 ∷ 0 ∷ 0 ∷ 7 ∷ []

-- a frame of one unit, in that order
abbrev one_unit : List ℕ
one_unit = 0 ∷ 2 ∷ 0 ∷ 0 ∷ 0 ∷ 0 ∷ 0 ∷ 1 ∷ 11 ∷ 12 ∷ 13 ∷ 14 ∷ 15 ∷ 16 ∷ 17 ∷ 18 ∷ []

-- a header that states 8,193 units
abbrev too_much : List ℕ
too_much = 0 ∷ 2 ∷ 0 ∷ 0 ∷ 0 ∷ 0 ∷ 32 ∷ 1 ∷ []

two_frames : frames_of (opening ++ one_unit ++ 9 ∷ []) ≡ record { endian = Msb; bytes = opening } ∷ record { endian = Msb; bytes = one_unit } ∷ []
unfolding cut
two_frames = refl

nine_left : standing_of (opening ++ one_unit ++ 9 ∷ []) ≡ record { order = Some Msb; held = 9 ∷ [] }
unfolding cut
nine_left = refl

ends_at_too_much : standing_of (opening ++ too_much ++ one_unit) ≡ record { order = Some Msb; held = too_much ++ one_unit }
unfolding cut
ends_at_too_much = refl

seven_bytes : standing_of (0 ∷ 1 ∷ 1 ∷ 0 ∷ 0 ∷ 0 ∷ 0 ∷ []) ≡ record { order = None; held = 0 ∷ 1 ∷ 1 ∷ 0 ∷ 0 ∷ 0 ∷ 0 ∷ [] }
unfolding cut
seven_bytes = refl
