-- What a splitter lends is a frame, and what it holds is part of one.
use Rattle.std.proofs.Common.{◌≡◌, ℕ, ◌+◌, ◌*◌, ◌≤◌, List, length, drop, Option, Some, None, refl, sym, ap, ◌∙◌, subst, arith}
use Rattle.std.specs.Prelude.{IsSome}
use Rattle.std.proofs.lemmas.Bool.{le-ltb}
use Rattle.ice_values.specs.Numbers.{number}
use Rattle.ice_values.specs.Frames.{IsFrame}
use Rattle.ice_values.specs.declared.numbers.Endian.{Endian}
use Rattle.ice_framing.specs.Frames.{Standing, cut, units, units_in, wanted, endian, endian_in, IsPartial, unit_limit}
use Rattle.ice_framing.proofs.Cuts.{cut-partial}

stated : (e : Endian) (held : List ℕ) → 8 ≤ length held → units_in (Some e) held ≡ number e 4 (drop 4 held)
stated e held whole = rw (le-ltb (length held) 8 whole) refl

framed_by : (at : Standing) (e : Endian) → at.order ≡ Some e → length at.held ≡ wanted at → IsFrame e at.held
framed_by at e is whole =
    let header : 8 ≤ length at.held = omega (arith, whole) in
    let units_are : units at ≡ number e 4 (drop 4 at.held) = ap (λ o. units_in o at.held) is ∙ stated e at.held header in
    record { header = header; units = whole ∙ ap (λ (n : ℕ). 8 + 8 * n) units_are }

framed_in : (at : Standing) (order : Option Endian) → at.order ≡ order → IsSome order → length at.held ≡ wanted at → IsFrame (endian at) at.held
framed_in at None is known whole = absurd cc
framed_in at (Some e) is known whole = subst (λ (f : Endian). IsFrame f at.held) (sym (ap (λ o. endian_in o at.held) is)) (framed_by at e is whole)

pub later_framed : (at : Standing) → IsSome at.order → length at.held ≡ wanted at → IsFrame (endian at) at.held
later_framed at known whole = framed_in at at.order refl known whole

pub settled : (at : Standing) → IsPartial at → units at ≤ unit_limit → (cut at).standing ≡ at
settled at partial within = ap (λ c. c.standing) (cut-partial at partial)
