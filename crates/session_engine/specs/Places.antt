-- Where the live connections lie.
use Rattle.std.specs.Prelude.{◌≡◌, ℕ, Option, Some, None}
use Rattle.std.specs.Ordering.{nat_cmp}
use Rattle.std.specs.BTreeMap.{BTreeMap, get as place_of}
use Rattle.slab.specs.Slab.{Slab, get}
use Rattle.session_engine.specs.declared.connection.Connection.{Connection as Kept}

-- what lies at a place, if anything does
abbrev pub kept_in : Slab Kept → Option ℕ → Option Kept
kept_in seats None = None
kept_in seats (Some place) = get seats place

-- its number
abbrev pub number_in : Option Kept → Option ℕ
number_in None = None
number_in (Some kept) = Some kept.conn

-- where a number has a place, its connection lies there
abbrev pub AreSeated : BTreeMap ℕ ℕ → Slab Kept → Type 0
AreSeated places seats = (q place : ℕ) → place_of nat_cmp places q ≡ Some place → number_in (get seats place) ≡ Some q
