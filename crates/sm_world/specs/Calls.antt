-- The calls of a world by their numbers.
use Rattle.std.specs.Prelude.{ℕ, ◌+◌, ◌-◌, ◌^◌, min, Bool, if◌then◌else◌, List}

pub record Numbered : Type 0 where
  -- the numbers of the calls that fail
  pub failing : List ℕ
  -- the number of the last call, and 0 before the first
  pub last : ℕ

-- one more, but the largest u64 stays
abbrev pub one_more : ℕ → ℕ
one_more n = min (n + 1) (2 ^ 64 - 1)

-- One more call was made. The largest u64 is the number of every call after it.
abbrev pub counted : Numbered → Numbered
counted calls = record calls { last = one_more calls.last }

-- how often a device has failed, after a call that failed or didn't
abbrev pub counted_if : Bool → ℕ → ℕ
counted_if failed count = if failed then one_more count else count
