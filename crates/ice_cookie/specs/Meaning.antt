-- What the bytes of an authority file stand for.
use Rattle.std.specs.Prelude.{◌≡◌, ◌≢◌, ℕ, List, [], ◌++◌, length, Result, Ok, Err}
use Rattle.ice_cookie.specs.Spelling.{entry_bytes, HasSpelling, list_bytes, HaveSpelling}
use Rattle.ice_cookie.specs.declared.authority.AuthorityEntry.{AuthorityEntry}
use Rattle.ice_cookie.specs.declared.refusals.AuthorityRefusal.{AuthorityRefusal}
use Rattle.ice_cookie.specs.declared.refusals.AuthorityRefusal.TheVariants.{TooLong, Short, NoMemory}

-- the bytes spell these entries
pub record Spells (bytes : List ℕ) (entries : List AuthorityEntry) : Type 0 where
  pub fit : HaveSpelling entries
  pub is : bytes ≡ list_bytes entries

-- the bytes begin with no whole entry
abbrev pub HasNoFront : List ℕ → Type 0
HasNoFront bytes = (entry : AuthorityEntry) (after : List ℕ) → HasSpelling entry → bytes ≡ entry_bytes entry ++ after → ⊥

-- Behind whole entries, from this place on, bytes are left, and these begin with no whole entry.
pub record IsShort (bytes : List ℕ) (at : ℕ) : Type 0 where
  pub entries : List AuthorityEntry
  pub rest : List ℕ
  pub fit : HaveSpelling entries
  pub is : bytes ≡ list_bytes entries ++ rest
  pub place : at ≡ length (list_bytes entries)
  pub left : rest ≢ []
  pub no_front : HasNoFront rest

-- the entries that the bytes spell, or the place from which on they are short
abbrev pub StandFor : List ℕ → Result (List AuthorityEntry) ℕ → Type 0
StandFor bytes (Ok entries) = Spells bytes entries
StandFor bytes (Err at) = IsShort bytes at

-- no bytes are too long, and want of memory has no cause in them
abbrev pub IsRefused : List ℕ → AuthorityRefusal → Type 0
IsRefused bytes TooLong = ⊥
IsRefused bytes (Short at) = IsShort bytes at
IsRefused bytes NoMemory = Unit {0}

-- a call's answer is this one, unless memory was wanting
abbrev pub RefusesAs : AuthorityRefusal → Result (List AuthorityEntry) ℕ → Type 0
RefusesAs TooLong answer = ⊥
RefusesAs (Short at) answer = answer ≡ Err at
RefusesAs NoMemory answer = Unit {0}

abbrev pub Gives : Result (List AuthorityEntry) AuthorityRefusal → Result (List AuthorityEntry) ℕ → Type 0
Gives (Ok entries) answer = answer ≡ Ok entries
Gives (Err refusal) answer = RefusesAs refusal answer
