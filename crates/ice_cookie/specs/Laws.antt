-- Laws of authority entries and their bytes.
use Rattle.std.specs.Prelude.{◌≡◌, ℕ, List, Result, Ok}
use Rattle.ice_cookie.specs.Meaning.{StandFor}
use Rattle.ice_cookie.specs.Spelling.{list_bytes, HaveSpelling}
use Rattle.ice_cookie.specs.declared.authority.AuthorityEntry.{AuthorityEntry}

-- The bytes of entries stand for them, and for nothing else.
abbrev pub EntriesReadBack : Type 0
EntriesReadBack = (entries : List AuthorityEntry) → HaveSpelling entries → StandFor (list_bytes entries) (Ok entries) × ((answer : Result (List AuthorityEntry) ℕ) → StandFor (list_bytes entries) answer → answer ≡ Ok entries)

-- No bytes stand for two lists of entries, nor for a list and a place, nor for two places.
abbrev pub BytesStandForOne : Type 0
BytesStandForOne = (bytes : List ℕ) (first second : Result (List AuthorityEntry) ℕ) → StandFor bytes first → StandFor bytes second → first ≡ second
