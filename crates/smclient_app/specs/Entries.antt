-- The entry of an authority file by which a client gets in.
use Rattle.std.specs.Prelude.{◌≡◌, ◌⊎◌, ℕ, ◌-◌, ◌==◌, ◌&&◌, Bool, List, ◌∷◌, length, drop, find, Option, None, Some, codes}
use Rattle.std.specs.Str.{bytes_eq}
use Rattle.ice_cookie.specs.Meaning.{IsShort, Spells}
use Rattle.ice_cookie.specs.declared.authority.AuthorityEntry.{AuthorityEntry}
use Rattle.ice_cookie.specs.declared.cookies.Cookie.{Cookie}
use Rattle.smclient_app.specs.declared.entries.EntryRefusal.{EntryRefusal}
use Rattle.smclient_app.specs.declared.entries.EntryRefusal.TheVariants.{NoEntry, NoMemory}

abbrev pub ends_in : List ℕ → List ℕ → Bool
ends_in end bytes = bytes_eq (drop (length bytes - length end) bytes) end

-- The entry is one of ICE's, with a cookie of 16 bytes, and its network id ends so.
abbrev pub lets_in : List ℕ → AuthorityEntry → Bool
lets_in end entry = bytes_eq entry.protocol (codes "ICE") && (bytes_eq entry.name (codes "MIT-MAGIC-COOKIE-1") && (length entry.proof == 16 && ends_in end entry.network))

-- The first entry that lets a client in at the socket with this path: its network id ends in a colon (58) and the path.
abbrev pub first_entry : List ℕ → List AuthorityEntry → Option AuthorityEntry
first_entry socket entries = find (lets_in (58 ∷ socket)) entries

-- A file has this cookie for a client at the socket.
pub record HasCookie (socket bytes : List ℕ) (cookie : Cookie) : Type 0 where
  pub entries : List AuthorityEntry
  pub spelled : Spells bytes entries
  pub entry : AuthorityEntry
  pub first : first_entry socket entries ≡ Some entry
  pub is : entry.proof ≡ cookie.0

-- A file has none: it is short, or none of its entries lets the client in.
abbrev pub HasNone : List ℕ → List ℕ → Type 0
HasNone socket bytes = ((at : ℕ) × IsShort bytes at) ⊎ ((entries : List AuthorityEntry) × Spells bytes entries × (first_entry socket entries ≡ None))

-- want of memory has no cause in the file
abbrev pub IsEntryRefusal : List ℕ → List ℕ → EntryRefusal → Type 0
IsEntryRefusal socket bytes NoEntry = HasNone socket bytes
IsEntryRefusal socket bytes NoMemory = Unit {0}
