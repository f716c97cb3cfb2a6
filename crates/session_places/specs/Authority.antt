-- The authority file, and the cookie that it has for an address.
use Rattle.std.specs.Prelude.{◌≡◌, ℕ, ◌==◌, ◌&&◌, Bool, List, [], ◌∷◌, ◌++◌, length, codes, find, Option, Some, None, if◌then◌else◌}
use Rattle.std.specs.Str.{bytes_eq}
use Rattle.ice_cookie.specs.Meaning.{IsShort, Spells}
use Rattle.ice_cookie.specs.declared.authority.AuthorityEntry.{AuthorityEntry}
use Rattle.ice_cookie.specs.declared.cookies.Cookie.{Cookie}
use Rattle.session_places.specs.declared.cookies.CookieRefusal.{CookieRefusal}
use Rattle.session_places.specs.declared.cookies.CookieRefusal.TheVariants.{BadFile, NoEntry, NoMemory}

unfoldable pub own_file : List ℕ
own_file = codes ".ICEauthority"

-- the file in a folder; behind the root (a slash alone, 47) there is no second slash
abbrev pub file_in : List ℕ → List ℕ
file_in home = if bytes_eq home (47 ∷ []) then home ++ own_file else (home ++ (47 ∷ [])) ++ own_file

-- what ICEAUTHORITY says, or else the file in HOME
abbrev pub authority_at : Option (List ℕ) → Option (List ℕ) → Option (List ℕ)
authority_at (Some path) home = Some path
authority_at None (Some home) = Some (file_in home)
authority_at None None = None

-- The entry is one of ICE's, with a cookie of 16 bytes, for this network ID.
abbrev pub lets_in : List ℕ → AuthorityEntry → Bool
lets_in network entry = bytes_eq entry.protocol (codes "ICE") && (bytes_eq entry.name (codes "MIT-MAGIC-COOKIE-1") && (length entry.proof == 16 && bytes_eq entry.network network))

-- A file has this cookie for a network ID: that of the first entry that lets a client in there.
pub record HasCookie (network bytes : List ℕ) (cookie : Cookie) : Type 0 where
  pub entries : List AuthorityEntry
  pub spelled : Spells bytes entries
  pub entry : AuthorityEntry
  pub first : find (lets_in network) entries ≡ Some entry
  pub is : entry.proof ≡ cookie.0

-- None of its entries lets a client in there.
abbrev pub HasNone : List ℕ → List ℕ → Type 0
HasNone network bytes = (entries : List AuthorityEntry) × Spells bytes entries × (find (lets_in network) entries ≡ None)

-- want of memory has no cause in the file
abbrev pub IsCookieRefusal : List ℕ → List ℕ → CookieRefusal → Type 0
IsCookieRefusal network bytes BadFile = (at : ℕ) × IsShort bytes at
IsCookieRefusal network bytes NoEntry = HasNone network bytes
IsCookieRefusal network bytes NoMemory = Unit {0}
