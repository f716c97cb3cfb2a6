-- What the manager takes from an offer of names and versions.
use Rattle.std.specs.Prelude.{ℕ, Bool, List, Option, Some, None, nat_lt, ◌==◌, ◌&&◌, if◌then◌else◌, codes, position}
use Rattle.std.specs.Str.{bytes_eq}
use Rattle.ice_values.specs.declared.version.Version.{Version}

-- the one authentication protocol that the manager speaks, and the one protocol over ICE
abbrev pub cookie_name : List ℕ
cookie_name = codes "MIT-MAGIC-COOKIE-1"

abbrev pub xsmp_name : List ℕ
xsmp_name = codes "XSMP"

abbrev pub is_cookie_name : List ℕ → Bool
is_cookie_name name = bytes_eq name cookie_name

abbrev pub is_xsmp : List ℕ → Bool
is_xsmp name = bytes_eq name xsmp_name

-- the one version of ICE and of XSMP that the manager speaks
abbrev pub is_version_1_0 : Version → Bool
is_version_1_0 v = (v.major == 1) && (v.minor == 0)

-- an index, where one byte can say it
abbrev pub index_byte : Option ℕ → Option ℕ
index_byte None = None
index_byte (Some n) = if nat_lt n 256 then Some n else None

-- the index of the first item that passes
abbrev pub first_where : {A : Type 0} → (A → Bool) → List A → Option ℕ
first_where passes items = index_byte (position passes items)

abbrev pub first_version : List Version → Option ℕ
first_version offered = first_where is_version_1_0 offered

abbrev pub first_cookie_name : List (List ℕ) → Option ℕ
first_cookie_name names = first_where is_cookie_name names
