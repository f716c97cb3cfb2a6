-- What shows a cookie.
use Rattle.std.specs.Prelude.{ℕ, Bool, List}
use Rattle.std.specs.Str.{bytes_eq}
use Rattle.ice_cookie.specs.declared.cookies.Cookie.{Cookie}

-- the bytes are the cookie's 16
abbrev pub shows : Cookie → List ℕ → Bool
shows cookie proof = bytes_eq proof cookie.0
