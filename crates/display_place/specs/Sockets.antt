-- The sockets at which a display is, in the order in which they are tried.
use Rattle.std.specs.Prelude.{ℕ, List, [], ◌∷◌, ◌++◌, codes}
use Rattle.std.specs.Fmt.{decimal}
use Rattle.display_place.specs.declared.places.Place.{Place}
use Rattle.display_place.specs.declared.places.Place.TheVariants.{Local, Path, Host}

unfoldable pub folder : List ℕ
folder = codes "/tmp/.X11-unix/X"

abbrev pub socket_path : ℕ → List ℕ
socket_path number = folder ++ decimal number

-- the abstract name, which is a NUL and the path, comes before the path
abbrev pub sockets_of : Place → ℕ → List (List ℕ)
sockets_of Local number = (0 ∷ socket_path number) ∷ socket_path number ∷ []
sockets_of (Path path) number = path ∷ []
sockets_of (Host host port) number = []
