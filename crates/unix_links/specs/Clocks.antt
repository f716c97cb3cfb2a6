-- What the links' clock showed, in milliseconds.
use Rattle.std.specs.Prelude.{ℕ}
use Rattle.unix_links.specs.declared.links.SocketLinks.{SocketLinks}

-- as it was read last; where somebody is asked something, the millisecond that has begun counts as over
abbrev pub clock : SocketLinks → ℕ
clock links = links.hours.read

-- as something that was sent was handed to the system last
abbrev pub given_at : SocketLinks → ℕ
given_at links = links.hours.given
