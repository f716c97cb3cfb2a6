-- What is known of two tests where one of them holds, or neither, and what of a list in which nothing stands twice.
use Rattle.std.proofs.Common.{◌≡◌, Bool, true, false, not, ◌&&◌, ◌||◌, refl, sym}

pub left : (a b : Bool) → (a || b) ≡ false → a ≡ false
left true b e = e
left false b e = refl

pub right : (a b : Bool) → (a || b) ≡ false → b ≡ false
right true b e = absurd cc
right false b e = e

pub head-apart : (a b : Bool) → (not a && b) ≡ true → a ≡ false
head-apart true b e = sym e
head-apart false b e = refl

pub tail-apart : (a b : Bool) → (not a && b) ≡ true → b ≡ true
tail-apart true b e = absurd cc
tail-apart false b e = e

pub both : (a b : Bool) → a ≡ false → b ≡ true → (not a && b) ≡ true
both true b e f = sym e
both false b e f = f
