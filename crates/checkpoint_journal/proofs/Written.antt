-- Puts that follow one another, and how many bytes they write.
use Rattle.std.proofs.Common.{◌≡◌, ◌+◌, ◌≤◌, ◌⊎◌, ℕ, List, [], ◌∷◌, ◌++◌, length, refl, ap, sym, subst, ◌∙◌, inl, inr, arith}
use Rattle.std.specs.Prelude.{Err, Ok, Option, Result}
use Rattle.sm_world.specs.Outside.{Added, adds}
use Rattle.sm_world.proofs.Adding.{adds-adds}
use Rattle.sm_world.specs.declared.effects.Effect.{Effect}
use Rattle.sm_world.specs.declared.effects.Effect.TheVariants.{Synced, Wrote}
use Rattle.checkpoint_slots.specs.Turns.{IsPut, Puts, done, nothing, tore, unsynced, wrote}
use Rattle.checkpoint_journal.specs.Writing.{AreCut, PutsAll, all_put, bytes_in}

-- The puts as far as they came, or all of them.
abbrev pub ArePut : List (ℕ × List ℕ) → List Effect → Type 0
ArePut [] added = added ≡ []
ArePut (put ∷ puts) added = IsPut put.0 put.1 added ⊎ ((more : List Effect) × ArePut puts more × (added ≡ Wrote put.0 put.1 ∷ Synced ∷ more))

pub cut-are : (puts : List (ℕ × List ℕ)) (added : List Effect) → AreCut puts added → ArePut puts added
cut-are [] added cut = absurd cut
cut-are (put ∷ puts) added (inl last) = inl last.0
cut-are (put ∷ puts) added (inr more) = inr (more.0, cut-are puts more.0 more.1, more.2)

-- no more is written than is put
pub put-bytes : (at : ℕ) (bytes : List ℕ) {added : List Effect} → IsPut at bytes added → bytes_in added ≤ length bytes
put-bytes at bytes nothing = omega arith
put-bytes at bytes (tore two) = omega arith
put-bytes at bytes wrote = omega arith
put-bytes at bytes unsynced = omega arith
put-bytes at bytes done = omega arith

abbrev pub all_bytes_of : List (ℕ × List ℕ) → ℕ
all_bytes_of [] = 0
all_bytes_of (put ∷ puts) = length put.1 + all_bytes_of puts

pub puts-bytes : (puts : List (ℕ × List ℕ)) (added : List Effect) → ArePut puts added → bytes_in added ≤ all_bytes_of puts
puts-bytes [] added is = let e = ap bytes_in is in omega (arith, e)
puts-bytes (put ∷ puts) added (inl last) = let b = put-bytes put.0 put.1 last in omega (arith, b)
puts-bytes (put ∷ puts) added (inr more) = let b = puts-bytes puts more.0 more.1 in let e = ap bytes_in more.2 in omega (arith, b, e)

pub all-put : (puts : List (ℕ × List ℕ)) → ArePut puts (all_put puts)
all-put [] = refl
all-put (put ∷ puts) = inr (all_put puts, all-put puts, refl)

pub are-put : {A E : Type 0} (puts : List (ℕ × List ℕ)) (result : Result A E) (added : List Effect) → PutsAll puts result added → ArePut puts added
are-put puts (Ok x) added is = subst (λ (es : List Effect). ArePut puts es) (sym is) (all-put puts)
are-put puts (Err e) added is = cut-are puts added is

-- one put, and then others
pub puts-then : {A B F : Type 0} (E : Type 0) (at : ℕ) (bytes : List ℕ) (x : A) (puts : List (ℕ × List ℕ)) (result : Result B F) (es ds : List Effect) → Puts {A = A} {E = E} at bytes (Ok x) es → PutsAll puts result ds → PutsAll ((at, bytes) ∷ puts) result (es ++ ds)
puts-then E at bytes x puts (Ok y) es ds one two = ap (λ (zs : List Effect). zs ++ ds) one ∙ ap (λ (zs : List Effect). Wrote at bytes ∷ Synced ∷ zs) two
puts-then E at bytes x puts (Err f) es ds one two = inr (ds, two, ap (λ (zs : List Effect). zs ++ ds) one)

pub puts-cut : (A B : Type 0) {E F : Type 0} (at : ℕ) (bytes : List ℕ) (e : E) (f : F) (puts : List (ℕ × List ℕ)) (es : List Effect) → Puts {A = A} {E = E} at bytes (Err e) es → PutsAll {A = B} {E = F} ((at, bytes) ∷ puts) (Err f) es
puts-cut A B at bytes e f puts es one = inl one

pub puts-last : {A E : Type 0} (at : ℕ) (bytes : List ℕ) (result : Result A E) (es : List Effect) → Puts at bytes result es → PutsAll ((at, bytes) ∷ []) result es
puts-last at bytes (Ok x) es one = one
puts-last at bytes (Err e) es one = inl one

-- effects that are added by one call after another
pub added-two : {old middle new : Option (List Effect)} {P Q R : List Effect → Type 0} → ((es ds : List Effect) → P es → Q ds → R (es ++ ds)) → Added old middle P → Added middle new Q → Added old new R
added-two {old = old} f one two = record {
  effects = one.effects ++ two.effects;
  added = two.added ∙ (ap (λ (t : Option (List Effect)). adds t two.effects) one.added ∙ adds-adds old one.effects two.effects);
  holds = f one.effects two.effects one.holds two.holds;
}

pub added-three : {old middle late new : Option (List Effect)} {P Q R S : List Effect → Type 0} → ((cs fs ls : List Effect) → P cs → Q fs → R ls → S (cs ++ (fs ++ ls))) → Added old middle P → Added middle late Q → Added late new R → Added old new S
added-three {old = old} {middle = middle} f one two three = record {
  effects = one.effects ++ (two.effects ++ three.effects);
  added = three.added ∙ (ap (λ (t : Option (List Effect)). adds t three.effects) two.added ∙ (adds-adds middle two.effects three.effects ∙ (ap (λ (t : Option (List Effect)). adds t (two.effects ++ three.effects)) one.added ∙ adds-adds old one.effects (two.effects ++ three.effects))));
  holds = f one.effects two.effects three.effects one.holds two.holds three.holds;
}
