-- What waves keep: each program goes once, those of the lowest priority first.
use Rattle.std.proofs.Common.{◌≡◌, ◌∙◌, ℕ, ◌<◌, ◌≤◌, ◌==◌, Bool, true, false, not, cond, List, [], ◌∷◌, length, map, refl, ap, ap₂, arith}
use Rattle.std.specs.Prelude.{filter}
use Rattle.std.specs.List.{All}
use Rattle.std.proofs.Math.Nat.{min-le_left, min-le_right}
use Rattle.std.proofs.lemmas.List.{length-map}
use Rattle.std.proofs.lemmas.List.Elements.{All-cons, All-nil, All-weaker, filter_passes}
use Rattle.std.proofs.lemmas.List.Sorted.{IsPermutation-filter_both}
use Rattle.start_waves.specs.declared.ranks.Ranked.{Ranked}
use Rattle.start_waves.specs.Ranks.{lowest}
use Rattle.owned_lists.specs.declared.commands.Command.{Command}
use Rattle.start_waves.specs.Waves.{Login, command_in, has_priority, has_other_priority, next_wave, wave_gone}
use Rattle.start_waves.specs.Laws.{NoneIsLost, EarlierGoFirst, HasPriority, IsLater}

pub none_lost : NoneIsLost
none_lost waiting = IsPermutation-filter_both (has_priority (lowest waiting)) (has_other_priority (lowest waiting)) (λ it. refl) waiting

-- a program of another priority than the lowest has a higher one
above : (m p : ℕ) → m ≤ p → (p == m) ≡ false → m < p
above m p le e = grind (arith, le, e)

-- one more is looked at
one_later : (m : ℕ) (it : Ranked) (left : List Ranked) (same : Bool) → (it.priority == m) ≡ same → m ≤ it.priority → All (IsLater m) left → All (IsLater m) (cond (not same) (it ∷ left) left)
one_later m it left true e le later = later
one_later m it left false e le later = All-cons (IsLater m) it left (above m it.priority le e) later

all_later : (m : ℕ) (waiting : List Ranked) → m ≤ lowest waiting → All (IsLater m) (filter (has_other_priority m) waiting)
all_later m [] le = All-nil (IsLater m)
all_later m (it ∷ waiting) le =
    one_later m it (filter (has_other_priority m) waiting) (it.priority == m) refl (omega (arith, le, min-le_left it.priority (lowest waiting))) (all_later m waiting (omega (arith, le, min-le_right it.priority (lowest waiting))))

same_priority : (m : ℕ) (it : Ranked) → has_priority m it ≡ true → it.priority ≡ m
same_priority m it e = grind (arith, e)

pub earlier_first : EarlierGoFirst
earlier_first waiting =
    (All-weaker (λ it. has_priority (lowest waiting) it ≡ true) (HasPriority (lowest waiting)) (same_priority (lowest waiting)) (next_wave waiting) (filter_passes (has_priority (lowest waiting)) waiting), all_later (lowest waiting) waiting (omega arith))

-- the login behind a wave, by what was found of it
pub begins : (login : Login) (priority awaited : ℕ) (left : List Ranked) (wave : List Command) → priority ≡ lowest login.waiting → left ≡ filter (has_other_priority priority) login.waiting → wave ≡ map command_in (filter (has_priority priority) login.waiting) → awaited ≡ length wave
    → record { ranks = login.ranks; waiting = left; begun = true; awaited = awaited; passed = 0 } ≡ wave_gone login
begins login priority awaited left wave least rest first count =
    ap₂ (λ (waiting : List Ranked) (n : ℕ). record { ranks = login.ranks; waiting = waiting; begun = true; awaited = n; passed = 0 })
    (rest ∙ ap (λ (n : ℕ). filter (has_other_priority n) login.waiting) least)
    (count ∙ ap length first ∙ length-map (filter (has_priority priority) login.waiting) command_in ∙ ap (λ (n : ℕ). length (filter (has_priority n) login.waiting)) least)
