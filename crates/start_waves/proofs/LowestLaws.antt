-- The lowest priority of programs, as one more of them is looked at.
use Rattle.std.proofs.Common.{◌≡◌, ℕ, ◌+◌, ◌<◌, Bool, true, false, cond, List, [], ◌∷◌, ◌++◌, length, take, sym, ap, ◌∙◌, arith, min}
use Rattle.std.specs.Prelude.{filter, get_or}
use Rattle.std.proofs.Math.Nat.{min_comm}
use Rattle.std.proofs.lemmas.List.{take_more, append-nil}
use Rattle.std.proofs.lemmas.List.Elements.{filter_more}
use Rattle.owned_lists.specs.declared.commands.Command.{Command}
use Rattle.start_waves.specs.declared.ranks.Ranked.{Ranked}
use Rattle.start_waves.specs.Ranks.{lowest, has_command, priority_of_command}

least : (a b c d : ℕ) → d ≡ min b c → min a d ≡ min (min a b) c
least a b c d e = omega (arith, e)

lowest_push : (programs : List Ranked) (it : Ranked) → lowest (programs ++ it ∷ []) ≡ min (lowest programs) it.priority
lowest_push [] it = min_comm it.priority 255
lowest_push (first ∷ programs) it = least first.priority (lowest programs) it.priority (lowest (programs ++ it ∷ [])) (lowest_push programs it)

pub lowest_more : (programs : List Ranked) (i : ℕ) (d : Ranked) → i < length programs → lowest (take (i + 1) programs) ≡ min (lowest (take i programs)) (get_or programs i d).priority
lowest_more programs i d lt = ap lowest (take_more programs i d lt) ∙ lowest_push (take i programs) (get_or programs i d)

with_one : (kept : List Ranked) (it : Ranked) (has : Bool) → lowest (kept ++ cond has (it ∷ []) []) ≡ cond has (min (lowest kept) it.priority) (lowest kept)
with_one kept it true = lowest_push kept it
with_one kept it false = ap lowest (append-nil kept)

pub priority_more : (command : Command) (ranks : List Ranked) (i : ℕ) (it : Ranked) → i < length ranks → it ≡ get_or ranks i it
    → priority_of_command command (take (i + 1) ranks) ≡ cond (has_command command it) (min (priority_of_command command (take i ranks)) it.priority) (priority_of_command command (take i ranks))
priority_more command ranks i it lt is =
    let before : ℕ = priority_of_command command (take i ranks) in
    ap lowest (filter_more (has_command command) ranks i it lt) ∙ with_one (filter (has_command command) (take i ranks)) (get_or ranks i it) (has_command command (get_or ranks i it))
    ∙ ap (λ (x : Ranked). cond (has_command command x) (min before x.priority) before) (sym is)
