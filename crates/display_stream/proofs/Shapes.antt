-- What the parts of a stream look like, that they make it up, and that they don't depend on pieces.
use Rattle.std.proofs.Common.{◌≡◌, ℕ, zero, suc, ◌≤◌, List, [], ◌∷◌, ◌++◌, length, take, drop, refl, sym, ap, ◌∙◌, subst, arith, append-nil, append_assoc, false, inl, inr, ◌<◌}
use Rattle.std.proofs.lemmas.Bool.{cases_lt, cond_both}
use Rattle.std.proofs.lemmas.Bool.Decides.{nat_tests}
use Rattle.std.specs.List.{concat, AllByRecursion}
use Rattle.std.proofs.lemmas.List.{take-append-drop, length-take-le}
use Rattle.display_stream.specs.Parts.{Standing, Cut, beginning, fed, units, units_in, wanted, has_part, first_part, without_first, uncut, behind, cut_upto, cut, parts_of, standing_of, IsOversize}
use Rattle.display_stream.specs.Laws.{IsPart, AreParts, IsMadeOf}
use Rattle.display_stream.specs.declared.stages.Stage.TheVariants.{Later}
use Rattle.display_stream.proofs.Heads.{units_in-append, units_in-short}
use Rattle.display_stream.proofs.Cuts.{HasPart, has_part-true, has_part-standing, cut-none, ends_so, eight, cut_upto-enough, cut-fed}

-- the parts and what is left are all the bytes
joined_upto : (n : ℕ) (at : Standing) → concat (cut_upto n at).parts ++ (cut_upto n at).standing.held ≡ at.held
joined_upto zero at = refl
joined_upto (suc n) at =
    cond_both (has_part at) (behind (first_part at ∷ []) (cut_upto n (without_first at))) (uncut at) (λ (c : Cut). concat c.parts ++ c.standing.held ≡ at.held)
    (λ found.
    append_assoc (take (wanted at) at.held) (concat (cut_upto n (without_first at)).parts) (cut_upto n (without_first at)).standing.held
    ∙ ap (λ rest. take (wanted at) at.held ++ rest) (joined_upto n (without_first at))
    ∙ take-append-drop (wanted at) at.held)
    (λ none. refl)

-- a part in front is as long as it states
whole_part : (at : Standing) → HasPart at → IsPart at.stage (first_part at)
whole_part at found =
    let n = wanted at in
    let some = eight at.stage in
    let within : units at ≤ 65535 = found.within in
    let len : length (take n at.held) ≡ n = length-take-le n at.held found.whole in
    let same : units_in at.stage (take n at.held) ≡ units at =
    sym (units_in-append at.stage (take n at.held) (drop n at.held) (omega (arith, len))) ∙ ap (units_in at.stage) (take-append-drop n at.held) in
    record { whole = omega (arith, len, same); within = omega (arith, same) }

later_upto : (n : ℕ) (held : List ℕ) → AllByRecursion (IsPart Later) (cut_upto n (record { stage = Later; held = held })).parts
later_upto zero held = tt
later_upto (suc n) held =
    let at : Standing = record { stage = Later; held = held } in
    cond_both (has_part at) (behind (first_part at ∷ []) (cut_upto n (without_first at))) (uncut at) (λ (c : Cut). AllByRecursion (IsPart Later) c.parts)
    (λ found. (whole_part at (has_part-true at found), later_upto n (drop (wanted at) held)))
    (λ none. tt)

-- from the first part on
shapes_upto : (n : ℕ) (bytes : List ℕ) → AreParts (cut_upto n (fed beginning bytes)).parts
shapes_upto zero bytes = tt
shapes_upto (suc n) bytes =
    let at = fed beginning bytes in
    cond_both (has_part at) (behind (first_part at ∷ []) (cut_upto n (without_first at))) (uncut at) (λ (c : Cut). AreParts c.parts)
    (λ found. (whole_part at (has_part-true at found), later_upto n (drop (wanted at) bytes)))
    (λ none. tt)

pub made_of : (stream : List ℕ) → IsMadeOf stream
made_of stream =
    let at = fed beginning stream in
    record {
      joined = subst (λ (c : Cut). concat c.parts ++ c.standing.held ≡ stream) (cut_upto-enough (length stream) at (omega arith)) (joined_upto (length stream) at);
      shapes = subst (λ (c : Cut). AreParts c.parts) (cut_upto-enough (length stream) at (omega arith)) (shapes_upto (length stream) stream);
      end = ends_so (cut at).standing (has_part-standing at);
    }

pub same_parts : (front rest : List ℕ) → (parts_of (front ++ rest) ≡ parts_of front ++ (cut (fed (standing_of front) rest)).parts) × (standing_of (front ++ rest) ≡ (cut (fed (standing_of front) rest)).standing)
same_parts front rest =
    let whole = cut-fed (fed beginning front) rest in
    (ap (λ (c : Cut). c.parts) whole, ap (λ (c : Cut). c.standing) whole)

oversize-has_part : (at : Standing) → IsOversize at → has_part at ≡ false
oversize-has_part at much = grind (arith, nat_tests)

-- only what is whole states anything, and it goes on stating it
stated_whole : (at : Standing) → 0 < units at → 8 ≤ length at.held
stated_whole at much = elim (cases_lt (length at.held) 8) [ inl short ↦ absurd (let none = units_in-short at.stage at.held short in omega arith) | inr whole ↦ whole ]

oversize-fed : (at : Standing) (bytes : List ℕ) → IsOversize at → IsOversize (fed at bytes)
oversize-fed at bytes much = rw (units_in-append at.stage at.held bytes (stated_whole at (omega (arith, much)))) much

pub no_more : (front rest : List ℕ) → IsOversize (standing_of front) → parts_of (front ++ rest) ≡ parts_of front
no_more front rest much =
    let at = standing_of front in
    (same_parts front rest).0
    ∙ ap (λ (c : Cut). parts_of front ++ c.parts) (cut-none (fed at rest) (oversize-has_part (fed at rest) (oversize-fed at rest much)))
    ∙ append-nil (parts_of front)
