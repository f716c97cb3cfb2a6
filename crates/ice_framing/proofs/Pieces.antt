-- Cutting piece by piece: the frames that were collected, and those to come, stay the same.
use Rattle.std.proofs.Common.{◌≡◌, ℕ, ◌+◌, ◌≤◌, ◌<◌, List, [], ◌∷◌, ◌++◌, length, drop, get_or, Some, None, refl, sym, ap, subst, ◌∙◌, arith, append-nil, append_assoc}
use Rattle.std.proofs.lemmas.List.{at_drop_more, at_drop_all}
use Rattle.std.specs.List.{concat}
use Rattle.ice_framing.specs.Frames.{Standing, Cut, fed, units, IsPartial, IsOversize, uncut, behind, cut, StandsAt, EndsIn, header_of}
use Rattle.ice_framing.specs.declared.cutting.WholeFrame.{WholeFrame}
use Rattle.ice_framing.specs.declared.splitting.Oversize.{Oversize}
use Rattle.ice_framing.proofs.Cuts.{cut-partial, cut-oversize, cut-fed, fed-nil, fed-fed, units-fed, stated_whole, oversize-fed}

-- Part of a cut is done: these frames, and then what is cut from where the stream stands and the rest.
pub record Going (whole : Cut) (frames : List WholeFrame) (at : Standing) (rest : List ℕ) : Type 0 where
  pub same : behind frames (cut (fed at rest)) ≡ whole
  pub partial : IsPartial at
  pub within : units at ≤ 8192

pub no_items : (rest : List ℕ) → length rest ≡ 0 → rest ≡ []
no_items [] none = refl
no_items (b ∷ bytes) none = absurd (omega arith)

-- at the end of the rest
pub done : (whole : Cut) (frames : List WholeFrame) (at : Standing) (rest : List ℕ) → Going whole frames at rest → length rest ≡ 0 → (frames ≡ whole.frames) × (at ≡ whole.standing)
done whole frames at rest going none =
    let there : fed at rest ≡ at = ap (fed at) (no_items rest none) ∙ fed-nil at in
    let all : behind frames (uncut at) ≡ whole = ap (behind frames) (sym (ap cut there ∙ cut-partial at going.partial)) ∙ going.same in
    (sym (append-nil frames) ∙ ap (λ (c : Cut). c.frames) all, ap (λ (c : Cut). c.standing) all)

-- at a header that states too much
pub cut_off : (whole : Cut) (frames : List WholeFrame) (at : Standing) (rest : List ℕ) → Going whole frames at rest → IsOversize (fed at rest) → (frames ≡ whole.frames) × (fed at rest ≡ whole.standing)
cut_off whole frames at rest going much =
    let all : behind frames (uncut (fed at rest)) ≡ whole = ap (behind frames) (sym (cut-oversize (fed at rest) much)) ∙ going.same in
    (sym (append-nil frames) ∙ ap (λ (c : Cut). c.frames) all, ap (λ (c : Cut). c.standing) all)

pub done_stands : (whole : Cut) (frames : List WholeFrame) (at : Standing) (rest : List ℕ) → Going whole frames at rest → length rest ≡ 0 → StandsAt whole.standing at None
done_stands whole frames at rest going none =
    let there = (done whole frames at rest going none).1 in
    (there, subst (λ (to : Standing). IsPartial to) there going.partial, subst (λ (to : Standing). units to ≤ 8192) there going.within)

pub cut_off_stands : (whole : Cut) (frames : List WholeFrame) (at splitter : Standing) (rest : List ℕ) (error : Oversize) → Going whole frames at rest → IsOversize (fed at rest) → splitter ≡ header_of (fed at rest) → error.units ≡ units (fed at rest)
    → StandsAt whole.standing splitter (Some error)
cut_off_stands whole frames at splitter rest error going much header states =
    let there = (cut_off whole frames at rest going much).1 in
    (header ∙ ap (λ to. header_of to) there, subst (λ (to : Standing). IsOversize to) there much, states ∙ ap (λ to. units to) there)

pub behind-behind : (front frames : List WholeFrame) (c : Cut) → behind front (behind frames c) ≡ behind (front ++ frames) c
behind-behind front frames c = ap (λ (all : List WholeFrame). let b : Cut = record { frames = all; standing = c.standing } in b) (sym (append_assoc front frames c.frames))

-- behind a piece's frames come those of what follows it
after_piece : (whole : Cut) (frames all : List WholeFrame) (at : Standing) (piece more rest : List ℕ) → Going whole frames at rest → rest ≡ piece ++ more → all ≡ frames ++ (cut (fed at piece)).frames
    → behind all (cut (fed (cut (fed at piece)).standing more)) ≡ whole
after_piece whole frames all at piece more rest going parts grown =
    let c = cut (fed at piece) in
    let two : cut (fed at rest) ≡ behind c.frames (cut (fed c.standing more)) = ap (λ (bytes : List ℕ). cut (fed at bytes)) parts ∙ ap cut (sym (fed-fed at piece more)) ∙ cut-fed (fed at piece) more in
    ap (λ (front : List WholeFrame). behind front (cut (fed c.standing more))) grown ∙ sym (behind-behind frames c.frames (cut (fed c.standing more))) ∙ sym (ap (behind frames) two) ∙ going.same

pub next_piece : (whole : Cut) (frames all : List WholeFrame) (at to : Standing) (piece more rest : List ℕ) → Going whole frames at rest → rest ≡ piece ++ more → all ≡ frames ++ (cut (fed at piece)).frames → StandsAt (cut (fed at piece)).standing to None
    → Going whole all to more
next_piece whole frames all at to piece more rest going parts grown stands = record {
  same = ap (λ (from : Standing). behind all (cut (fed from more))) stands.0 ∙ after_piece whole frames all at piece more rest going parts grown;
  partial = subst (λ (from : Standing). IsPartial from) (sym stands.0) stands.1;
  within = subst (λ (from : Standing). units from ≤ 8192) (sym stands.0) stands.2;
}

-- where a piece ends the stream, what follows it changes nothing
pub last_piece : (whole : Cut) (frames all : List WholeFrame) (at to : Standing) (piece more rest : List ℕ) (error : Oversize) → Going whole frames at rest → rest ≡ piece ++ more → all ≡ frames ++ (cut (fed at piece)).frames → StandsAt (cut (fed at piece)).standing to (Some error)
    → (all ≡ whole.frames) × EndsIn whole.standing (Some error)
last_piece whole frames all at to piece more rest error going parts grown stands =
    let from = (cut (fed at piece)).standing in
    let much : IsOversize (fed from more) = oversize-fed from more stands.1 in
    let same : units (fed from more) ≡ units from = units-fed from more (stated_whole from (omega (arith, stands.1))) in
    let ends : behind all (uncut (fed from more)) ≡ whole = ap (behind all) (sym (cut-oversize (fed from more) much)) ∙ after_piece whole frames all at piece more rest going parts grown in
    let there : fed from more ≡ whole.standing = ap (λ (c : Cut). c.standing) ends in (
      sym (append-nil all) ∙ ap (λ (c : Cut). c.frames) ends,
      (subst (λ (end : Standing). IsOversize end) there much, stands.2 ∙ sym same ∙ ap (λ (end : Standing). units end) there),
    )

-- at the end of the pieces
pub no_piece : (whole : Cut) (frames : List WholeFrame) (at : Standing) (rest : List ℕ) → Going whole frames at rest → length rest ≡ 0 → (frames ≡ whole.frames) × EndsIn whole.standing None
no_piece whole frames at rest going none =
    let stands = done_stands whole frames at rest going none in
    ((done whole frames at rest going none).0, (stands.1, stands.2))

-- the next piece, and those behind it
pub next_part : (pieces : List (List ℕ)) (i : ℕ) (item piece : List ℕ) → i < length pieces → item ≡ get_or pieces i item → piece ≡ item → concat (drop i pieces) ≡ piece ++ concat (drop (i + 1) pieces)
next_part pieces i item piece there is same =
    at_drop_more concat pieces i item there ∙ ap (λ front. front ++ concat (drop (i + 1) pieces)) (sym is ∙ sym same)

pub no_part : (pieces : List (List ℕ)) (i : ℕ) → length pieces ≤ i → length (concat (drop i pieces)) ≡ 0
no_part pieces i over = ap length (at_drop_all concat pieces i over)
