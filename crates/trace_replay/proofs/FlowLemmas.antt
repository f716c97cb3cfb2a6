-- What the parts of a stream are as a piece comes.
use Rattle.std.proofs.Common.{◌≡◌, inl, inr, Bool, true, false, ℕ, zero, suc, ◌+◌, ◌*◌, ◌<◌, ◌≤◌, ◌^◌, List, [], ◌∷◌, ◌++◌, length, take, map, None, refl, sym, ◌∙◌, ap, subst, arith, length-append, length-take}
use Rattle.std.specs.List.{AllByRecursion}
use Rattle.std.proofs.lemmas.List.{append-nil, length-map, drop_all}
use Rattle.ice_framing.specs.Frames.{Standing, Cut, beginning, fed, cut, cut_upto, wanted, units, unit_limit, has_frame, first_frame, without_first, behind, uncut, frames_of, standing_of, is_oversize, IsOversize, StandsAt}
use Rattle.ice_framing.specs.Parts.{Part, Whole, TooMuch, oversize_part, parts_at, parts_of, new_parts}
use Rattle.ice_framing.specs.declared.cutting.WholeFrame.{WholeFrame}
use Rattle.ice_framing.proofs.Cuts.{cond-both, has_frame-true, length-without_first, stated_whole, oversize-fed, is_oversize-true, true-is_oversize, false-is_oversize}
use Rattle.ice_framing.proofs.Streams.{standing_of-append, frames_of-oversize, standing_of-oversize}
use Rattle.std.proofs.lemmas.Bool.{cases_lt}
use Rattle.ice_framing.proofs.Parts.{parts_at-ended, parts_of-append, new_parts-is}
use Rattle.trace_replay.specs.Flows.{IsEnd, Taken}
use Rattle.trace_replay.specs.Parts.{IsHeaded}
use Rattle.trace_replay.specs.declared.flows.Brought.{Brought}
use Rattle.trace_replay.specs.declared.flows.Progress.TheVariants.{Going, Ended}

-- each frame has a header
headed_upto : (n : ℕ) (at : Standing) → AllByRecursion IsHeaded (cut_upto n at).frames
headed_upto zero at = tt
headed_upto (suc n) at =
    cond-both (λ (c : Cut). AllByRecursion IsHeaded c.frames) (has_frame at) (behind (first_frame at ∷ []) (cut_upto n (without_first at))) (uncut at)
    (λ found. (let whole = (has_frame-true at found).whole in omega (arith, length-take (wanted at) at.held), headed_upto n (without_first at)))
    (λ none. tt)

pub all_headed : (at : Standing) → AllByRecursion IsHeaded (cut at).frames
unfolding cut
all_headed at = headed_upto (length at.held) at

-- the frames and what is left have no more bytes than there were
counted_upto : (n : ℕ) (at : Standing) → 8 * length (cut_upto n at).frames + length (cut_upto n at).standing.held ≤ length at.held
counted_upto zero at = omega arith
counted_upto (suc n) at =
    cond-both (λ (c : Cut). 8 * length c.frames + length c.standing.held ≤ length at.held) (has_frame at) (behind (first_frame at ∷ []) (cut_upto n (without_first at))) (uncut at)
    (λ found. omega (arith, counted_upto n (without_first at), length-without_first at (has_frame-true at found)))
    (λ none. omega arith)

all_counted : (stream : List ℕ) → 8 * length (frames_of stream) + length (standing_of stream).held ≤ length stream
unfolding cut
all_counted stream = counted_upto (length stream) (fed beginning stream)

oversize_few : (at : Standing) → length (oversize_part at) ≤ length at.held
oversize_few at =
    cond-both (λ (parts : List Part). length parts ≤ length at.held) (is_oversize at) (TooMuch (take 8 at.held) ∷ []) []
    (λ much. omega (arith, stated_whole at (omega (arith, is_oversize-true at much))))
    (λ none. omega arith)

length-parts_of : (stream : List ℕ) → length (parts_of stream) ≡ length (frames_of stream) + length (oversize_part (standing_of stream))
length-parts_of stream = length-append (map Whole (frames_of stream)) (oversize_part (standing_of stream)) ∙ ap (λ n. n + length (oversize_part (standing_of stream))) (length-map (frames_of stream) Whole)

-- there are no more parts than bytes
pub parts_few : (stream : List ℕ) → length (parts_of stream) ≤ length stream
parts_few stream = omega (arith, length-parts_of stream, all_counted stream, oversize_few (standing_of stream))

-- The new parts are numbered behind those that there were, and the numbers are not too large.
pub numbers_fit : (stream piece : List ℕ) → units (standing_of stream) ≤ unit_limit → length (parts_of (stream ++ piece)) ≡ length (parts_of stream) + length (new_parts stream piece)
numbers_fit stream piece within = ap length (parts_of-append stream piece within) ∙ length-append (parts_of stream) (parts_at (fed (standing_of stream) piece)) ∙ ap (λ (parts : List Part). length (parts_of stream) + length parts) (sym (new_parts-is stream piece within))

-- no header states too much
pub parts_going : (stream piece : List ℕ) → units (standing_of stream) ≤ unit_limit → units (cut (fed (standing_of stream) piece)).standing ≤ unit_limit → new_parts stream piece ≡ map Whole (cut (fed (standing_of stream) piece)).frames
parts_going stream piece within end = new_parts-is stream piece within ∙ rw (false-is_oversize (cut (fed (standing_of stream) piece)).standing end) (append-nil (map Whole (cut (fed (standing_of stream) piece)).frames))

-- a header states too much
pub parts_ended : (stream piece : List ℕ) → units (standing_of stream) ≤ unit_limit → IsOversize (cut (fed (standing_of stream) piece)).standing → new_parts stream piece ≡ map Whole (cut (fed (standing_of stream) piece)).frames ++ TooMuch (take 8 (cut (fed (standing_of stream) piece)).standing.held) ∷ []
parts_ended stream piece within much = new_parts-is stream piece within ∙ rw (true-is_oversize (cut (fed (standing_of stream) piece)).standing much) refl

length-oversize : (stream : List ℕ) → IsOversize (standing_of stream) → length (parts_of stream) ≡ length (frames_of stream) + 1
length-oversize stream much = length-parts_of stream ∙ rw (true-is_oversize (standing_of stream) much) refl

-- behind a header that states too much nothing comes
pub nothing_more : (stream piece : List ℕ) → IsOversize (standing_of stream) → IsOversize (standing_of (stream ++ piece)) × (new_parts stream piece ≡ [])
nothing_more stream piece much =
    let still : IsOversize (standing_of (stream ++ piece)) = subst (λ (at : Standing). IsOversize at) (sym (standing_of-oversize stream piece much)) (oversize-fed (standing_of stream) piece much) in
    let frames = ap length (frames_of-oversize stream piece much) in
    (still, drop_all (length (parts_of stream)) (parts_of (stream ++ piece)) (omega (arith, frames, length-oversize stream much, length-oversize (stream ++ piece) still)))

-- the frames of a piece were cut, and the stream goes on
pub goes_on : (stream piece : List ℕ) (at after : Standing) (shown count : ℕ) (frames : List WholeFrame) → at ≡ standing_of stream → units (standing_of stream) ≤ unit_limit → (length stream < 2 ^ 64 → shown ≡ length (parts_of stream)) → frames ≡ (cut (fed at piece)).frames → StandsAt (cut (fed at piece)).standing after None → (shown + length frames < 2 ^ 64 → count ≡ shown + length frames) → Taken stream piece (Going (record { remainder = after; shown = count })) (record { before = shown; frames = frames; ended = false })
goes_on stream piece at after shown count frames is_at within is_shown are stands counts =
    let stands_so : StandsAt (cut (fed (standing_of stream) piece)).standing after None = rw is_at at stands in
    let are_so : frames ≡ (cut (fed (standing_of stream) piece)).frames = rw is_at at are in
    let parts : new_parts stream piece ≡ map Whole frames = parts_going stream piece within stands_so.2 ∙ ap (map Whole) (sym are_so) in
    let numbers : length (parts_of (stream ++ piece)) ≡ length (parts_of stream) + length (map Whole frames) = numbers_fit stream piece within ∙ ap (λ (ps : List Part). length (parts_of stream) + length ps) parts in
    let shorter = length-append stream piece in
    record {
      read = (
        rw (standing_of-append stream piece) stands_so,
        (λ small.
            let before : shown ≡ length (parts_of stream) = is_shown (omega (arith, small, shorter)) in
            counts (omega (arith, numbers, before, length-map frames Whole, parts_few (stream ++ piece), small)) ∙ omega (arith, numbers, before, length-map frames Whole)),
      );
      brings = record {
        parts = record { last = []; all = parts ∙ sym (append-nil (map Whole frames)); end = refl };
        before = λ small some. is_shown (omega (arith, small, shorter));
        fits = λ small. omega (arith, is_shown (omega (arith, small, shorter)), numbers, ap length parts, parts_few (stream ++ piece), small);
      };
    }

-- the frames of a piece were cut, and then came a header that states too much
pub was_ended : (stream piece : List ℕ) (at : Standing) (shown : ℕ) (frames : List WholeFrame) → at ≡ standing_of stream → units (standing_of stream) ≤ unit_limit → (length stream < 2 ^ 64 → shown ≡ length (parts_of stream)) → frames ≡ (cut (fed at piece)).frames → IsOversize (cut (fed at piece)).standing → Taken stream piece Ended (record { before = shown; frames = frames; ended = true })
was_ended stream piece at shown frames is_at within is_shown are much =
    let much_so : IsOversize (cut (fed (standing_of stream) piece)).standing = rw is_at at much in
    let are_so : frames ≡ (cut (fed (standing_of stream) piece)).frames = rw is_at at are in
    let header : List ℕ = take 8 (cut (fed (standing_of stream) piece)).standing.held in
    let parts : new_parts stream piece ≡ map Whole frames ++ TooMuch header ∷ [] = parts_ended stream piece within much_so ∙ ap (λ (fs : List WholeFrame). map Whole fs ++ TooMuch header ∷ []) (sym are_so) in
    record {
      read = subst (λ (to : Standing). IsOversize to) (sym (standing_of-append stream piece)) much_so;
      brings = record {
        parts = record { last = TooMuch header ∷ []; all = parts; end = (header, refl) };
        before = λ small some. is_shown (omega (arith, small, length-append stream piece));
        fits = λ small. omega (arith, is_shown (omega (arith, small, length-append stream piece)), numbers_fit stream piece within, parts_few (stream ++ piece), small);
      };
    }

-- a stream that was ended stays so
pub stays_ended : (stream piece : List ℕ) (brought : Brought) → brought.before ≡ 0 → IsOversize (standing_of stream) → brought.frames ≡ [] → brought.ended ≡ false → Taken stream piece Ended brought
stays_ended stream piece brought first much none going =
    let no_more = nothing_more stream piece much in
    record {
      read = no_more.0;
      brings = record {
        parts = record {
          last = [];
          all = no_more.1 ∙ sym (ap (λ (fs : List WholeFrame). map Whole fs ++ []) none);
          end = subst (λ (ended : Bool). IsEnd ended []) (sym going) refl;
        };
        before = λ small some. absurd (omega (arith, some, ap length no_more.1));
        fits = λ small. omega (arith, first, ap length no_more.1);
      };
    }

-- a stream's parts stay, and those that a piece brings come behind them
pub more_parts : (stream piece : List ℕ) → parts_of (stream ++ piece) ≡ parts_of stream ++ new_parts stream piece
more_parts stream piece = elim (cases_lt unit_limit (units (standing_of stream))) [
  | inl much ↦
      let same : parts_of (stream ++ piece) ≡ parts_of stream = parts_at-ended (fed beginning stream) piece much in
      same ∙ sym (ap (λ (ps : List Part). parts_of stream ++ ps) (nothing_more stream piece much).1 ∙ append-nil (parts_of stream))
  | inr within ↦ parts_of-append stream piece (omega (arith, within)) ∙ ap (λ (ps : List Part). parts_of stream ++ ps) (sym (new_parts-is stream piece (omega (arith, within))))
]
