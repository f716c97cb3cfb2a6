-- A keeper whose client has stopped, a piece that comes in parts, and the middle of a piece.
use Rattle.std.proofs.Common.{◌≡◌, ℕ, ◌≤◌, Bool, true, false, List, [], ◌∷◌, ◌++◌, length, map, take, drop, refl, sym, ◌∙◌, ap, subst, arith, append_assoc, append-nil}
use Rattle.std.proofs.lemmas.Bool.{false≢true}
use Rattle.ice_framing.specs.Frames.{Standing, Cut, IsPartial, cut, fed, is_oversize, unit_limit, units}
use Rattle.ice_framing.specs.Parts.{Part, Whole, TooMuch, parts_at}
use Rattle.ice_framing.specs.declared.cutting.WholeFrame.{WholeFrame}
use Rattle.ice_framing.proofs.Cuts.{cut-fed, cut-partial, fed-fed, fed-nil, is_oversize-false, is_oversize-true}
use Rattle.ice_framing.proofs.Parts.{parts_at-ended, parts_at-more, parts_at-partial}
use Rattle.client_machine.specs.Phases.{ClientState}
use Rattle.client_engine.specs.Driving.{ComesInParts, IsStillOnceStopped, StaysStopped, Step, behind, part_taken, parts_taken, piece_taken, reply, standing_at, stays}
use Rattle.client_engine.specs.Hearing.{frame_heard, oversize_heard, part_heard, saying}
use Rattle.client_engine.specs.Places.{is_listening, on_client}
use Rattle.client_engine.specs.declared.hearing.Heard.{Heard}
use Rattle.client_engine.specs.declared.place.Counts.{Counts}
use Rattle.client_engine.specs.declared.place.Place.{Place}
use Rattle.client_engine.specs.declared.place.Place.TheVariants.{Opening, Speaking, Stopped}
use Rattle.client_engine.specs.declared.place.Talk.{Talk}

deaf_frame : (counts : Counts) (frame : WholeFrame) (place : Place) → is_listening place ≡ false → frame_heard counts frame place ≡ saying [] counts place
deaf_frame counts frame (Opening opener previous) deaf = absurd cc
deaf_frame counts frame (Speaking joined c) deaf = absurd cc
deaf_frame counts frame Stopped deaf = refl

deaf_header : (counts : Counts) (place : Place) → is_listening place ≡ false → oversize_heard counts place ≡ saying [] counts place
deaf_header counts (Opening opener previous) deaf = absurd cc
deaf_header counts (Speaking joined c) deaf = absurd cc
deaf_header counts Stopped deaf = refl

-- one who has stopped hears nothing
pub deaf_part : (talk : Talk) (part : Part) → is_listening talk.place ≡ false → part_heard talk part ≡ saying [] talk.counts talk.place
deaf_part talk (Whole frame) deaf = deaf_frame talk.counts frame talk.place deaf
deaf_part talk (TooMuch header) deaf = deaf_header talk.counts talk.place deaf

-- a header that states too much stops one who takes frames
pub oversize_stops : (counts : Counts) (place : Place) → is_listening (oversize_heard counts place).next.place ≡ false
oversize_stops counts (Opening opener previous) = refl
oversize_stops counts (Speaking joined c) = refl
oversize_stops counts Stopped = refl

-- what becomes of a client has none that stopped listen again
pub still_at : (change : ClientState → ClientState) (place : Place) → is_listening place ≡ false → is_listening (on_client change place) ≡ false
still_at change (Opening opener previous) deaf = deaf
still_at change (Speaking joined c) deaf = deaf
still_at change Stopped deaf = deaf

module _ {K R E : Type 0} (unasked : R) (talk_of : K → Talk) (reacts : K → Heard → R → Step K E) where
  abbrev Laws : Type 0
  Laws = StaysStopped unasked talk_of reacts

  abbrev all_taken : K → List Part → List R → Step K E
  all_taken keeper parts rs = parts_taken unasked talk_of reacts keeper parts rs

  abbrev one_taken : K → Part → R → Step K E
  one_taken keeper part r = part_taken unasked talk_of reacts keeper part r

  -- ---- one who has stopped

  pub deaf_taken : Laws → (keeper : K) (part : Part) (r : R) → is_listening (talk_of keeper).place ≡ false → one_taken keeper part r ≡ stays keeper
  deaf_taken laws keeper part r deaf = ap (λ (heard : Heard). reacts keeper heard r) (deaf_part (talk_of keeper) part deaf) ∙ laws.still keeper r deaf

  pub deaf_parts : IsStillOnceStopped unasked talk_of reacts
  deaf_parts laws keeper [] rs deaf = refl
  deaf_parts laws keeper (part ∷ parts) rs deaf =
      ap (λ (s : Step K E). behind s.line (all_taken s.next parts (drop 1 rs))) (deaf_taken laws keeper part (reply unasked talk_of reacts rs) deaf) ∙ deaf_parts laws keeper parts (drop 1 rs) deaf

  -- ---- parts one after another

  parts-append : (keeper : K) (ps qs : List Part) (rs ss : List R) → length rs ≡ length ps → all_taken keeper (ps ++ qs) (rs ++ ss) ≡ behind (all_taken keeper ps rs).line (all_taken (all_taken keeper ps rs).next qs ss)
  parts-append keeper [] qs [] ss same = refl
  parts-append keeper [] qs (r ∷ rs) ss same = absurd (omega (arith, same))
  parts-append keeper (p ∷ ps) qs [] ss same = absurd (omega (arith, same))
  parts-append keeper (p ∷ ps) qs (r ∷ rs) ss same =
      let s : Step K E = one_taken keeper p r in
      ap (behind s.line) (parts-append s.next ps qs rs ss (omega (arith, same)))
      ∙ ap (λ (line : List E). let all : Step K E = record { line = line; next = (all_taken (all_taken s.next ps rs).next qs ss).next } in all) (sym (append_assoc s.line (all_taken s.next ps rs).line (all_taken (all_taken s.next ps rs).next qs ss).line))

  -- behind a header that states too much a client has stopped
  header_stops : Laws → (keeper : K) (ps : List Part) (header : List ℕ) (rs : List R) → is_listening (talk_of (all_taken keeper (ps ++ TooMuch header ∷ []) rs).next).place ≡ false
  header_stops laws keeper [] header rs = laws.stops keeper (part_heard (talk_of keeper) (TooMuch header)) (reply unasked talk_of reacts rs) (oversize_stops (talk_of keeper).counts (talk_of keeper).place)
  header_stops laws keeper (p ∷ ps) header rs = header_stops laws (one_taken keeper p (reply unasked talk_of reacts rs)).next ps header (drop 1 rs)

  -- the parts of a piece are those of its first part, and then those of its second
  taken_on : Laws → (keeper : K) (at : Standing) (bytes : List ℕ) (rs qs : List R) → length rs ≡ length (parts_at at) → (b : Bool) → is_oversize (cut at).standing ≡ b
      → all_taken keeper (parts_at (fed at bytes)) (rs ++ qs) ≡ behind (all_taken keeper (parts_at at) rs).line (all_taken (all_taken keeper (parts_at at) rs).next (parts_at (fed (cut at).standing bytes)) qs)
  taken_on laws keeper at bytes rs qs same false fits =
      ap (λ (ps : List Part). all_taken keeper ps (rs ++ qs)) (parts_at-more at bytes (is_oversize-false (cut at).standing fits)) ∙ parts-append keeper (parts_at at) (parts_at (fed (cut at).standing bytes)) rs qs same
  taken_on laws keeper at bytes rs qs same true over =
      let first : Step K E = all_taken keeper (parts_at at) rs in
      let last : parts_at at ≡ map Whole (cut at).frames ++ TooMuch (take 8 (cut at).standing.held) ∷ [] = rw over refl in
      let deaf : is_listening (talk_of first.next).place ≡ false = subst (λ (ps : List Part). is_listening (talk_of (all_taken keeper ps rs).next).place ≡ false) (sym last) (header_stops laws keeper (map Whole (cut at).frames) (take 8 (cut at).standing.held) rs) in
      ap (λ (ps : List Part). all_taken keeper ps (rs ++ qs)) (parts_at-ended at bytes (is_oversize-true (cut at).standing over) ∙ sym (append-nil (parts_at at)))
      ∙ (parts-append keeper (parts_at at) [] rs qs same
      ∙ ap (behind first.line) (sym (deaf_parts laws first.next (parts_at (fed (cut at).standing bytes)) qs deaf)))

  pub in_parts : ComesInParts unasked talk_of reacts
  in_parts laws run xs ys rs qs same =
      let at : Standing = fed run.standing xs in
      let whole : fed run.standing (xs ++ ys) ≡ fed at ys = sym (fed-fed run.standing xs ys) in
      ap (λ (s : Standing). standing_at (cut s).standing (all_taken run.keeper (parts_at s) (rs ++ qs))) whole
      ∙ (ap (λ (c : Cut). standing_at c.standing (all_taken run.keeper (parts_at (fed at ys)) (rs ++ qs))) (cut-fed at ys)
      ∙ ap (λ (s : Step K E). standing_at (cut (fed (cut at).standing ys)).standing s) (taken_on laws run.keeper at ys rs qs same (is_oversize (cut at).standing) refl))

  -- ---- in the middle of a piece

  -- So much of a piece was taken: what was done so far, and that the rest goes on from there.
  pub record Middle (first now : K) (begin at : Standing) (piece left : List ℕ) (rs : List R) (line : List E) : Type 0 where
    pub goes_on : (others : List R) → all_taken first (parts_at (fed begin piece)) (rs ++ others) ≡ behind line (all_taken now (parts_at (fed at left)) others)
    pub stands : is_listening (talk_of now).place ≡ true → (cut (fed at left)).standing ≡ (cut (fed begin piece)).standing

  pub begins : (keeper : K) (at : Standing) (piece : List ℕ) → Middle keeper keeper at at piece piece [] []
  begins keeper at piece = record { goes_on = λ others. refl; stands = λ listens. refl }

  -- one more part was taken
  pub further : Laws → (first now : K) (begin at after : Standing) (piece left rest : List ℕ) (rs : List R) (line : List E) (part : Part) (r : R) → Middle first now begin at piece left rs line
      → parts_at (fed at left) ≡ part ∷ parts_at (fed after rest) → (is_listening (part_heard (talk_of now) part).next.place ≡ true → (cut (fed after rest)).standing ≡ (cut (fed at left)).standing) → is_listening (talk_of now).place ≡ true
      → Middle first (one_taken now part r).next begin after piece rest (rs ++ r ∷ []) (line ++ (one_taken now part r).line)
  further laws first now begin at after piece left rest rs line part r middle parts stands listens =
      let s : Step K E = one_taken now part r in
      record {
        goes_on = λ others.
            ap (all_taken first (parts_at (fed begin piece))) (append_assoc rs (r ∷ []) others)
            ∙ (middle.goes_on (r ∷ others)
            ∙ (ap (λ (ps : List Part). behind line (all_taken now ps (r ∷ others))) parts
            ∙ ap (λ (es : List E). let all : Step K E = record { line = es; next = (all_taken s.next (parts_at (fed after rest)) others).next } in all) (sym (append_assoc line s.line (all_taken s.next (parts_at (fed after rest)) others).line))));
        stands = λ still. stands (heard_still (is_listening (part_heard (talk_of now) part).next.place) refl still) ∙ middle.stands listens;
      }
    where
      heard_still : (b : Bool) → is_listening (part_heard (talk_of now) part).next.place ≡ b → is_listening (talk_of (one_taken now part r).next).place ≡ true → is_listening (part_heard (talk_of now) part).next.place ≡ true
      heard_still true is still = is
      heard_still false is still = absurd (false≢true (sym (laws.stops now (part_heard (talk_of now) part) r is) ∙ still))

  -- What is left of the piece has no part that is taken.
  pub ends : (first now : K) (begin at : Standing) (piece left : List ℕ) (rs : List R) (line : List E) → Middle first now begin at piece left rs line → all_taken now (parts_at (fed at left)) [] ≡ stays now
      → piece_taken unasked talk_of reacts (record { standing = begin; keeper = first }) piece rs ≡ record { line = line; next = record { standing = (cut (fed begin piece)).standing; keeper = now } }
  ends first now begin at piece left rs line middle silent =
      let all : all_taken first (parts_at (fed begin piece)) rs ≡ record { line = line; next = now } =
      ap (all_taken first (parts_at (fed begin piece))) (sym (append-nil rs)) ∙ (middle.goes_on [] ∙ (ap (behind line) silent ∙ ap (λ (es : List E). let done : Step K E = record { line = es; next = now } in done) (append-nil line))) in
      ap (standing_at (cut (fed begin piece)).standing) all

  -- all bytes are held, and no part is whole
  pub holds : (now : K) (at : Standing) → parts_at at ≡ [] → all_taken now (parts_at at) [] ≡ stays now
  holds now at none = ap (λ (ps : List Part). all_taken now ps []) none

-- where less than a frame is held, that is where the stream stands
pub held_stands : (after : Standing) → IsPartial after → (cut after).standing ≡ after
held_stands after partial = ap (λ (c : Cut). c.standing) (cut-partial after partial)

-- nothing is left
pub nothing_left : (at : Standing) → IsPartial at → units at ≤ unit_limit → parts_at (fed at []) ≡ []
nothing_left at partial within = ap parts_at (fed-nil at) ∙ parts_at-partial at partial within
