-- What is known of a stream as it goes on.
use Rattle.std.proofs.Common.{◌≡◌, ℕ, ◌≤◌, List, [], ◌++◌, Option, Some, None, sym, ap, ◌∙◌, subst, arith, append-nil}
use Rattle.std.specs.Prelude.{MatchOption}
use Rattle.ice_framing.specs.Frames.{Standing, beginning, fed, cut, frames_of, standing_of, StandsAt, IsPartial, IsOversize, units, unit_limit}
use Rattle.ice_framing.specs.declared.cutting.WholeFrame.{WholeFrame}
use Rattle.ice_framing.proofs.Cuts.{oversize-fed}
use Rattle.ice_framing.proofs.Streams.{frames_of-nil, standing_of-nil, frames_of-append, standing_of-append, frames_of-oversize, standing_of-oversize}

-- A stream went on: its new frames, and where it stands then.
pub record WentOn (stream bytes : List ℕ) (new : List WholeFrame) (rest : Option Standing) : Type 0 where
  pub frames : frames_of (stream ++ bytes) ≡ frames_of stream ++ new
  pub stands : MatchOption rest (IsOversize (standing_of (stream ++ bytes))) (λ at. StandsAt (standing_of (stream ++ bytes)) at None)

pub went_on : (stream bytes : List ℕ) (at : Standing) (frames : List WholeFrame) (rest : Option Standing) → at ≡ standing_of stream → frames ≡ (cut (fed at bytes)).frames → MatchOption rest (IsOversize (cut (fed at bytes)).standing) (λ to. StandsAt (cut (fed at bytes)).standing to None) → WentOn stream bytes frames rest
went_on stream bytes at frames rest is are ends =
    let there : (cut (fed at bytes)).standing ≡ standing_of (stream ++ bytes) = ap (λ (from : Standing). (cut (fed from bytes)).standing) is ∙ sym (standing_of-append stream bytes) in
    record {
      frames = frames_of-append stream bytes ∙ ap (λ (fs : List WholeFrame). frames_of stream ++ fs) (sym (are ∙ ap (λ (from : Standing). (cut (fed from bytes)).frames) is));
      stands = subst (λ (to : Standing). MatchOption rest (IsOversize to) (λ (s : Standing). StandsAt to s None)) there ends;
    }

-- behind a header that states too much nothing comes
pub was_over : (stream bytes : List ℕ) → IsOversize (standing_of stream) → WentOn stream bytes [] None
was_over stream bytes much = record {
  frames = frames_of-oversize stream bytes much ∙ sym (append-nil (frames_of stream));
  stands = subst (λ (to : Standing). IsOversize to) (sym (standing_of-oversize stream bytes much)) (oversize-fed (standing_of stream) bytes much);
}

-- how far a stream was cut, as it is kept
abbrev pub Stands : List ℕ → Option Standing → Type 0
Stands stream rest = MatchOption rest (IsOversize (standing_of stream)) (λ at. StandsAt (standing_of stream) at None)

pub at_beginning : (at : Standing) → at ≡ beginning → StandsAt (standing_of []) at None
at_beginning at is = (
  is ∙ sym standing_of-nil,
  subst (λ (s : Standing). IsPartial s) (sym standing_of-nil) (omega arith),
  subst (λ (s : Standing). units s ≤ unit_limit) (sym standing_of-nil) (omega arith),
)

pub taken_on : (stream bytes : List ℕ) (before : Option Standing) (rest : Standing) (new : List WholeFrame) (after : Option Standing) → Stands stream before → before ≡ Some rest → new ≡ (cut (fed rest bytes)).frames → MatchOption after (IsOversize (cut (fed rest bytes)).standing) (λ to. StandsAt (cut (fed rest bytes)).standing to None) → WentOn stream bytes new after
taken_on stream bytes before rest new after at is are ends =
    let stands : StandsAt (standing_of stream) rest None = subst (λ (o : Option Standing). Stands stream o) is at in
    went_on stream bytes rest new after stands.0 are ends

pub taken_none : (stream bytes : List ℕ) (before : Option Standing) (new : List WholeFrame) (after : Option Standing) → Stands stream before → before ≡ None → new ≡ [] → after ≡ None → WentOn stream bytes new after
taken_none stream bytes before new after at is none gone =
    let much : IsOversize (standing_of stream) = subst (λ (o : Option Standing). Stands stream o) is at in
    rw (none, gone) (was_over stream bytes much)
