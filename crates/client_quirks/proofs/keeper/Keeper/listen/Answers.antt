use Rattle.std.proofs.Common.{rules, ◌≡◌, ◌++◌, ◌∷◌, [], ◌∙◌, refl, sym, ap, subst, take, drop, length, true, false, Bool, ℕ, ◌-◌, List}
use Rattle.std.specs.List.{concat}
use Rattle.std.specs.Prelude.{flat_map}
use Rattle.ice_framing.specs.declared.cutting.WholeFrame.{WholeFrame}
use Rattle.client_quirks.specs.Sides.{CutsOn, IsSide, Follows}
use Rattle.client_quirks.specs.Leaving.{Mark, mark, heard_behind, front_count, is_kept, mark_of, frames_in, behind, front_in, Passes}
use Rattle.client_quirks.specs.declared.keeper.Keeper.{Keeper}
use Rattle.client_quirks.specs.declared.side.Side.{Side}
use Rattle.frame_speech.specs.declared.speech.Speech.{Speech}
use Rattle.client_quirks.proofs.Followed.{with_answer, with_both}
use Rattle.client_quirks.proofs.Following.{heard_speech, side_grown}
use Rattle.client_quirks.proofs.keeper.Keeper.listen.Goals as goal

pub returns : goal.returns
returns c =
    let old = c.args.self.now in
    let piece = c.args.piece in
    let m : Mark = mark_of old.came old.stage in
    let frames : c.as_slice-2.result.now ≡ frames_in old piece = search rules in
    let m_is : mark c.take.new.self.speech old.stage ≡ m = ap (λ (s : Speech). mark s old.stage) c.take.ensures.speech in
    let speech_then : c.in_ok-walked.walked.speech ≡ (behind old piece).speech =
    c.in_ok-walked.ensures.speech ∙ ap (λ (k : Mark). (heard_behind k c.as_slice-2.result.now).speech) m_is ∙ ap (λ (fs : List WholeFrame). (heard_behind m fs).speech) frames in
    let stage_then : c.in_ok-walked.walked.stage ≡ (behind old piece).stage =
    c.in_ok-walked.ensures.stage ∙ ap (λ (k : Mark). (heard_behind k c.as_slice-2.result.now).stage) m_is ∙ ap (λ (fs : List WholeFrame). (heard_behind m fs).stage) frames in
    let count : c.in_ok-walked.walked.count ≡ front_count m (frames_in old piece) =
    c.in_ok-walked.ensures.count ∙ ap (λ (k : Mark). front_count k c.as_slice-2.result.now) m_is ∙ ap (front_count m) frames in
    let same : c.as_slice-3.result.now ≡ c.as_slice-2.result.now = search rules in
    let before : c.split_at.result.0.now ≡ take (front_count m (frames_in old piece)) (frames_in old piece) =
    c.split_at.ensures.front ∙ ap (take c.in_ok-walked.walked.count) (same ∙ frames) ∙ ap (λ (n : ℕ). take n (frames_in old piece)) count in
    let len : c.len-front.result ≡ length (flat_map (λ (f : WholeFrame). f.bytes) c.split_at.result.0.now) = search rules in
    let minus : c.saturating_sub.result ≡ c.len-front.result - c.held-held.result = search rules in
    let front : c.saturating_sub.result ≡ front_in old piece =
    minus ∙ ap (λ (n : ℕ). n - c.held-held.result) (len ∙ ap (λ (fs : List WholeFrame). length (flat_map (λ (f : WholeFrame). f.bytes) fs)) before)
    ∙ ap (λ (n : ℕ). length (flat_map (λ (f : WholeFrame). f.bytes) (take (front_count m (frames_in old piece)) (frames_in old piece))) - n) c.held-held.ensures in
    let kept : is_kept (behind old piece).stage ≡ true = sym (search rules ∙ ap is_kept stage_then) in
    let stage : c.part.new.self.stage ≡ (behind old piece).stage = c.part.ensures.stage ∙ stage_then in
    let speech : c.part.new.self.came.speech ≡ (behind old piece).speech = ap (λ side. side.speech) c.part.ensures.came ∙ speech_then in
    let bytes : c.as_slice.result.now ≡ piece = search rules in
    let rest : CutsOn old.came.cutter piece c.take.new.self.cutter = subst (λ (p : List ℕ). CutsOn old.came.cutter p c.take.new.self.cutter) bytes c.in_ok-frames.ensures.rest in
    let new : Side = record { cutter = c.take.new.self.cutter; speech = c.in_ok-walked.walked.speech } in
    let came : Follows old.came piece new = λ stream side. side_grown stream piece old.came new rest (speech_then ∙ heard_speech m (frames_in old piece)) side in
    let sent : c.part.new.self.sent ≡ old.sent = search rules in
    let ended : c.part.new.self.has_ended ≡ old.has_ended = search rules in
    with_both c.part.result _ _ _ c.part.ensures.front c.part.ensures.back (λ list heads tails. record {
      stage = stage;
      speech = speech;
      came = λ stream side. subst (λ (s : Side). IsSide (stream ++ piece) s) (sym c.part.ensures.came) (came stream side);
      sent = sent;
      ended = ended;
      passes = subst (λ (b : Bool). Passes b old piece list c.part.new.self) (sym kept) (heads ∙ ap (λ (n : ℕ). take n piece) front, tails ∙ ap (λ (n : ℕ). concat old.pieces ++ drop n piece) front);
    })

pub returns-then-not-is_kept : goal.returns-then-not-is_kept
returns-then-not-is_kept c =
    let old = c.args.self.now in
    let piece = c.args.piece in
    let m : Mark = mark_of old.came old.stage in
    let frames : c.as_slice-2.result.now ≡ frames_in old piece = search rules in
    let m_is : mark c.take.new.self.speech old.stage ≡ m = ap (λ (s : Speech). mark s old.stage) c.take.ensures.speech in
    let speech_then : c.in_ok-walked.walked.speech ≡ (behind old piece).speech =
    c.in_ok-walked.ensures.speech ∙ ap (λ (k : Mark). (heard_behind k c.as_slice-2.result.now).speech) m_is ∙ ap (λ (fs : List WholeFrame). (heard_behind m fs).speech) frames in
    let stage_then : c.in_ok-walked.walked.stage ≡ (behind old piece).stage =
    c.in_ok-walked.ensures.stage ∙ ap (λ (k : Mark). (heard_behind k c.as_slice-2.result.now).stage) m_is ∙ ap (λ (fs : List WholeFrame). (heard_behind m fs).stage) frames in
    let free : is_kept (behind old piece).stage ≡ false = sym (search rules ∙ ap is_kept stage_then) in
    let bytes : c.as_slice.result.now ≡ piece = search rules in
    let rest : CutsOn old.came.cutter piece c.take.new.self.cutter = subst (λ (p : List ℕ). CutsOn old.came.cutter p c.take.new.self.cutter) bytes c.in_ok-frames.ensures.rest in
    let new : Side = record { cutter = c.take.new.self.cutter; speech = c.in_ok-walked.walked.speech } in
    let keeper : Keeper = record old { came = new; stage = c.in_ok-walked.walked.stage } in
    with_answer c.alone.result (λ list. list ≡ piece ∷ []) _ c.alone.ensures (λ list is. record {
      stage = stage_then;
      speech = speech_then;
      came = λ stream side. side_grown stream piece old.came new rest (speech_then ∙ heard_speech m (frames_in old piece)) side;
      sent = refl;
      ended = refl;
      passes = subst (λ (b : Bool). Passes b old piece list keeper) (sym free) (is, refl);
    })
