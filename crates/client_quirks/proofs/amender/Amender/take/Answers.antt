use Rattle.std.proofs.Common.{rules, ◌≡◌, ◌++◌, ◌∷◌, [], sym, subst, List, ℕ, length, Some, None, true, false, Option}
use Rattle.std.specs.Prelude.{flat_map, MatchOption}
use Rattle.std.specs.List.{concat}
use Rattle.ice_framing.specs.Frames.{Standing, fed, cut, IsOversize}
use Rattle.ice_framing.specs.declared.cutting.WholeFrame.{WholeFrame}
use Rattle.client_quirks.specs.Speech.{are_changed, handed_on}
use Rattle.client_quirks.specs.Amending.{FollowsBy, Rewrites, is_within}
use Rattle.client_quirks.proofs.Followed.{passed, Cuts, Left, take_kept, take_rewritten, with_answer, with_both}
use Rattle.client_quirks.proofs.amender.Amender.take.Goals as goal

pub returns-in_default : goal.returns-in_default
returns-in_default c =
    let none : c.args.self.now.cutter ≡ None = search rules in
    let gone : c.take.new.self ≡ None = search rules in
    with_answer c.alone.result (λ list. list ≡ c.args.piece ∷ []) _ c.alone.ensures (λ list is came handed follows.
    let before = subst (λ (o : Option Standing). FollowsBy came handed c.args.self.now.held c.args.self.now.speech o) none follows in
    let now = passed came handed c.args.self.now.held c.args.piece c.args.self.now.speech before in
    subst (λ (l : List (List ℕ)). FollowsBy (came ++ c.args.piece ∷ []) (handed ++ l) c.args.self.now.held c.args.self.now.speech c.take.new.self) (sym is)
    (subst (λ (o : Option Standing). FollowsBy (came ++ c.args.piece ∷ []) (handed ++ c.args.piece ∷ []) c.args.self.now.held c.args.self.now.speech o) (sym gone) now))

pub returns-then-handed : goal.returns-then-handed
returns-then-handed c =
    let some : c.args.self.now.cutter ≡ Some c.in-Some.cutter = search rules in
    let piece : c.as_slice.result.now ≡ c.args.piece = search rules in
    let frames_are : c.as_slice-2.result.now ≡ (cut (fed c.in-Some.cutter c.args.piece)).frames = search rules in
    let goes : MatchOption c.in_ok-cutting.cutting.rest (IsOversize (cut (fed c.in-Some.cutter c.args.piece)).standing) (λ (r : Standing). r ≡ (cut (fed c.in-Some.cutter c.args.piece)).standing) = search rules in
    let changed : are_changed c.args.self.now.speech c.as_slice-2.result.now ≡ true = search rules in
    let piece2 : c.as_slice-then-handed.result.now ≡ c.args.piece = search rules in
    let frames2 : c.as_slice-then-handed-2.result.now ≡ c.as_slice-2.result.now = search rules in
    let anew : c.as_slice-then-handed-3.result.now ≡ handed_on c.args.self.now.speech c.as_slice-2.result.now = search rules in
    let left : Left c.in_ok-handed.handed.speech c.in_ok-cutting.cutting.rest c.left_open.result c.rewrite.new.self.speech c.rewrite.new.self.cutter =
    record { opens = c.left_open.ensures; cutter_is = c.rewrite.ensures.cutter; speech_is = c.rewrite.ensures.speech } in
    with_answer c.rewrite.result _ _ c.rewrite.ensures.rewrites (λ list rewrites came handed follows.
    let cuts : Cuts came handed c.args.self.now.held c.args.self.now.speech c.in_ok-handed.handed.speech c.in-Some.cutter c.in_ok-cutting.cutting.rest c.args.piece c.as_slice-2.result.now =
    record { follows = subst (λ (o : Option Standing). FollowsBy came handed c.args.self.now.held c.args.self.now.speech o) some follows; frames_are = frames_are; goes = goes; understood = c.in_ok-handed.ensures.speech } in
    take_rewritten came handed c.args.self.now.held list c.rewrite.new.self.held c.args.self.now.speech c.in_ok-handed.handed.speech c.rewrite.new.self.speech c.in-Some.cutter c.in_ok-cutting.cutting.rest c.left_open.result c.rewrite.new.self.cutter c.args.piece c.as_slice-2.result.now c.as_slice-then-handed-3.result.now c.held-before.result
    left cuts changed anew c.held-before.ensures
    (subst (λ (p : List ℕ). Rewrites c.held-before.result (concat c.args.self.now.held) p (length (flat_map (λ (frame : WholeFrame). frame.bytes) c.as_slice-2.result.now)) c.as_slice-then-handed-3.result.now (is_within c.left_open.result) list c.rewrite.new.self.held) piece2
    (subst (λ (fs : List WholeFrame). Rewrites c.held-before.result (concat c.args.self.now.held) c.as_slice-then-handed.result.now (length (flat_map (λ (frame : WholeFrame). frame.bytes) fs)) c.as_slice-then-handed-3.result.now (is_within c.left_open.result) list c.rewrite.new.self.held) frames2 rewrites)))

pub returns-else-handed : goal.returns-else-handed
returns-else-handed c =
    let some : c.args.self.now.cutter ≡ Some c.in-Some.cutter = search rules in
    let frames_are : c.as_slice-2.result.now ≡ (cut (fed c.in-Some.cutter c.args.piece)).frames = search rules in
    let goes : MatchOption c.in_ok-cutting.cutting.rest (IsOversize (cut (fed c.in-Some.cutter c.args.piece)).standing) (λ (r : Standing). r ≡ (cut (fed c.in-Some.cutter c.args.piece)).standing) = search rules in
    let unchanged : are_changed c.args.self.now.speech c.as_slice-2.result.now ≡ false = search rules in
    let left : Left c.in_ok-handed.handed.speech c.in_ok-cutting.cutting.rest c.left_open.result c.keep.new.self.speech c.keep.new.self.cutter =
    record { opens = c.left_open.ensures; cutter_is = c.keep.ensures.cutter; speech_is = c.keep.ensures.speech } in
    with_both c.keep.result _ _ _ c.keep.ensures.given c.keep.ensures.held (λ list gives holds came handed follows.
    let cuts : Cuts came handed c.args.self.now.held c.args.self.now.speech c.in_ok-handed.handed.speech c.in-Some.cutter c.in_ok-cutting.cutting.rest c.args.piece c.as_slice-2.result.now =
    record { follows = subst (λ (o : Option Standing). FollowsBy came handed c.args.self.now.held c.args.self.now.speech o) some follows; frames_are = frames_are; goes = goes; understood = c.in_ok-handed.ensures.speech } in
    take_kept came handed c.args.self.now.held list c.keep.new.self.held c.args.self.now.speech c.in_ok-handed.handed.speech c.keep.new.self.speech c.in-Some.cutter c.in_ok-cutting.cutting.rest c.left_open.result c.keep.new.self.cutter c.args.piece c.as_slice-2.result.now left cuts unchanged gives holds)
