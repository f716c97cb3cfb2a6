use Rattle.std.proofs.Common.{rules, ◌≡◌, ◌++◌, ◌∷◌, [], Some, None, subst, sym, Option}
use Rattle.ice_framing.specs.Frames.{Standing}
use Rattle.client_quirks.specs.Amending.{FollowsBy}
use Rattle.client_quirks.proofs.Followed.{let_by, passed}
use Rattle.client_quirks.proofs.amender.Amender.lets_pass.Goals as goal

pub returns-in-Some : goal.returns-in-Some
returns-in-Some c = λ lets came handed follows.
    let old = c.args.self.now in
    let some : old.cutter ≡ Some c.in-Some.cutter = search rules in
    subst (λ (o : Option Standing). FollowsBy (came ++ c.args.piece.now ∷ []) (handed ++ c.args.piece.now ∷ []) old.held old.speech o) (sym some)
    (let_by came handed old.held c.args.piece.now old.speech c.in-Some.cutter (subst (λ (o : Option Standing). FollowsBy came handed old.held old.speech o) some follows) (c.passes.ensures lets))

pub returns-in-None : goal.returns-in-None
returns-in-None c = λ lets came handed follows.
    let old = c.args.self.now in
    let none : old.cutter ≡ None = search rules in
    subst (λ (o : Option Standing). FollowsBy (came ++ c.args.piece.now ∷ []) (handed ++ c.args.piece.now ∷ []) old.held old.speech o) (sym none)
    (passed came handed old.held c.args.piece.now old.speech (subst (λ (o : Option Standing). FollowsBy came handed old.held old.speech o) none follows))
