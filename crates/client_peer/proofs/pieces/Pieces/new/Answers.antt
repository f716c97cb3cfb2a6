use Rattle.std.proofs.Common.{rules, ◌≡◌, ◌∙◌, ℕ, List, subst, sym, ap}
use Rattle.std.specs.Prelude.{filter}
use Rattle.std.proofs.lemmas.Fn.{filter_same}
use Rattle.client_peer.specs.Pieces.{IsLeft, is_solid}
use Rattle.client_peer.proofs.PieceLaws.{solid_left, whole_left}
use Rattle.client_peer.proofs.pieces.Pieces.new.Goals as goal

kept : (c : goal.After-from) → c.from.result.items ≡ filter is_solid c.args.pieces
kept c = c.from.ensures.0 ∙ filter_same _ is_solid _ (λ x kept f r. search rules) _ _ c.retain.ensures.filtered ∙ ap (filter is_solid) c.into_vec-pieces.ensures

pub invariant_of-result : goal.invariant_of-result
invariant_of-result c =
    subst (λ (pieces : List (List ℕ)). IsLeft 0 pieces) (sym (kept c)) (solid_left c.args.pieces)

pub returns : goal.returns
returns c = whole_left c.from.result.items ∙ kept c
