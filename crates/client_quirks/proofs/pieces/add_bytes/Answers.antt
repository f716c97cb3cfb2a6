use Rattle.std.proofs.Common.{rules, ◌≡◌, ◌++◌, ◌∙◌}
use Rattle.client_quirks.proofs.Joining.{cut_more}
use Rattle.client_quirks.proofs.pieces.add_bytes.Goals as goal

pub loop-rest-preserved : goal.loop-rest-preserved
loop-rest-preserved c =
    let parts : c.split_at.result.0.now ++ c.split_at.result.1.now ≡ c.loop-rest.rest.now = search rules in
    cut_more c.loop-rest.list c.push.new.self c.loop-rest.rest.now c.split_at.result.0.now c.split_at.result.1.now c.new.result _ c.loop-rest.invariant c.in_ok-push.ensures.ok (c.new.ensures ∙ c.in_ok-from_slice.ensures) parts
