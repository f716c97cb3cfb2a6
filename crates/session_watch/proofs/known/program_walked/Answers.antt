use Rattle.std.proofs.Common.{◌∙◌, subst}
use Rattle.std.specs.Prelude.{unwrap_or}
use Rattle.ice_values.specs.Walks.{walk_left, Views}
use Rattle.ice_values.specs.declared.numbers.Endian.{Endian}
use Rattle.session_watch.specs.Knowing.{latest, set_by}
use Rattle.session_watch.proofs.Noting.{walked_more}
use Rattle.session_watch.proofs.known.program_walked.Goals as goal

pub loop-view-preserved : goal.loop-view-preserved
loop-view-preserved c =
    let left = c.loop-view.left in
    let next = c.in-Some.ensures.steps in
    let views : Views c.endian-endian.result c.in-Some.view next.property = subst (λ (e : Endian). Views e c.in-Some.view next.property) c.loop-view.invariant.1 next.views in (
      walked_more next.property (walk_left c.next.new.self) (walk_left left) c.loop-view.program c.in_ok-program.program (unwrap_or (latest set_by (walk_left c.args.walk)) c.args.before) next.left c.loop-view.invariant.0 (c.in_ok-program.ensures next.property views),
      next.endian ∙ c.loop-view.invariant.1,
    )
