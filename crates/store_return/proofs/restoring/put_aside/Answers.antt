use Rattle.std.proofs.Common.{[], ◌∷◌, ◌∙◌, ap}
use Rattle.sm_world.specs.Outside.{adds}
use Rattle.sm_world.specs.declared.effects.Effect.TheVariants.{Published}
use Rattle.store_return.proofs.restoring.put_aside.Goals as goal

pub returns-in-Ok-publish-clause-ok : goal.returns-in-Ok-publish-clause-ok
returns-in-Ok-publish-clause-ok g c =
    rw c.in-Some.is (c.in-Ok-publish.ensures.effects ∙ ap (λ bytes. adds (g.D.Told.outside c.args.disk.now).told (Published c.in-Some.path.now bytes ∷ [])) (c.as_slice.ensures ∙ c.in-Ok.ensures))
