use Rattle.std.proofs.Common.{[], ◌∷◌, ◌∙◌, ap}
use Rattle.sm_world.specs.Outside.{adds}
use Rattle.sm_world.specs.declared.effects.Effect.TheVariants.{Published}
use Rattle.smd_app.specs.Sessions.{authority_file}
use Rattle.smd_app.proofs.serving.hand_out.Goals as goal

pub returns-in-Ok-publish-clause-ok : goal.returns-in-Ok-publish-clause-ok
returns-in-Ok-publish-clause-ok g c =
    c.in-Ok-publish.ensures.effects
    ∙ (ap (λ bytes. adds (g.W.Told.outside c.attach.new.self).told (Published c.args.paths.now.authority.now bytes ∷ [])) (c.as_slice.ensures ∙ c.in-Ok.ensures)
    ∙ ap (λ told. adds told (Published c.args.paths.now.authority.now (authority_file c.args.identity.now c.args.paths.now.socket.now) ∷ [])) c.in_default.ensures.effects)
