use Rattle.std.proofs.Common.{subst, sym}
use Rattle.smd_app.specs.declared.fault.Fault.{Fault}
use Rattle.smnest_app.proofs.SessionLemmas.{cut_third, links_failed}
use Rattle.smnest_app.specs.Sessions.{IsOfLinks}
use Rattle.smnest_app.specs.Words.{places_of}
use Rattle.smnest_app.proofs.serving.set_up.Goals as goal

pub returns-in-Err-open_outer-clause-cut : goal.returns-in-Err-open_outer-clause-cut
returns-in-Err-open_outer-clause-cut g c =
    let two = g.W.Told.outside c.announce.new.world in
    let new = g.W.Told.outside c.open_outer.new.self in
    cut_third c.args.identity.now (places_of c.args.paths.now) (g.W.Told.outside c.args.world.now) (g.W.Told.outside c.hand_out.new.world) two new c.of_links.result
    c.in_default.ensures.ok c.in_default.ensures.kept c.in_default-announce.ensures.ok c.in_default-announce.ensures.kept c.in-Err-open_outer.ensures.effects
    (subst (λ (fault : Fault). IsOfLinks two new fault) (sym c.of_links.ensures) (links_failed two new c.in-Err-open_outer.failure c.in-Err-open_outer.ensures.uses))
