use Rattle.std.proofs.Common.{refl, sym}
use Rattle.sm_world.proofs.Adding.{adds-none, never_fallen}
use Rattle.smwrap_app.proofs.RunLaws.{amid_begun, never_begun, undelivered_first}
use Rattle.smwrap_app.proofs.joining.follow.Goals as goal

pub returns-in-Err : goal.returns-in-Err
returns-in-Err g c = λ cookie previous stands.
    never_begun g.S.NamedSaves.answers g.D.NamedDies.gives cookie previous (g.P.Told.outside c.args.peer.now) c.args.joiner.now.callbacks (g.P.Told.outside c.args.peer.now) c.args.turns (sym (adds-none (g.P.Told.outside c.args.peer.now).told)) (never_fallen (g.P.Told.outside c.args.peer.now).faults)

pub returns-in-Ok-deliver : goal.returns-in-Ok-deliver
returns-in-Ok-deliver g c = λ cookie previous stands.
    c.listen.ensures cookie previous (g.P.Told.outside c.args.peer.now) c.args.joiner.now.callbacks
    (amid_begun g.S.NamedSaves.answers g.D.NamedDies.gives cookie previous (g.P.Told.outside c.args.peer.now) c.args.joiner.now.callbacks (g.P.Told.outside c.deliver.new.peer) c.args.joiner.now c.args.greeting.now c.in-Ok-deliver.field-0 c.in-Ok-deliver.ensures c.requires.greeting stands refl)

pub returns : goal.returns
returns g c = λ cookie previous stands.
    rw c.peer_fault.ensures
    (undelivered_first g.S.NamedSaves.answers g.D.NamedDies.gives cookie previous (g.P.Told.outside c.args.peer.now) c.args.joiner.now.callbacks c.in-Err-deliver.failure (g.P.Told.outside c.deliver.new.peer) c.args.greeting.now c.args.turns c.in-Err-deliver.ensures c.requires.greeting)
