use Rattle.std.proofs.Common.{◌∷◌, [], sym}
use Rattle.sm_world.specs.declared.effects.Effect.TheVariants.{Shut}
use Rattle.byte_relay.specs.Relaying.{partner}
use Rattle.byte_relay.proofs.Doing.{does_more, does_cut}
use Rattle.byte_relay.proofs.relay.Relay.break_pair.Goals as goal

pub returns-in-Ok-clause-done : goal.returns-in-Ok-clause-done
returns-in-Ok-clause-done g c = does_more (g.W.Told.outside c.args.world.now) (g.W.Told.outside c.shut.new.world) (g.W.Told.outside c.shut-in-Ok.new.world) (Shut c.args.conn ∷ []) (Shut (partner c.args.conn) ∷ []) tt c.shut-in-Ok.result c.in-Ok.ensures (rw (sym c.requires) c.shut-in-Ok.ensures)

pub returns-in-Err-clause-done : goal.returns-in-Err-clause-done
returns-in-Err-clause-done g c = does_cut (g.W.Told.outside c.args.world.now) (g.W.Told.outside c.shut.new.world) (Shut c.args.conn ∷ []) (Shut (partner c.args.conn) ∷ []) c.in-Err.fault c.in-Err.ensures
