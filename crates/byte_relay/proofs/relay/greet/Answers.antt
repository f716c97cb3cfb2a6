use Rattle.std.proofs.Common.{◌∷◌, [], sym}
use Rattle.sm_world.specs.declared.effects.Effect.TheVariants.{Sent}
use Rattle.byte_relay.specs.Relaying.{greeting as greeting_in}
use Rattle.byte_relay.proofs.Doing.{does_more, does_cut}
use Rattle.byte_relay.proofs.relay.greet.Goals as goal

pub returns-in-Ok : goal.returns-in-Ok
returns-in-Ok g c = does_more {A = Unit {0}} {B = Unit {0}} (g.W.Told.outside c.args.world.now) (g.W.Told.outside c.send.new.world) (g.W.Told.outside c.send-in-Ok.new.world) (Sent c.args.low (greeting_in c.args.order) ∷ []) (Sent c.args.high (greeting_in c.args.order) ∷ []) (tt {0}) c.send-in-Ok.result (rw (sym c.greeting-bytes.ensures) c.in-Ok.ensures) (rw (sym c.greeting-bytes.ensures) c.send-in-Ok.ensures)

pub returns-in-Err : goal.returns-in-Err
returns-in-Err g c = does_cut {A = Unit {0}} {B = Unit {0}} (g.W.Told.outside c.args.world.now) (g.W.Told.outside c.send.new.world) (Sent c.args.low (greeting_in c.args.order) ∷ []) (Sent c.args.high (greeting_in c.args.order) ∷ []) c.in-Err.fault (rw (sym c.greeting-bytes.ensures) c.in-Err.ensures)
