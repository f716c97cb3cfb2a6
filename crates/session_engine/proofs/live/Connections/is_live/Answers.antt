use Rattle.std.proofs.Common.{◌∙◌}
use Rattle.session_engine.proofs.Seats.{live}
use Rattle.session_engine.proofs.live.Connections.is_live.Goals as goal

pub returns : goal.returns
returns c = c.contains_key.ensures ∙ live c.args.self.now.places c.args.self.now.seats c.args.conn c.args.self.now.seated
