use Rattle.round_agreement.proofs.CountLaws.{first-saves}
use Rattle.round_agreement.proofs.round.Round.wants_two.Goals as goal

pub stop_saving-requires-clause-saving : goal.stop_saving-requires-clause-saving
stop_saving-requires-clause-saving c = first-saves c.args.conn c.args.self.now.members c.requires
