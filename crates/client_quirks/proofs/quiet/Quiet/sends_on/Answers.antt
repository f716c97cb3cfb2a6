use Rattle.client_quirks.proofs.Together.{all_goes}
use Rattle.client_quirks.proofs.quiet.Quiet.sends_on.Goals as goal

pub returns : goal.returns
returns c = λ sends. all_goes c.args.self.now c.args.bytes.now (c.are_passed.ensures sends)
