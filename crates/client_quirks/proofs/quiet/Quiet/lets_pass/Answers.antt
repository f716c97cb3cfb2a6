use Rattle.client_quirks.proofs.Together.{all_pass}
use Rattle.client_quirks.proofs.quiet.Quiet.lets_pass.Goals as goal

pub returns : goal.returns
returns c = λ lets. all_pass c.args.self.now c.args.piece.now (c.are_passed.ensures lets)
