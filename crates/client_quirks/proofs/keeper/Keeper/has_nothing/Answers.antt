use Rattle.client_quirks.proofs.Unheard.{has_nothing}
use Rattle.client_quirks.proofs.keeper.Keeper.has_nothing.Goals as goal

pub returns : goal.returns
returns c = λ passes. has_nothing c.args.self.now c.args.piece.now (c.passes.ensures passes)
