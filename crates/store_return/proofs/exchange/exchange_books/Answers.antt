use Rattle.sm_world.proofs.Adding.{nothing_added}
use Rattle.store_return.proofs.Exchanging.{nothing_exchanged}
use Rattle.store_return.proofs.exchange.exchange_books.Goals as goal

pub returns-in-Err-clause-effects : goal.returns-in-Err-clause-effects
returns-in-Err-clause-effects g c = nothing_added _ _ (nothing_exchanged c.args.journal c.args.old.now c.args.new.now)

pub returns-clause-effects : goal.returns-clause-effects
returns-clause-effects g c = c.write.ensures.effects c.args.old.now c.in-Ok.ensures.applies
