use Rattle.std.proofs.Common.{sym, arith}
use Rattle.std.proofs.lemmas.List.{take_all}
use Rattle.checkpoint_records.proofs.zeroed.window.Goals as goal

pub returns-in-None : goal.returns-in-None
returns-in-None c = sym (take_all 65536 c.args.bytes.now (omega (arith, c.in-None.ensures.cases)))
