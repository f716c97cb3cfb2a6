use Rattle.std.proofs.Common.{Err, take}
use Rattle.smclient_app.proofs.LineLaws.{console_counts, some_printed, unprinted}
use Rattle.smclient_app.proofs.lines.print_lines.Goals as goal

pub returns-in-Err-clause-prints : goal.returns-in-Err-clause-prints
returns-in-Err-clause-prints g c =
    let old = g.W.Told.outside c.args.world.now in
    let mid = g.W.Told.outside c.loop-line.world in
    let new = g.W.Told.outside c.print_line.new.world in
    some_printed c.args.lines.now c.loop-line.line-index (Err c.in-Err.failure) old new (unprinted (take c.loop-line.line-index c.args.lines.now) old mid new c.loop-line.invariant c.in-Err.ensures.effects (console_counts mid new (Err c.in-Err.failure) c.in-Err.ensures.uses)) (λ e. cc)
