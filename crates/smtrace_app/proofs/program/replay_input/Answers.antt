use Rattle.std.proofs.Common.{◌+◌, inr}
use Rattle.program_frame.proofs.InputLemmas.{err_is}
use Rattle.program_frame.proofs.ProgramLemmas.{took}
use Rattle.smtrace_app.proofs.Printing.{read_refused, no_memory, malformed, print_refused, different, same_printed}
use Rattle.smtrace_app.specs.declared.program.TheConstants.{TRACE_LIMIT}
use Rattle.smtrace_app.proofs.program.replay_input.Goals as goal

pub returns-in_err-trace-clause-runs : goal.returns-in_err-trace-clause-runs
returns-in_err-trace-clause-runs g c = λ words are.
    rw (err_is c.from_residual.result _ c.from_residual.ensures.1)
    (read_refused words (g.C.Told.outside c.args.console.now) (g.C.Told.outside c.read_input.new.world) c.in_err-trace.field-0.0 (inr are) c.in_err-trace.ensures.effects c.in_err-trace.ensures.uses)

pub returns-in_err-verdict-clause-runs : goal.returns-in_err-verdict-clause-runs
returns-in_err-verdict-clause-runs g c = λ words are.
    let old = g.C.Told.outside c.args.console.now in
    let mid = g.C.Told.outside c.read_input.new.world in
    rw (err_is c.from_residual-in_err-verdict.result _ c.from_residual-in_err-verdict.ensures.1)
    (no_memory words old mid c.in_ok-trace.trace (inr are) (took (TRACE_LIMIT + 1) old mid c.in_ok-trace.trace c.in_ok-trace.ensures.effects c.in_ok-trace.ensures.front c.in_ok-trace.ensures.uses.console))

pub returns-in_err-print-in-Same-clause-runs : goal.returns-in_err-print-in-Same-clause-runs
returns-in_err-print-in-Same-clause-runs g c = λ words are.
    let old = g.C.Told.outside c.args.console.now in
    let mid = g.C.Told.outside c.read_input.new.world in
    let new = g.C.Told.outside c.print.new.self in
    rw (err_is c.from_residual-in_err-print-in-Same.result _ c.from_residual-in_err-print-in-Same.ensures.1)
    (print_refused words old mid new c.in_ok-trace.trace c.in_err-print-in-Same.field-0.0 (inr are) (took (TRACE_LIMIT + 1) old mid c.in_ok-trace.trace c.in_ok-trace.ensures.effects c.in_ok-trace.ensures.front c.in_ok-trace.ensures.uses.console) c.in_err-print-in-Same.ensures.effects c.in_err-print-in-Same.ensures.uses)

pub returns-in-Same-clause-runs : goal.returns-in-Same-clause-runs
returns-in-Same-clause-runs g c = λ words are.
    let old = g.C.Told.outside c.args.console.now in
    let mid = g.C.Told.outside c.read_input.new.world in
    let new = g.C.Told.outside c.print.new.self in
    same_printed words old mid new c.in_ok-trace.trace are (took (TRACE_LIMIT + 1) old mid c.in_ok-trace.trace c.in_ok-trace.ensures.effects c.in_ok-trace.ensures.front c.in_ok-trace.ensures.uses.console) (rw (c.in-Same.is, c.as_slice.ensures) at c.in_ok-verdict.ensures) c.in_ok-print-in-Same.ensures.effects

pub returns-in-Differs-clause-runs : goal.returns-in-Differs-clause-runs
returns-in-Differs-clause-runs g c = λ words are.
    let old = g.C.Told.outside c.args.console.now in
    let mid = g.C.Told.outside c.read_input.new.world in
    different words old mid c.in_ok-trace.trace c.in-Differs.at are (took (TRACE_LIMIT + 1) old mid c.in_ok-trace.trace c.in_ok-trace.ensures.effects c.in_ok-trace.ensures.front c.in_ok-trace.ensures.uses.console) (rw (c.in-Differs.is, c.as_slice.ensures) at c.in_ok-verdict.ensures)

pub returns-clause-runs : goal.returns-clause-runs
returns-clause-runs g c = λ words are.
    let old = g.C.Told.outside c.args.console.now in
    let mid = g.C.Told.outside c.read_input.new.world in
    malformed words old mid c.in_ok-trace.trace c.in-Malformed.at (inr are) (took (TRACE_LIMIT + 1) old mid c.in_ok-trace.trace c.in_ok-trace.ensures.effects c.in_ok-trace.ensures.front c.in_ok-trace.ensures.uses.console) (rw (c.in-Malformed.is, c.as_slice.ensures) at c.in_ok-verdict.ensures)
