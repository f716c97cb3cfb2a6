use Rattle.std.proofs.Common.{◌+◌, inl}
use Rattle.program_frame.proofs.InputLemmas.{err_is}
use Rattle.program_frame.proofs.ProgramLemmas.{took}
use Rattle.smtrace_app.proofs.Printing.{read_refused, no_memory, malformed, print_refused, text_printed}
use Rattle.smtrace_app.specs.declared.program.TheConstants.{TRACE_LIMIT}
use Rattle.smtrace_app.proofs.program.view_input.Goals as goal

pub returns-in_err-trace-clause-runs : goal.returns-in_err-trace-clause-runs
returns-in_err-trace-clause-runs g c = λ words are.
    rw (err_is c.from_residual.result _ c.from_residual.ensures.1)
    (read_refused words (g.C.Told.outside c.args.console.now) (g.C.Told.outside c.read_input.new.world) c.in_err-trace.field-0.0 (inl (c.args.view, are)) c.in_err-trace.ensures.effects c.in_err-trace.ensures.uses)

pub returns-in_err-text-clause-runs : goal.returns-in_err-text-clause-runs
returns-in_err-text-clause-runs g c = λ words are.
    let old = g.C.Told.outside c.args.console.now in
    let mid = g.C.Told.outside c.read_input.new.world in
    rw (err_is c.from_residual-in_err-text.result _ c.from_residual-in_err-text.ensures.1)
    (no_memory words old mid c.in_ok-trace.trace (inl (c.args.view, are)) (took (TRACE_LIMIT + 1) old mid c.in_ok-trace.trace c.in_ok-trace.ensures.effects c.in_ok-trace.ensures.front c.in_ok-trace.ensures.uses.console))

pub returns-in_err-print-in-Text-clause-runs : goal.returns-in_err-print-in-Text-clause-runs
returns-in_err-print-in-Text-clause-runs g c = λ words are.
    let old = g.C.Told.outside c.args.console.now in
    let mid = g.C.Told.outside c.read_input.new.world in
    let new = g.C.Told.outside c.print.new.self in
    rw (err_is c.from_residual-in_err-print-in-Text.result _ c.from_residual-in_err-print-in-Text.ensures.1)
    (print_refused words old mid new c.in_ok-trace.trace c.in_err-print-in-Text.field-0.0 (inl (c.args.view, are)) (took (TRACE_LIMIT + 1) old mid c.in_ok-trace.trace c.in_ok-trace.ensures.effects c.in_ok-trace.ensures.front c.in_ok-trace.ensures.uses.console) c.in_err-print-in-Text.ensures.effects c.in_err-print-in-Text.ensures.uses)

pub returns-in-Text-clause-runs : goal.returns-in-Text-clause-runs
returns-in-Text-clause-runs g c = λ words are.
    let old = g.C.Told.outside c.args.console.now in
    let mid = g.C.Told.outside c.read_input.new.world in
    let new = g.C.Told.outside c.print.new.self in
    text_printed c.args.view words old mid new c.in_ok-trace.trace c.in-Text.text c.as_slice-in-Text.result.now are (took (TRACE_LIMIT + 1) old mid c.in_ok-trace.trace c.in_ok-trace.ensures.effects c.in_ok-trace.ensures.front c.in_ok-trace.ensures.uses.console) (rw (c.in-Text.is, c.as_slice.ensures) at c.in_ok-text.ensures) c.as_slice-in-Text.ensures c.in_ok-print-in-Text.ensures.effects

pub returns-clause-runs : goal.returns-clause-runs
returns-clause-runs g c = λ words are.
    let old = g.C.Told.outside c.args.console.now in
    let mid = g.C.Told.outside c.read_input.new.world in
    malformed words old mid c.in_ok-trace.trace c.in-Malformed.at (inl (c.args.view, are)) (took (TRACE_LIMIT + 1) old mid c.in_ok-trace.trace c.in_ok-trace.ensures.effects c.in_ok-trace.ensures.front c.in_ok-trace.ensures.uses.console) (rw (c.in-Malformed.is, c.as_slice.ensures) at c.in_ok-text.ensures)
