use Rattle.std.proofs.Common.{◌+◌, ◌∙◌, ◌≡◌, List, ℕ, subst}
use Rattle.program_frame.proofs.InputLemmas.{err_is}
use Rattle.program_frame.proofs.ProgramLemmas.{took}
use Rattle.event_script.specs.declared.script.TheConstants.{SCRIPT_LIMIT}
use Rattle.smnest_app.specs.Rehearsals.{Rehearses}
use Rattle.smnest_app.proofs.Printing.{read_refused, script_refused, run_refused, print_refused, run_ended, run_spent}
use Rattle.smnest_app.proofs.program.rehearse.Goals as goal

pub returns-in_err-script-clause-runs : goal.returns-in_err-script-clause-runs
returns-in_err-script-clause-runs g c = λ identity.
    rw (err_is c.from_residual.result _ c.from_residual.ensures.1)
    (read_refused c.args.words c.args.id.now identity c.args.turns (g.W.Told.outside c.args.world.now) (g.W.Told.outside c.read_input.new.world) c.in_err-script.field-0.0 c.in_err-script.ensures.effects c.in_err-script.ensures.uses)

pub returns-in_err-events-clause-runs : goal.returns-in_err-events-clause-runs
returns-in_err-events-clause-runs g c = λ identity.
    let old = g.W.Told.outside c.args.world.now in
    let mid = g.W.Told.outside c.read_input.new.world in
    rw (err_is c.from_residual-in_err-events.result _ c.from_residual-in_err-events.ensures.1)
    (script_refused c.args.words c.args.id.now identity c.args.turns old mid c.as_slice.result.now c.in_err-events.field-0.0
    (rw c.as_slice.ensures (took (SCRIPT_LIMIT + 1) old mid c.in_ok-script.script c.in_ok-script.ensures.effects c.in_ok-script.ensures.front c.in_ok-script.ensures.uses.console))
    c.in_err-events.ensures.bad)

pub returns-in_err-previous-clause-runs : goal.returns-in_err-previous-clause-runs
returns-in_err-previous-clause-runs g c = λ identity.
    let old = g.W.Told.outside c.args.world.now in
    let mid = g.W.Told.outside c.read_input.new.world in
    rw (err_is c.from_residual-in_err-previous.result _ c.from_residual-in_err-previous.ensures.1)
    (run_refused c.args.words c.args.id.now identity c.args.turns old mid c.in_ok-script.script (took (SCRIPT_LIMIT + 1) old mid c.in_ok-script.script c.in_ok-script.ensures.effects c.in_ok-script.ensures.front c.in_ok-script.ensures.uses.console))

pub returns-in_err-rehearsal-clause-runs : goal.returns-in_err-rehearsal-clause-runs
returns-in_err-rehearsal-clause-runs g c = λ identity.
    let old = g.W.Told.outside c.args.world.now in
    let mid = g.W.Told.outside c.read_input.new.world in
    rw (err_is c.from_residual-in_err-rehearsal.result _ c.from_residual-in_err-rehearsal.ensures.1)
    (run_refused c.args.words c.args.id.now identity c.args.turns old mid c.in_ok-script.script (took (SCRIPT_LIMIT + 1) old mid c.in_ok-script.script c.in_ok-script.ensures.effects c.in_ok-script.ensures.front c.in_ok-script.ensures.uses.console))

pub returns-in_err-trace-clause-runs : goal.returns-in_err-trace-clause-runs
returns-in_err-trace-clause-runs g c = λ identity.
    let old = g.W.Told.outside c.args.world.now in
    let mid = g.W.Told.outside c.read_input.new.world in
    rw (err_is c.from_residual-in_err-trace.result _ c.from_residual-in_err-trace.ensures.1)
    (run_refused c.args.words c.args.id.now identity c.args.turns old mid c.in_ok-script.script (took (SCRIPT_LIMIT + 1) old mid c.in_ok-script.script c.in_ok-script.ensures.effects c.in_ok-script.ensures.front c.in_ok-script.ensures.uses.console))

pub returns-in_err-print-clause-runs : goal.returns-in_err-print-clause-runs
returns-in_err-print-clause-runs g c = λ identity.
    let old = g.W.Told.outside c.args.world.now in
    let mid = g.W.Told.outside c.read_input.new.world in
    let new = g.W.Told.outside c.print.new.self in
    rw (err_is c.from_residual-in_err-print.result _ c.from_residual-in_err-print.ensures.1)
    (print_refused c.args.words c.args.id.now identity c.args.turns old mid new c.in_ok-script.script c.in_err-print.field-0.0 (took (SCRIPT_LIMIT + 1) old mid c.in_ok-script.script c.in_ok-script.ensures.effects c.in_ok-script.ensures.front c.in_ok-script.ensures.uses.console) c.in_err-print.ensures.effects c.in_err-print.ensures.uses)

pub returns-then-rehearsal-clause-runs : goal.returns-then-rehearsal-clause-runs
returns-then-rehearsal-clause-runs g c = λ identity.
    let old = g.W.Told.outside c.args.world.now in
    let mid = g.W.Told.outside c.read_input.new.world in
    let new = g.W.Told.outside c.print.new.self in
    let is : c.in_ok-previous.previous ≡ c.args.id.now = c.in_ok-previous.ensures ∙ c.as_bytes.ensures.value in
    run_ended c.args.words c.args.id.now identity c.args.turns old mid new c.in_ok-script.script c.as_slice-2.result.now c.in_ok-events.events c.in_ok-rehearsal.rehearsal (took (SCRIPT_LIMIT + 1) old mid c.in_ok-script.script c.in_ok-script.ensures.effects c.in_ok-script.ensures.front c.in_ok-script.ensures.uses.console) (rw c.as_slice.ensures at c.in_ok-events.ensures.says)
    (subst (λ (id : List ℕ). Rehearses id c.args.words c.in_ok-events.events c.args.turns c.in_ok-rehearsal.rehearsal) is c.in_ok-rehearsal.ensures) c.if-rehearsal.true
    (record { shown = c.effects.result.now; is_shown = c.effects.ensures; is_text = c.as_slice-2.ensures ∙ c.in_ok-trace.ensures }) c.in_ok-print.ensures.effects

pub returns-clause-runs : goal.returns-clause-runs
returns-clause-runs g c = λ identity.
    let old = g.W.Told.outside c.args.world.now in
    let mid = g.W.Told.outside c.read_input.new.world in
    let new = g.W.Told.outside c.print.new.self in
    let is : c.in_ok-previous.previous ≡ c.args.id.now = c.in_ok-previous.ensures ∙ c.as_bytes.ensures.value in
    run_spent c.args.words c.args.id.now identity c.args.turns old mid new c.in_ok-script.script c.as_slice-2.result.now c.in_ok-events.events c.in_ok-rehearsal.rehearsal (took (SCRIPT_LIMIT + 1) old mid c.in_ok-script.script c.in_ok-script.ensures.effects c.in_ok-script.ensures.front c.in_ok-script.ensures.uses.console) (rw c.as_slice.ensures at c.in_ok-events.ensures.says)
    (subst (λ (id : List ℕ). Rehearses id c.args.words c.in_ok-events.events c.args.turns c.in_ok-rehearsal.rehearsal) is c.in_ok-rehearsal.ensures) c.if-rehearsal.false
    (record { shown = c.effects.result.now; is_shown = c.effects.ensures; is_text = c.as_slice-2.ensures ∙ c.in_ok-trace.ensures }) c.in_ok-print.ensures.effects
