use Rattle.std.proofs.Common.{[]}
use Rattle.std.proofs.lemmas.Bool.{false≢true}
use Rattle.trace_replay.specs.Commands.{fields_of}
use Rattle.trace_replay.proofs.FieldLemmas.{step_on, no_command}
use Rattle.trace_replay.proofs.commands.is_command.Goals as goal

pub returns-in-None : goal.returns-in-None
returns-in-None c =
    let none = rw c.in-None.is at c.in_ok-next.ensures in
    ((λ e. absurd (false≢true e)), (λ is. absurd (no_command c.loop-next.place c.args.text.now c.loop-next.left.now c.first_field.result.0.now c.first_field.ensures.begins.0 c.loop-next.invariant c.first_field.ensures.begins.1 none is)))

pub loop-next-preserved : goal.loop-next-preserved
loop-next-preserved c =
    step_on c.loop-next.place c.in-Some.next c.args.text.now c.loop-next.left.now c.first_field.result.0.now (fields_of c.in-Some-rest.rest.now) c.loop-next.invariant (rw c.in-Some-rest.is at c.first_field.ensures.fields) (rw c.in-Some.is at c.in_ok-next.ensures)

pub returns-in-None-rest : goal.returns-in-None-rest
returns-in-None-rest c =
    let on = step_on c.loop-next.place c.in-Some.next c.args.text.now c.loop-next.left.now c.first_field.result.0.now [] c.loop-next.invariant (rw c.in-None-rest.is at c.first_field.ensures.fields) (rw c.in-Some.is at c.in_ok-next.ensures) in
    ((λ ends. on.0 (c.may_end.ensures.0 ends)), (λ is. c.may_end.ensures.1 (on.1 is)))
