use Rattle.trace_reading.proofs.CommandLemmas.{one_more, the_last}
use Rattle.trace_reading.proofs.commands.put_command.Goals as goal

pub loop-rest-preserved : goal.loop-rest-preserved
loop-rest-preserved c =
    one_more c.args.text.now c.loop-rest.left.now c.in-Some.rest.now c.first_field.result.0.now c.args.out.now c.loop-rest.out c.put_field.new.out c.loop-rest.invariant (rw c.in-Some.is at c.first_field.ensures.fields) c.in_ok-put_field.ensures

pub returns-in-None : goal.returns-in-None
returns-in-None c =
    the_last c.args.text.now c.loop-rest.left.now c.first_field.result.0.now c.args.out.now c.loop-rest.out c.put_field.new.out c.loop-rest.invariant (rw c.in-None.is at c.first_field.ensures.fields) c.in_ok-put_field.ensures
