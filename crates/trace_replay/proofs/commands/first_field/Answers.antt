use Rattle.std.proofs.Common.{[], ◌∙◌, ap}
use Rattle.trace_replay.specs.Commands.{fields_of}
use Rattle.trace_replay.proofs.FieldLemmas.{fields_of-space, fields_of-last}
use Rattle.trace_replay.proofs.commands.first_field.Goals as goal

pub returns-in-Some-clause-fields : goal.returns-in-Some-clause-fields
returns-in-Some-clause-fields c = ap fields_of c.in-Some.ensures.parts ∙ fields_of-space c.in-Some.field.now c.in-Some.rest.now c.in-Some.ensures.first

pub returns-in-Some-clause-begins : goal.returns-in-Some-clause-begins
returns-in-Some-clause-begins c = (fields_of c.in-Some.rest.now, ap fields_of c.in-Some.ensures.parts ∙ fields_of-space c.in-Some.field.now c.in-Some.rest.now c.in-Some.ensures.first)

pub returns-in-None-clause-begins : goal.returns-in-None-clause-begins
returns-in-None-clause-begins c = ([], fields_of-last c.args.text.now c.in-None.ensures)

pub returns-in-None-clause-fields : goal.returns-in-None-clause-fields
returns-in-None-clause-fields c = fields_of-last c.args.text.now c.in-None.ensures
