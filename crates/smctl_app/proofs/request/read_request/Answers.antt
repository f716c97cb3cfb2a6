use Rattle.std.proofs.Common.{rules, ◌-◌, length, take, drop, map, Some, string_bytes}
use Rattle.program_frame.proofs.InputLemmas.{err_is}
use Rattle.smctl_app.proofs.WordLaws.{named}
use Rattle.smctl_app.proofs.request.read_request.Goals as goal

pub returns-in_err-read_task-clause-none : goal.returns-in_err-read_task-clause-none
returns-in_err-read_task-clause-none c = rw (err_is c.from_residual.result c.in_err-read_task.field-0.0 c.from_residual.ensures.1) (record {
  control = Some c.as_str-then-eq.result.now;
  others = map string_bytes (take (length c.args.words.now - 2) (drop 2 c.args.words.now));
  names = named string_bytes c.args.words.now c.index-words-0.result c.index-words-1.result c.as_str-then-eq.result.now (search rules) c.index-words-0.is c.index-words-1.is (search rules) (search rules);
  none = c.in_err-read_task.ensures.none;
})

pub returns-then-eq-clause-asks : goal.returns-then-eq-clause-asks
returns-then-eq-clause-asks c = record {
  others = map string_bytes (take (length c.args.words.now - 2) (drop 2 c.args.words.now));
  names = named string_bytes c.args.words.now c.index-words-0.result c.index-words-1.result c.as_str-then-eq.result.now (search rules) c.index-words-0.is c.index-words-1.is (search rules) (search rules);
  says = c.in_ok-read_task.ensures.says;
}
