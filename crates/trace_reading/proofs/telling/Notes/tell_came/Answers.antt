use Rattle.std.proofs.Common.{Some, None, rules}
use Rattle.trace_reading.proofs.TellingLemmas.{keeps}
use Rattle.trace_reading.proofs.telling.Notes.tell_came.Goals as goal

pub returns-in_ok-insert-in-Some : goal.returns-in_ok-insert-in-Some
returns-in_ok-insert-in-Some c = λ parts are.
    keeps c.args.conn c.args.self.now.clock parts c.args.self.now.programs c.insert.new.self c.remove-known.result (Some c.in-Some.program) c.args.out.now c.put_came.new.out (search rules) (λ q. search rules) (rw c.in-Some.is at (c.in_ok-known.ensures parts are))

pub returns-in-None : goal.returns-in-None
returns-in-None c = λ parts are.
    keeps c.args.conn c.args.self.now.clock parts c.args.self.now.programs c.remove-known.new.self c.remove-known.result None c.args.out.now c.put_came.new.out (search rules) (λ q. search rules) (rw c.in-None.is at (c.in_ok-known.ensures parts are))
