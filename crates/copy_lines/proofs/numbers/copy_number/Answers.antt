use Rattle.owned_lists.specs.declared.failures.NoMemory.{NoMemory}
use Rattle.copy_lines.proofs.NumberLaws.{numbered}
use Rattle.copy_lines.proofs.numbers.copy_number.Goals as goal

pub returns-in-Some : goal.returns-in-Some
returns-in-Some c = numbered NoMemory c.args.name.now c.args.entry.now c.in-Some.digits.now c.number_in.result (rw c.in-Some.is at c.behind_dot.ensures) c.number_in.ensures
