use Rattle.std.proofs.Common.{codes, Some, None}
use Rattle.std.proofs.lemmas.Bool.Decides.{Decides-eqb}
use Rattle.std.proofs.lemmas.Slice.Eq.{strip_prefix_is}
use Rattle.copy_lines.proofs.NumberLaws.{not_behind, parted}
use Rattle.copy_lines.proofs.numbers.behind_dot.Goals as goal

pub returns-in-None : goal.returns-in-None
returns-in-None c = not_behind c.args.entry.now c.args.name.now c.as_bytes.result.now c.as_bytes-2.result.now c.as_bytes.ensures.value c.as_bytes-2.ensures.value (strip_prefix_is Decides-eqb c.as_bytes.result.now c.as_bytes-2.result.now None c.in-None.ensures.cases)

pub returns-in-Some : goal.returns-in-Some
returns-in-Some c =
    parted c.args.entry.now c.args.name.now c.in-Some.rest.now c.strip_prefix-in-Some.result
    (rw c.as_bytes.ensures.value at (rw c.as_bytes-2.ensures.value at (strip_prefix_is Decides-eqb c.as_bytes.result.now c.as_bytes-2.result.now (Some c.in-Some.rest) c.in-Some.ensures.cases)))
    (strip_prefix_is Decides-eqb c.in-Some.rest.now (codes ".") c.strip_prefix-in-Some.result c.strip_prefix-in-Some.ensures.cases)
